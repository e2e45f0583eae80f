-- The laws of joint histories.
use Rattle.t1_event.specs.Places.{Run}
use Rattle.t1_joint.specs.JointHistory.{run_of}
use Rattle.t1_tso.specs.Laws.{JointHistoriesObeyTso, JointHistoriesAreCovered}
use Rattle.t1_tso.proofs.Facts.{joint}
use Rattle.t1_tso.proofs.Cover.{covered}
use Rattle.t1_tso.proofs.Few.{few_kills}
use Rattle.t1_tso.proofs.Lines.{lines_hold}
use Rattle.t1_tso.proofs.Value.{obeys_tso}

pub log_is_covered : JointHistoriesAreCovered
log_is_covered w traces log j =
    let r : Run = run_of w traces log in
    let k = joint w traces log j in
    let few = few_kills r k in
    (record { tags = λ core cache n below within. covered w.config.chip w.image.ram w.config.strands log few core cache n }, λ core cache t slot line below within e. lines_hold r k few core cache t below slot line e)

pub history_obeys_tso : JointHistoriesObeyTso
history_obeys_tso w traces log order j o =
    let r : Run = run_of w traces log in
    let k = joint w traces log j in
    (o.listing, obeys_tso r k order o (λ core cache t slot line below e. lines_hold r k (few_kills r k) core cache t below slot line e))
