-- A verdict on a log that was written.
use Rattle.std.proofs.Common.{◌≡◌, ℕ, true, false, List, Option, Result, Ok, Err, refl, sym, subst}
use Rattle.std.specs.Prelude.{OnOk, OnErr, is_err}
use Rattle.t1_io.specs.Held.{Grew}
use Rattle.t1_event.specs.declared.report.Report.{Report}
use Rattle.t1_event.specs.Items.{items_of}
use Rattle.t1_check.specs.declared.verdict.Verdict.{Verdict as Judgement}
use Rattle.t1_check.specs.declared.verdict.Verdict.TheVariants.{Holds, Broken}
use Rattle.t1_check.specs.Verdicts.{Judges}
use Rattle.t1_cli.specs.declared.verdict.Verdict.{Verdict}
use Rattle.t1_cli.specs.Checks.{IsLogOf, checked_line}
use Rattle.t1_cli.specs.Verdict.{Checked, told_of}

-- the whole line was written
pub checked_so : (input : List ℕ) (old new : Option (List ℕ)) (report : Report) (j : Judgement) (v : Verdict) → v ≡ told_of j → IsLogOf input report
    → Judges j report.image.ram (items_of report.traces) report.order → Grew old new (checked_line j) → Checked input old new v
checked_so input old new report Holds v is log judges grew =
    subst (λ (w : Verdict). Checked input old new w) (sym is)
    (record { report = report; log = log; judgement = Holds; judges = judges; came = refl; printed = grew })
checked_so input old new report (Broken law first second) v is log judges grew =
    subst (λ (w : Verdict). Checked input old new w) (sym is)
    (record { report = report; log = log; judgement = Broken law first second; judges = judges; came = λ e. let no : ⊥ = cc in no; printed = grew })

pub went_well : {T E : Type 0} (r : Result T E) (P : Type 0) → false ≡ is_err r → OnOk r P → P
went_well (Ok v) P went ok = ok
went_well (Err e) P went ok = let no : ⊥ = cc in absurd no

pub went_wrong : {T E : Type 0} (r : Result T E) (P : Type 0) → true ≡ is_err r → OnErr r P → P
went_wrong (Ok v) P went err = let no : ⊥ = cc in absurd no
went_wrong (Err e) P went err = err
