use Rattle.std.proofs.Common.{◌∙◌, ◌++◌, ap, arith, sym}
use Rattle.std.proofs.lemmas.Grind.{common_steps}
use Rattle.t1_ring.proofs.Sets.{same_some, rx_mark_here, got_at_set}
use Rattle.t1_ring.proofs.row.tie_tx.Goals as goal

pub tie-requires : goal.tie-requires
tie-requires g c = same_some _ _ (c.requires.port ∙ rx_mark_here c.args.others.now.items c.args.place c.index_mut.result.now c.index_mut.ensures.value (grind (arith, common_steps)))

pub returns-clause-tied : goal.returns-clause-tied
returns-clause-tied g c = (
  c.tie.new.rx.known,
  ap (λ l. l ++ c.tie.new.rx.known) (got_at_set c.args.others.now.items c.args.place c.tie.new.rx (grind (arith, common_steps))) ∙ sym c.tie.ensures.tied,
)
