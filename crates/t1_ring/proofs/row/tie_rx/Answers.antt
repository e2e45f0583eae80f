use Rattle.std.proofs.Common.{◌∙◌, arith, sym}
use Rattle.std.proofs.lemmas.Grind.{common_steps}
use Rattle.t1_ring.proofs.Sets.{same_some, tx_mark_here, sent_at_set}
use Rattle.t1_ring.proofs.row.tie_rx.Goals as goal

pub tie-requires : goal.tie-requires
tie-requires g c = same_some _ _ (sym (tx_mark_here c.args.ends.now.items c.args.at c.index_mut.result.now c.index_mut.ensures.value (grind (arith, common_steps))) ∙ c.requires.port)

pub returns-clause-tied : goal.returns-clause-tied
returns-clause-tied g c = (c.tie.new.rx.known, sym c.tie.ensures.tied ∙ sym (sent_at_set c.args.ends.now.items c.args.at c.tie.new.tx (grind (arith, common_steps))))
