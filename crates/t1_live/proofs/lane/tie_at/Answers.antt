use Rattle.std.proofs.Common.{◌∙◌, List, sym, subst, arith}
use mathlib.Core.List.{IsPrefix}
use Rattle.std.proofs.lemmas.Grind.{common_steps}
use Rattle.t1_packet.specs.Data.{RequestData}
use Rattle.t1_ring.specs.Queue.{of_core}
use Rattle.t1_ring.proofs.Sets.{same_some, tx_mark_here, sent_here}
use Rattle.t1_live.proofs.lane.tie_at.Goals as goal

pub tie-requires : goal.tie-requires
tie-requires c =
    same_some _ _ (sym (tx_mark_here c.args.lanes.now.items c.args.at c.index_mut.result.now c.index_mut.ensures.value (grind (arith, common_steps))) ∙ c.requires.seat)

pub returns-clause-first : goal.returns-clause-first
returns-clause-first c =
    subst (λ (l : List RequestData). IsPrefix (of_core c.args.core c.args.dest.now.taken) l)
    (sym (sent_here c.args.lanes.now.items c.args.at c.index_mut.result.now c.index_mut.ensures.value (grind (arith, common_steps)))) c.tie.ensures.first
