-- The strand at the place moved, and goes to the end of the queue.
use Rattle.std.proofs.Common.{◌∙◌, sym}
use Rattle.t1_core.proofs.Quiet.{turn_core, turn_did}
use Rattle.t1_core.proofs.Turning.{acted_within}
use Rattle.t1_core.proofs.sparc_core.Core.quick_turn.Goals as goal

pub move_last-requires : goal.move_last-requires
move_last-requires c = acted_within _ _ _ _ _ (c.in-Some.ensures.some 0)

pub returns-clause-moved : goal.returns-clause-moved
returns-clause-moved c = λ room yes. record {
  core = c.move_last.ensures ∙ turn_core _ _ _ _ _ (c.in-Some.ensures.some room);
  did = sym (turn_did _ _ _ _ _ (c.in-Some.ensures.some room));
}
