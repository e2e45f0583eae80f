use Rattle.std.proofs.Common.{◌≡◌}
use Rattle.t1_live.specs.Sides.{core_id}
use Rattle.t1_live.proofs.core_agent.CoreAgentAgent.turn.Given as goal

abbrev pub invariant-loop-strand : goal.invariant-loop-strand
invariant-loop-strand g l = core_id l.self ≡ core_id l.initial.self
