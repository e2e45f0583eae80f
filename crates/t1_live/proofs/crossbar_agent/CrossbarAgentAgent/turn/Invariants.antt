use Rattle.std.proofs.Common.{◌≡◌}
use Rattle.t1_live.specs.Sides.{crossbar_id}
use Rattle.t1_live.proofs.crossbar_agent.CrossbarAgentAgent.turn.Given as goal

abbrev pub invariant-loop-dest : goal.invariant-loop-dest
invariant-loop-dest g l = crossbar_id l.self ≡ crossbar_id l.initial.self
