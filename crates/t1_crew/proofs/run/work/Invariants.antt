use Rattle.std.proofs.Common.{◌≡◌}
use Rattle.t1_crew.proofs.run.work.Given as goal

abbrev pub invariant-loop : goal.invariant-loop
invariant-loop g l = g.A.Agent.id l.kept.agent ≡ g.A.Agent.id l.initial.kept.agent
