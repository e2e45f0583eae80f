use Rattle.std.proofs.Common.{rules, arith}
use Rattle.std.proofs.lemmas.Grind.{common_steps}
use Rattle.t1_crew.proofs.Rows.{starts}
use Rattle.t1_crew.proofs.run.start.Goals as goal

pub loop-agent-preserved : goal.loop-agent-preserved
loop-agent-preserved g c = record {
  len = grind (arith, common_steps);
  room = grind (arith, common_steps);
  same = starts _ _ _ c.in-Some.agent _ _ _ c.push_reserved.ensures.items (search rules) c.started.ensures c.loop-agent.invariant.same;
}
