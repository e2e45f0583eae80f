use Rattle.std.proofs.Common.{rules, arith}
use Rattle.std.proofs.lemmas.Grind.{common_steps}
use Rattle.t1_crew.proofs.Rows.{joins, over_snoc}
use Rattle.t1_crew.proofs.run.finish.Goals as goal

pub loop-slot-preserved : goal.loop-slot-preserved
loop-slot-preserved g c = record {
  room = grind (arith, common_steps);
  same = joins _ _ _ c.in-Some.slot _ _ _ c.push_reserved.ensures.items (search rules) c.join-kept.ensures c.loop-slot.invariant.same;
  over = grind (arith, common_steps, over_snoc, c.loop-slot.invariant.over);
}
