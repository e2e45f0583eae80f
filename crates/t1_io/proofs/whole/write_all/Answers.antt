use Rattle.std.proofs.Common.{arith}
use Rattle.std.proofs.lemmas.Grind.{common_steps}
use Rattle.t1_io.proofs.Growth.{Grew-take}
use Rattle.t1_io.proofs.whole.write_all.Goals as goal

pub loop-done-preserved : goal.loop-done-preserved
loop-done-preserved g c = record {
  within = grind (arith, common_steps);
  faults = grind (arith, common_steps);
  bytes = Grew-take _ _ _ _ _ _ _ c.split_at.ensures.back c.loop-done.invariant.bytes c.in_ok-done.ensures.bytes;
}
