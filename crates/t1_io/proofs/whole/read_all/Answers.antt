use Rattle.std.proofs.Common.{◌+◌, take, arith}
use Rattle.std.proofs.KnownBytes.{Consumes-kept}
use Rattle.std.proofs.lemmas.Grind.{common_steps}
use Rattle.std.proofs.lemmas.List.{length-take}
use Rattle.t1_io.proofs.Pieces.{Consumes-behind}
use Rattle.t1_io.proofs.whole.read_all.Goals as goal

pub returns-in_default-read_at-clause-short : goal.returns-in_default-read_at-clause-short
returns-in_default-read_at-clause-short g c = λ _. (
  take c.loop-all.came c.loop-all.all.items,
  Consumes-kept _ _ _ _ c.loop-all.invariant.bytes c.in_default-read_at.ensures.bytes.2,
  omega (arith, length-take c.loop-all.came c.loop-all.all.items),
)

pub returns-then-came-most-clause-long : goal.returns-then-came-most-clause-long
returns-then-came-most-clause-long g c = λ _. (
  take (c.loop-all.came + c.in-Ok-read_at.count) c.read_at.new.all.items,
  Consumes-behind _ _ _ _ _ _ _ _ c.loop-all.invariant.bytes c.in-Ok.ensures.front c.in-Ok-read_at.ensures.bytes.1 c.in-Ok-read_at.ensures.bytes.2.1,
  omega (arith, length-take (c.loop-all.came + c.in-Ok-read_at.count) c.read_at.new.all.items, c.in-Ok-read_at.ensures.bytes.2.0),
)

pub loop-all-preserved : goal.loop-all-preserved
loop-all-preserved g c = record {
  within = omega arith;
  room = omega (arith, c.in-Ok-read_at.ensures.bytes.2.0);
  faults = grind (arith, common_steps);
  bytes = Consumes-behind _ _ _ _ _ _ _ _ c.loop-all.invariant.bytes c.in-Ok.ensures.front c.in-Ok-read_at.ensures.bytes.1 c.in-Ok-read_at.ensures.bytes.2.1;
}
