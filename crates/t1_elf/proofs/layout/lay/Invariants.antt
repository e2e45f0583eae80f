use Rattle.std.proofs.Common.{◌≡◌, ◌≤◌, length, take}
use Rattle.t1_elf.specs.Gaps.{Covers}
use Rattle.t1_elf.specs.Images.{zeros_of, laid}
use Rattle.t1_elf.proofs.layout.lay.Given as goal

abbrev pub invariant-loop-left : goal.invariant-loop-left
invariant-loop-left l = record {
  size : length l.coverage.memory.items ≡ l.ram;
  few : l.left ≤ length l.chunks;
  laid : Covers l.coverage (laid (zeros_of l.ram) l.chunks) (laid (zeros_of l.ram) (take l.left l.chunks));
}

abbrev pub decreases-loop-left : goal.decreases-loop-left
decreases-loop-left l = l.left
