use Rattle.std.proofs.Common.{◌≡◌, ℕ, ◌+◌, ◌-◌, ◌≤◌, List, ◌++◌, length, take}
use Rattle.t1_elf.specs.Gaps.{AreGaps, Covers, gaps_of}
use Rattle.t1_elf.specs.Images.{zeros_of, with_bytes_at}
use Rattle.t1_elf.proofs.coverage.Coverage.lay_under.Given as goal

abbrev pub invariant-loop-gap : goal.invariant-loop-gap
invariant-loop-gap l = record {
  len : length l.self.memory.items ≡ length l.initial.self.memory.items;
  gaps : AreGaps (gaps_of l.self) (length l.self.memory.items);
  above : l.addr ≤ l.high;
  below : l.high ≤ l.addr + length l.bytes + l.zeros;
  laid : (image under : List ℕ)
      → Covers l.initial.self image (with_bytes_at under l.addr (l.bytes ++ zeros_of l.zeros))
      → length under ≡ length l.initial.self.memory.items
      → Covers l.self image (with_bytes_at under l.addr (take (l.high - l.addr) (l.bytes ++ zeros_of l.zeros)));
}

abbrev pub decreases-loop-gap : goal.decreases-loop-gap
decreases-loop-gap l = l.high
