use Rattle.std.proofs.Common.{◌≡◌, ◌+◌, ◌-◌, ◌&&◌, ℕ, get_or, if◌then◌else◌, leb, ltb, length}
use Rattle.t1_take.proofs.head.write_block.Given as goal

abbrev pub invariant-loop-byte : goal.invariant-loop-byte
invariant-loop-byte l = record {
  len : length l.ram ≡ length l.initial.ram;
  bytes : (at : ℕ) → get_or l.ram at 0 ≡ (if leb l.addr at && ltb at (l.addr + l.byte) then get_or l.block (at - l.addr) 0 else get_or l.initial.ram at 0);
}
