use Rattle.std.proofs.Common.{◌≡◌, ◌&&◌, ℕ, get_or, if◌then◌else◌, max, leb, ltb, length}
use Rattle.t1_check.proofs.latest.Latest.raise.Given as goal

abbrev pub invariant-loop-byte : goal.invariant-loop-byte
invariant-loop-byte l = record {
  len : length l.cells ≡ 8;
  cells : (b : ℕ) → get_or l.cells b 0 ≡ (if leb l.low b && ltb b l.byte then max (get_or l.initial.cells b 0) l.position else get_or l.initial.cells b 0);
}
