use Rattle.std.proofs.Common.{◌≡◌, ◌*◌, ℕ, length}
use Rattle.t1_check.specs.Latest.{at}
use Rattle.t1_check.specs.Sources.{own_at, AreOwn}
use Rattle.t1_check.proofs.own.own_row.Given as goal

abbrev pub invariant-loop-number : goal.invariant-loop-number
invariant-loop-number l = record {
  len : length l.own.items ≡ 8 * l.number;
  latest : (addr : ℕ) → at l.latest addr ≡ own_at l.items l.row l.number addr;
  all : AreOwn l.items l.row l.own.items l.number;
}
