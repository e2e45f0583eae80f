use Rattle.std.proofs.Common.{◌≡◌, vec_capacity, vec_len}
use Rattle.t1_l2.specs.Array.{lines_of_bank}
use Rattle.t1_l2.proofs.array.lines_of.Given as goal

abbrev pub invariant-loop-i : goal.invariant-loop-i
invariant-loop-i l = record {
  items : l.lines.items ≡ lines_of_bank l.fn.chip l.bank l.ram l.i;
  len : vec_len l.lines ≡ l.i;
  room : vec_capacity l.lines ≡ l.count;
}
