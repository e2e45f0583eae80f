use Rattle.std.proofs.Common.{◌≡◌, ◌+◌, ◌-◌, ◌^◌, ◌<◌, ℕ, true, get_or, vec_len}
use Rattle.t1_ring.specs.Row.{sent_by, rooms_of, tx_marks, has_bit}
use Rattle.t1_ring.proofs.row.rooms.Given as goal

abbrev pub invariant-loop-k : goal.invariant-loop-k
invariant-loop-k g l = record {
  marks : tx_marks l.ends.items ≡ tx_marks l.initial.ends.items;
  len : vec_len l.ends ≡ vec_len l.initial.ends;
  sent : sent_by l.ends.items ≡ sent_by l.initial.ends.items;
  small : l.bits < 2 ^ l.k;
  room : (j : ℕ) → has_bit l.bits j ≡ true → 0 < get_or (rooms_of l.ends.items) (l.count - l.k + j) 0;
}
