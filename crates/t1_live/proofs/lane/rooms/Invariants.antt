use Rattle.std.proofs.Common.{◌≡◌, ◌+◌, ◌-◌, ◌^◌, ◌<◌, ℕ, true, get_or}
use Rattle.t1_ring.specs.Row.{rooms_of, has_bit}
use Rattle.t1_live.proofs.lane.rooms.Given as goal

abbrev pub invariant-loop-k : goal.invariant-loop-k
invariant-loop-k l = record {
  small : l.bits < 2 ^ l.k;
  room : (j : ℕ) → has_bit l.bits j ≡ true → 0 < get_or (rooms_of l.lanes.items) (l.count - l.k + j) 0;
  free : (j : ℕ) → 0 < get_or (rooms_of l.lanes.items) (l.count - l.k + j) 0 → has_bit l.bits j ≡ true;
}
