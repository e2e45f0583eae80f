use Rattle.std.proofs.Common.{◌≡◌, ◌≤◌, length, vec_len, vec_capacity}
use Rattle.t1_ring.specs.Row.{sent_by, tx_marks, AreUnused}
use Rattle.t1_live.specs.Lanes.{hubs_at, queues_of}
use Rattle.t1_live.proofs.Lanes.{seats_upto}
use Rattle.t1_live.proofs.hubs.lanes.Given as goal

abbrev pub invariant-loop-d : goal.invariant-loop-d
invariant-loop-d l = record {
  room : length l.initial.hubs.items ≤ vec_capacity l.lanes;
  len : vec_len l.lanes ≡ l.d;
  count : vec_len l.hubs ≡ length l.initial.hubs.items;
  hubs_are : l.hubs.items ≡ hubs_at l.d l.core l.cores (queues_of l.initial.hubs.items);
  marks : tx_marks l.lanes.items ≡ seats_upto l.d l.core (queues_of l.initial.hubs.items);
  unused : AreUnused (sent_by l.lanes.items);
}
