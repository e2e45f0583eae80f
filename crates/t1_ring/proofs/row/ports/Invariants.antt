use Rattle.std.proofs.Common.{◌≡◌, ◌≤◌, vec_len, vec_capacity}
use Rattle.t1_ring.specs.Row.{sent_by, tx_marks, received_by, rx_marks, AreUnused}
use Rattle.t1_ring.proofs.row.ports.Given as goal

abbrev pub invariant-loop : goal.invariant-loop
invariant-loop g l = record {
  senders : vec_len l.senders ≡ l.counter;
  receivers : vec_len l.receivers ≡ l.counter;
  room : (l.count ≤ vec_capacity l.senders) × (l.count ≤ vec_capacity l.receivers);
  marks : tx_marks l.senders.items ≡ rx_marks l.receivers.items;
  sent : AreUnused (sent_by l.senders.items);
  got : AreUnused (received_by l.receivers.items);
}
