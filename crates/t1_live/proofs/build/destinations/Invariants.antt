use Rattle.std.proofs.Common.{◌≡◌, ◌+◌, ◌≤◌, length, drop, vec_capacity}
use Rattle.std.specs.Vec.Iter.{into_iter_items, into_iter_len}
use Rattle.t1_machine.specs.Start.{setup_of}
use Rattle.t1_ring.specs.Row.{tx_marks}
use Rattle.t1_crew.specs.Slots.{ids}
use Rattle.t1_live.specs.Sides.{destination_id}
use Rattle.t1_live.specs.Starts.{ServedNothing}
use Rattle.t1_live.specs.Lanes.{hubs_at, queues_of}
use Rattle.t1_live.specs.Wires.{AreServing}
use Rattle.t1_live.proofs.build.destinations.Given as goal

abbrev pub invariant-loop-end : goal.invariant-loop-end
invariant-loop-end l = record {
  served : ServedNothing l.dests.items;
  room : (l.count ≤ vec_capacity l.dests) × (l.count ≤ vec_capacity l.hubs);
  number : l.dest ≡ length l.dests.items;
  both : length l.hubs.items ≡ length l.dests.items;
  count : length l.dests.items + into_iter_len l.end-iterator ≡ l.count;
  rest : drop (length l.dests.items) l.fn.ends.items ≡ into_iter_items l.end-iterator;
  hubs_are : l.hubs.items ≡ hubs_at 0 0 l.config.cores (queues_of l.hubs.items);
  done : AreServing (setup_of l.config l.image) (ids destination_id l.dests.items) (queues_of l.hubs.items) (tx_marks l.fn.ends.items);
}
