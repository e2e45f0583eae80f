use Rattle.std.proofs.Common.{◌≡◌, ◌+◌, ◌≤◌, length, drop, vec_capacity}
use Rattle.std.specs.Vec.Iter.{into_iter_items, into_iter_len}
use Rattle.t1_shape.specs.Numbers.{destinations}
use Rattle.t1_machine.specs.Start.{setup_of}
use Rattle.t1_crew.specs.Slots.{ids}
use Rattle.t1_live.specs.Sides.{core_id, destination_id, crossbar_id}
use Rattle.t1_live.specs.Starts.{AllStart}
use Rattle.t1_live.specs.Lanes.{hubs_at, queues_of}
use Rattle.t1_live.specs.Wires.{AreWired}
use Rattle.t1_live.proofs.build.cores.Given as goal

abbrev pub invariant-loop-end : goal.invariant-loop-end
invariant-loop-end l = record {
  starts : AllStart l.cores.items;
  room : l.config.cores ≤ vec_capacity l.cores;
  number_is : l.number ≡ length l.cores.items;
  count : length l.cores.items + into_iter_len l.end-iterator ≡ l.config.cores;
  rest : drop (length l.cores.items) l.fn.ends.items ≡ into_iter_items l.end-iterator;
  queues : queues_of l.hubs.items ≡ queues_of l.fn.hubs.items;
  all : length l.hubs.items ≡ destinations l.config.chip;
  hubs_are : l.hubs.items ≡ hubs_at 0 l.number l.config.cores (queues_of l.hubs.items);
  wired : AreWired (setup_of l.config l.image) (ids core_id l.cores.items) (ids destination_id l.dests.items) (crossbar_id l.crossbar);
}
