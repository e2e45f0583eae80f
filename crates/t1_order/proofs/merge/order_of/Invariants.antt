use Rattle.std.proofs.Common.{◌≡◌, ◌-◌, vec_len, vec_capacity}
use Rattle.t1_event.specs.Items.{items_of}
use Rattle.t1_order.specs.Merge.{IsRest}
use Rattle.t1_order.proofs.Listing.{IsOrderSoFar}
use Rattle.t1_order.proofs.merge.order_of.Given as goal

abbrev pub invariant-loop-place : goal.invariant-loop-place
invariant-loop-place l = record {
  rest : IsRest (items_of l.traces) l.rest;
  order : IsOrderSoFar (items_of l.traces) l.rest l.fn.out.items l.out.items;
  room : vec_capacity l.out ≡ vec_capacity l.fn.out;
}

abbrev pub decreases-loop-place : goal.decreases-loop-place
decreases-loop-place l = vec_capacity l.out - vec_len l.out
