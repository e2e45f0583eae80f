use Rattle.std.proofs.Common.{◌+◌, ◌≤◌, ◌∙◌, length, vec_capacity, refl, sym, subst, arith}
use Rattle.t1_event.specs.Items.{items_of}
use Rattle.t1_order.specs.Orderable.{accesses_in}
use Rattle.t1_order.proofs.Listing.{IsOrderSoFar, starts, goes_on, has_room, ends}
use Rattle.t1_order.proofs.merge.order_of.Goals as goal

pub loop-place-init : goal.loop-place-init
loop-place-init c = record {
  rest = c.rest_of-rest.ensures.rest;
  order = starts (items_of c.args.traces.now) c.rest_of-rest.result c.args.out.now.items c.rest_of-rest.ensures.none;
  room = refl;
}

pub push_reserved-requires : goal.push_reserved-requires
push_reserved-requires c =
    let before = c.args.out.now in
    let out = c.loop-place.out in
    let i = c.loop-place.invariant in
    let accesses = accesses_in (items_of c.args.traces.now) in
    let fits : length before.items + accesses ≤ vec_capacity before = omega (arith, before.ok.0, c.requires.room) in
    let low = has_room (items_of c.args.traces.now) c.loop-place.rest c.next_place.new.rest before.items out.items c.in-Some.place (vec_capacity before) i.order c.in-Some.ensures.some fits in
    omega (arith, low, out.ok.0, i.room)

pub loop-place-preserved : goal.loop-place-preserved
loop-place-preserved c =
    let traces = items_of c.args.traces.now in
    let before = c.args.out.now.items in
    let i = c.loop-place.invariant in
    record {
      rest = c.in-Some.ensures.rest;
      order =
          subst (λ out. IsOrderSoFar traces c.next_place.new.rest before out) (sym c.push_reserved.ensures.items) (goes_on traces c.loop-place.rest c.next_place.new.rest before c.loop-place.out.items c.in-Some.place i.order c.in-Some.ensures.some);
      room = c.push_reserved.ensures.capacity ∙ i.room;
    }

pub returns-clause-order : goal.returns-clause-order
returns-clause-order c =
    ends (items_of c.args.traces.now) c.loop-place.rest c.args.out.now.items c.loop-place.out.items c.loop-place.invariant.order c.in_default.ensures.none
