use Rattle.std.proofs.Common.{◌≡◌, ◌∷◌, ◌∙◌, ◌+◌, ◌<◌, List, length, drop, refl, sym, ap, subst, rules, arith}
use Rattle.std.specs.List.{slice_get}
use Rattle.std.specs.Vec.Iter.{into_iter_items}
use Rattle.std.proofs.lemmas.Grind.{common_steps}
use Rattle.t1_shape.specs.Numbers.{destinations}
use Rattle.t1_machine.specs.Start.{setup_of}
use Rattle.t1_ring.specs.Ends.{QueueName, Mark}
use Rattle.t1_ring.proofs.Sets.{tx_marks_length}
use Rattle.t1_crew.specs.Id.{Id}
use Rattle.t1_crew.specs.Slots.{ids}
use Rattle.t1_live.specs.Lanes.{AreOf, seats_at, queues_of, hubs_at}
use Rattle.t1_live.specs.Sides.{core_id, destination_id, crossbar_id}
use Rattle.t1_live.specs.Starts.{AllStart}
use Rattle.t1_live.specs.Wires.{AreWired}
use Rattle.t1_live.proofs.Begins.{start_more}
use Rattle.t1_live.proofs.Fitting.{ids_length}
use Rattle.t1_live.proofs.Lanes.{seats_are_of, seats_length, hub_queues, queues_length}
use Rattle.t1_live.proofs.Wiring.{next_of, rx_here, rx_unused, wired_more, sends_to, ids_snoc, length_snoc}
use Rattle.t1_live.proofs.build.cores.Goals as goal

pub new-requires-clause-none : goal.new-requires-clause-none
new-requires-clause-none c =
    let more : into_iter_items c.loop-end.end-iterator ≡ c.in-Some.end ∷ into_iter_items c.next.new.self = search rules in
    sym (rx_unused c.args.ends.items (length c.loop-end.cores.items) c.in-Some.end (into_iter_items c.next.new.self) (c.loop-end.invariant.rest ∙ more)) ∙ c.requires.unused (length c.loop-end.cores.items)

pub loop-end-preserved : goal.loop-end-preserved
loop-end-preserved c =
    let i = c.loop-end.invariant in
    let cores = c.loop-end.cores.items in
    let hubs = c.loop-end.hubs.items in
    let number = c.loop-end.number in
    let all = c.args.hubs.items in
    let now = c.lanes.new.hubs.items in
    let dests : List Id = ids destination_id c.args.dests.now.items in
    let more : into_iter_items c.loop-end.end-iterator ≡ c.in-Some.end ∷ into_iter_items c.next.new.self = search rules in
    let rest = i.rest ∙ more in
    let one = c.in_ok-new.field-0 in
    let id = c.in_ok-new.ensures.id in
    let pushed = c.push_reserved.ensures.items in
    let long : length c.push_reserved.new.self.items ≡ length cores + 1 = ap length pushed ∙ length_snoc cores one in
    let w = setup_of c.args.config.now c.args.image.now in
    let all_cores : length (ids core_id cores) ≡ length cores = ids_length core_id cores in
    let low : length cores < c.args.config.now.cores = grind (arith, common_steps) in
    let to : one.to ≡ seats_at (length (ids core_id cores)) (queues_of all) =
    ap (λ (z : Id). z.to) id ∙ (c.in_ok-lanes.ensures.marks ∙ (ap (λ (qs : List QueueName). seats_at number qs) i.queues ∙ ap (λ n. seats_at n (queues_of all)) (i.number_is ∙ sym all_cores))) in
    let full : length one.to ≡ destinations c.args.config.now.chip = ap length to ∙ (seats_length (length (ids core_id cores)) (queues_of all) ∙ (queues_length all ∙ c.requires.all)) in
    let same : queues_of now ≡ queues_of hubs = ap queues_of c.in_ok-lanes.ensures.queues ∙ hub_queues 0 (number + 1) c.args.config.now.cores (queues_of hubs) in
    let meets : slice_get c.args.crossbar.now.to (length (ids core_id cores)) ≡ slice_get one.from 0 =
    ap (λ n. slice_get c.args.crossbar.now.to n) all_cores ∙ (ap (λ (l : List Mark). slice_get l (length cores)) c.requires.marks
    ∙ (rx_here c.args.ends.items (length cores) c.in-Some.end (into_iter_items c.next.new.self) rest ∙ ap (λ (z : Id). slice_get z.from 0) (sym id))) in
    record {
      starts = subst (λ l. AllStart l) (sym pushed) (start_more cores one i.starts c.in_ok-new.ensures.starts);
      room = grind (arith, common_steps);
      number_is = grind (arith, common_steps);
      count = grind (arith, common_steps);
      rest = ap (λ n. drop n c.args.ends.items) long ∙ next_of c.args.ends.items (length cores) c.in-Some.end (into_iter_items c.next.new.self) rest;
      queues = same ∙ i.queues;
      all = sym (queues_length now) ∙ (ap length same ∙ (queues_length hubs ∙ i.all));
      hubs_are = c.in_ok-lanes.ensures.queues ∙ ap (λ (qs : List QueueName). hubs_at 0 (number + 1) c.args.config.now.cores qs) (sym same);
      wired = subst (λ (l : List Id). AreWired w l dests (crossbar_id c.args.crossbar.now)) (sym (ap (λ l. ids core_id l) pushed ∙ ids_snoc core_id cores one))
          (wired_more w (ids core_id cores) dests (crossbar_id c.args.crossbar.now) (core_id one) i.wired
          (ap (λ (z : Id). z.setup) id) (ap (λ (z : Id). z.number) id ∙ (i.number_is ∙ sym all_cores)) full
          (sends_to w dests (queues_of all) c.args.crossbar.now.from one.to (length (ids core_id cores)) c.requires.serving (omega (arith, low, all_cores)) to) meets);
    }

pub lanes-requires-clause-within : goal.lanes-requires-clause-within
lanes-requires-clause-within c = let i = c.loop-end.invariant in grind (arith, common_steps)

pub new-requires-clause-lanes : goal.new-requires-clause-lanes
new-requires-clause-lanes c =
    let i = c.loop-end.invariant in
    sym (tx_marks_length c.in_ok-lanes.lanes.items) ∙ (ap length c.in_ok-lanes.ensures.marks ∙ (seats_length c.loop-end.number (queues_of c.loop-end.hubs.items) ∙ (queues_length c.loop-end.hubs.items ∙ i.all)))

pub new-requires-clause-seats : goal.new-requires-clause-seats
new-requires-clause-seats c =
    subst (λ (l : List Mark). AreOf c.loop-end.number l) (sym c.in_ok-lanes.ensures.marks) (seats_are_of c.loop-end.number (queues_of c.loop-end.hubs.items))

pub loop-end-init : goal.loop-end-init
loop-end-init c = record {
  starts = subst (λ l. AllStart l) (sym c.in_ok-cores.ensures.items) tt;
  room = grind (arith, common_steps);
  number_is = grind (arith, common_steps);
  count = grind (arith, common_steps);
  rest = search rules;
  queues = refl;
  all = c.requires.all;
  hubs_are = c.requires.hubs;
  wired = subst (λ cs. AreWired (setup_of c.args.config.now c.args.image.now) (ids core_id cs) (ids destination_id c.args.dests.now.items) (crossbar_id c.args.crossbar.now)) (sym c.in_ok-cores.ensures.items) c.requires.wired;
}
