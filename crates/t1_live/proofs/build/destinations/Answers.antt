use Rattle.std.proofs.Common.{◌≡◌, ◌∷◌, ◌++◌, [], ◌∙◌, ◌+◌, List, length, drop, sym, ap, subst, rules, arith}
use Rattle.std.specs.List.{slice_get}
use Rattle.std.specs.Vec.Iter.{into_iter_items}
use Rattle.std.proofs.lemmas.Grind.{common_steps}
use Rattle.t1_machine.specs.Start.{setup_of}
use Rattle.t1_ring.specs.Ends.{QueueName}
use Rattle.t1_ring.specs.Queue.{DestSeatState}
use Rattle.t1_ring.specs.Row.{tx_marks}
use Rattle.t1_crew.specs.Id.{Id}
use Rattle.t1_crew.specs.Slots.{ids}
use Rattle.t1_live.specs.Lanes.{HubState, queues_of}
use Rattle.t1_live.specs.Sides.{destination_id}
use Rattle.t1_live.specs.Starts.{ServedNothing}
use Rattle.t1_live.specs.Wires.{AreServing}
use Rattle.t1_live.proofs.Begins.{served_more}
use Rattle.t1_live.proofs.Fitting.{ids_length}
use Rattle.t1_live.proofs.Lanes.{queues_length, queues_snoc, hubs_grow}
use Rattle.t1_live.proofs.Wiring.{next_of, tx_here, tx_unused, serves_more, ids_snoc, length_snoc, serving_id}
use Rattle.t1_live.proofs.build.destinations.Goals as goal

pub new-requires-clause-none : goal.new-requires-clause-none
new-requires-clause-none c =
    let more : into_iter_items c.loop-end.end-iterator ≡ c.in-Some.end ∷ into_iter_items c.next.new.self = search rules in
    sym (tx_unused c.args.ends.items (length c.loop-end.dests.items) c.in-Some.end (into_iter_items c.next.new.self) (c.loop-end.invariant.rest ∙ more)) ∙ c.requires.unused (length c.loop-end.dests.items)

pub loop-end-preserved : goal.loop-end-preserved
loop-end-preserved c =
    let i = c.loop-end.invariant in
    let dests = c.loop-end.dests.items in
    let hubs = c.loop-end.hubs.items in
    let next = c.in_ok-next.next in
    let seat = c.in_ok-next.seat in
    let more : into_iter_items c.loop-end.end-iterator ≡ c.in-Some.end ∷ into_iter_items c.next.new.self = search rules in
    let rest = i.rest ∙ more in
    let one = c.in_ok-new.field-0 in
    let pushed = c.push_reserved.ensures.items in
    let pushed_hub = c.push_reserved-in-loop-end.ensures.items in
    let long : length c.push_reserved.new.self.items ≡ length dests + 1 = ap length pushed ∙ length_snoc dests one in
    let all : List Id = ids destination_id dests in
    let same : length all ≡ length dests = ids_length destination_id dests in
    let w = setup_of c.args.config.now c.args.image.now in
    record {
      served = subst (λ l. ServedNothing l) (sym pushed) (served_more dests one i.served c.in_ok-new.ensures.none);
      room = (grind (arith, common_steps), grind (arith, common_steps));
      number = grind (arith, common_steps);
      both = ap length pushed_hub ∙ (length_snoc hubs next ∙ (ap (λ n. n + 1) i.both ∙ sym long));
      count = grind (arith, common_steps);
      rest = ap (λ n. drop n c.args.ends.items) long ∙ next_of c.args.ends.items (length dests) c.in-Some.end (into_iter_items c.next.new.self) rest;
      hubs_are = hubs_grow hubs _ next _ _ i.hubs_are pushed_hub c.in_ok-next.ensures.hub;
      done = subst (λ (l : List Id). AreServing w l (queues_of c.push_reserved-in-loop-end.new.self.items) (tx_marks c.args.ends.items)) (sym (ap (λ l. ids destination_id l) pushed ∙ ids_snoc destination_id dests one))
          (subst (λ (qs : List QueueName). AreServing w (all ++ destination_id one ∷ []) qs (tx_marks c.args.ends.items)) (sym (ap queues_of pushed_hub ∙ queues_snoc hubs next))
          (serves_more w all (queues_of hubs) (tx_marks c.args.ends.items) (destination_id one) next.queue c.in-Some.end.mark i.done (queues_length hubs ∙ (i.both ∙ sym same))
          (ap (λ n. slice_get (tx_marks c.args.ends.items) n) same ∙ tx_here c.args.ends.items (length dests) c.in-Some.end (into_iter_items c.next.new.self) rest)
          (c.in_ok-new.ensures.id ∙ serving_id w c.in-Some.end.mark next.queue _ (length all) seat.queue seat.cores (i.number ∙ sym same)
          (ap (λ (s : DestSeatState). s.queue) c.in_ok-next.ensures.seat ∙ sym (ap (λ (h : HubState). h.queue) c.in_ok-next.ensures.hub)) (ap (λ (s : DestSeatState). s.cores) c.in_ok-next.ensures.seat))));
    }
