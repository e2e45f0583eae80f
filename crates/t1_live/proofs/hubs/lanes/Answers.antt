use Rattle.std.proofs.Common.{◌≡◌, ◌<◌, ◌∙◌, ◌++◌, ◌∷◌, [], List, length, get_or, set, ap, sym, add-one, arith}
use Rattle.std.proofs.lemmas.Grind.{common_steps}
use Rattle.t1_packet.specs.Data.{RequestData}
use Rattle.t1_ring.specs.Ends.{QueueName, Mark, TxState}
use Rattle.t1_ring.specs.Row.{sent_by, tx_marks}
use Rattle.t1_ring.proofs.Sets.{tx_marks_snoc, blank_sent}
use Rattle.t1_live.specs.Lanes.{HubState, hubs_at, queues_of}
use Rattle.t1_live.proofs.Lanes.{queues_length, seats_upto, seats_none, seats_next, seats_whole, hub_here, hub_set, hubs_whole}
use Rattle.t1_live.proofs.hubs.lanes.Goals as goal

pub loop-d-init : goal.loop-d-init
loop-d-init c =
    let none = c.in_ok-lanes.ensures.items in
    record {
      room = grind (arith, common_steps);
      len = grind (arith, common_steps);
      count = grind (arith, common_steps);
      hubs_are = c.requires.next;
      marks = ap (λ (l : List (TxState RequestData)). tx_marks l) none ∙ sym (seats_none c.args.core (queues_of c.args.hubs.now.items));
      unused = λ at. ap (λ (l : List (TxState RequestData)). get_or (sent_by l) at []) none;
    }

pub lane-requires-clause-next : goal.lane-requires-clause-next
lane-requires-clause-next c =
    let i = c.loop-d.invariant in
    let all : List QueueName = queues_of c.args.hubs.now.items in
    let hub = c.index_mut.result.now in
    let low : c.loop-d.d < length c.args.hubs.now.items = grind (arith, common_steps) in
    let n = queues_length c.args.hubs.now.items in
    (hub_here c.loop-d.d c.args.core c.args.cores all hub (omega (arith, low, n)) (c.index_mut.ensures.value ∙ ap (λ (l : List HubState). get_or l c.loop-d.d hub) i.hubs_are)).0

pub loop-d-preserved : goal.loop-d-preserved
loop-d-preserved c =
    let i = c.loop-d.invariant in
    let d = c.loop-d.d in
    let core = c.args.core in
    let cores = c.args.cores in
    let all : List QueueName = queues_of c.args.hubs.now.items in
    let hub = c.index_mut.result.now in
    let low : d < length c.args.hubs.now.items = grind (arith, common_steps) in
    let n = queues_length c.args.hubs.now.items in
    let here = (hub_here d core cores all hub (omega (arith, low, n)) (c.index_mut.ensures.value ∙ ap (λ (l : List HubState). get_or l d hub) i.hubs_are)).1 in
    let pushed = c.push_reserved.ensures.items in
    let lane = c.in_ok-lane.ensures.lane in
    record {
      room = grind (arith, common_steps);
      len = grind (arith, common_steps);
      count = i.count;
      hubs_are = ap (λ (l : List HubState). set l d c.lane.new.self) i.hubs_are
          ∙ (hub_set d core cores all c.lane.new.self hub.queue here c.lane.ensures.hub ∙ ap (λ k. hubs_at k core cores all) (sym (add-one d)));
      marks = ap (λ (l : List (TxState RequestData)). tx_marks l) pushed ∙ (tx_marks_snoc c.loop-d.lanes.items c.in_ok-lane.lane ∙ (ap (λ (l : List Mark). l ++ c.in_ok-lane.lane.mark ∷ []) i.marks
          ∙ (ap (λ (m : Mark). seats_upto d core all ++ m ∷ []) lane.0 ∙ (sym (seats_next d core all hub.queue here) ∙ ap (λ k. seats_upto k core all) (sym (add-one d))))));
      unused = blank_sent c.loop-d.lanes.items c.push_reserved.new.self.items c.in_ok-lane.lane pushed lane.1 i.unused;
    }

pub returns-clause-queues : goal.returns-clause-queues
returns-clause-queues c =
    let i = c.loop-d.invariant in
    let all : List QueueName = queues_of c.args.hubs.now.items in
    let last : c.loop-d.d ≡ length c.args.hubs.now.items = grind (arith, common_steps) in
    let n = queues_length c.args.hubs.now.items in
    i.hubs_are ∙ (ap (λ k. hubs_at k c.args.core c.args.cores all) {x = c.loop-d.d} {y = length all} (omega (arith, last, n)) ∙ hubs_whole c.args.core c.args.cores all)

pub returns-clause-marks : goal.returns-clause-marks
returns-clause-marks c =
    let i = c.loop-d.invariant in
    let all : List QueueName = queues_of c.args.hubs.now.items in
    let last : c.loop-d.d ≡ length c.args.hubs.now.items = grind (arith, common_steps) in
    let n = queues_length c.args.hubs.now.items in
    i.marks ∙ (ap (λ k. seats_upto k c.args.core all) {x = c.loop-d.d} {y = length all} (omega (arith, last, n)) ∙ seats_whole c.args.core all)
