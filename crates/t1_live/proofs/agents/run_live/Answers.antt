use Rattle.std.proofs.Common.{◌≡◌, ◌∙◌, List, length, sym, ap, subst}
use denote.Param.Send.{sendable}
use Rattle.std.proofs.Crossing.{crosses}
use Rattle.t1_packet.proofs.packet.Packet.TheSendSync as packet
use Rattle.t1_packet.proofs.request.Request.TheSendSync as request
use Rattle.t1_packet.proofs.served.Served.TheSendSync as served
use Rattle.t1_core.proofs.sparc_core.Core.TheSendSync as core
use Rattle.t1_bank.proofs.bank.Bank.TheSendSync as bank
use Rattle.t1_xbar.proofs.xbar.Xbar.TheSendSync as xbar
use Rattle.t1_ring.proofs.ends.Tx.TheSendSync as tx
use Rattle.t1_ring.proofs.queue.RequestQueue.TheSendSync as queue
use Rattle.t1_ring.proofs.queue.CoreSeat.TheSendSync as core_seat
use Rattle.t1_ring.proofs.queue.DestSeat.TheSendSync as dest_seat
use Rattle.t1_ring.proofs.ends.Rx.TheSendSync as rx
use Rattle.t1_joint.specs.Start.{Setup}
use Rattle.t1_machine.specs.Start.{setup_of}
use Rattle.t1_crew.specs.Id.{Id}
use Rattle.t1_crew.specs.Slots.{ids}
use Rattle.t1_live.specs.Sides.{core_id, destination_id, crossbar_id}
use Rattle.t1_live.specs.Wires.{AreWired}
use Rattle.t1_live.proofs.Fitting.{ids_length}
use Rattle.t1_live.proofs.agents.run_live.Goals as goal

pub run_crew-requires-send-A : goal.run_crew-requires-send-A
run_crew-requires-send-A g c κs within = search (sendable, crosses, core.the_send, queue.the_send, queue.the_sync, core_seat.the_send, rx.the_send, request.the_send, packet.the_send) depth 40

pub run_crew-requires-send-B : goal.run_crew-requires-send-B
run_crew-requires-send-B g c κs within = search (sendable, crosses, bank.the_send, queue.the_send, queue.the_sync, dest_seat.the_send, tx.the_send, served.the_send) depth 40

pub run_crew-requires-send-C : goal.run_crew-requires-send-C
run_crew-requires-send-C g c κs within = search (sendable, crosses, xbar.the_send, tx.the_send, rx.the_send, packet.the_send, served.the_send) depth 40

pub tie_all-requires-clause-full : goal.tie_all-requires-clause-full
tie_all-requires-clause-full g c =
    let i = c.agents.invariant.0 in
    let e = c.in_ok-cores.ensures in
    sym (ids_length core_id c.in_ok-cores.field-0.first.items) ∙ (ap (λ (l : List Id). length l) e.first.0 ∙ (ids_length core_id c.agents.inside.cores.items
    ∙ (i.full ∙ sym (ap (λ (z : Id). z.setup.config.cores) e.last.0 ∙ ap (λ (v : Setup). v.config.cores) i.wired.crossbar_is))))

pub invariant_of-result : goal.invariant_of-result
invariant_of-result g c =
    let i = c.agents.invariant.0 in
    let e = c.in_ok-cores.ensures in
    let t = c.tie_all.ensures.same in
    let w = setup_of c.agents.inside.config c.agents.inside.image in
    let cores : ids core_id c.tie_all.new.cores.items ≡ ids core_id c.agents.inside.cores.items = ap (λ l. ids core_id l) t.0 ∙ e.first.0 in
    let dests : ids destination_id c.tie_all.new.dests.items ≡ ids destination_id c.agents.inside.dests.items = ap (λ l. ids destination_id l) t.1 ∙ e.second.0 in
    let crossbar : crossbar_id c.tie_all.new.crossbar ≡ crossbar_id c.agents.inside.crossbar = ap crossbar_id t.2 ∙ e.last.0 in (
      record {
        runs = i.runs;
        bytes = i.bytes;
        wired = subst (λ (l : List Id). AreWired w l (ids destination_id c.tie_all.new.dests.items) (crossbar_id c.tie_all.new.crossbar)) (sym cores)
            (subst (λ (l : List Id). AreWired w (ids core_id c.agents.inside.cores.items) l (crossbar_id c.tie_all.new.crossbar)) (sym dests)
            (subst (λ (z : Id). AreWired w (ids core_id c.agents.inside.cores.items) (ids destination_id c.agents.inside.dests.items) z) (sym crossbar) i.wired));
        full = sym (ids_length core_id c.tie_all.new.cores.items) ∙ (ap (λ (l : List Id). length l) cores ∙ (ids_length core_id c.agents.inside.cores.items ∙ i.full));
      },
      record {
        no_trace = c.agents.invariant.1.no_trace;
        no_place = c.agents.invariant.1.no_place;
        no_byte = c.in_ok-console.ensures.items;
        all_strands = c.agents.invariant.1.all_strands;
        all_places = c.agents.invariant.1.all_places;
      },
    )
