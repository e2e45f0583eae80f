use Rattle.std.proofs.Common.{◌∙◌, List, length, sym, ap, subst}
use Rattle.t1_machine.specs.Start.{setup_of}
use Rattle.t1_ring.specs.Ends.{Mark}
use Rattle.t1_ring.specs.Row.{tx_marks}
use Rattle.t1_ring.proofs.Sets.{tx_marks_length}
use Rattle.t1_crew.specs.Id.{Id}
use Rattle.t1_crew.specs.Slots.{ids}
use Rattle.t1_live.specs.Lanes.{queues_of}
use Rattle.t1_live.specs.Sides.{core_id, destination_id, crossbar_id}
use Rattle.t1_live.specs.Wires.{AreServing}
use Rattle.t1_live.proofs.Fitting.{ids_length, id_there}
use Rattle.t1_live.proofs.Wiring.{wired_first}
use Rattle.t1_live.proofs.agents.Agents.build.Goals as goal

pub cores-requires-clause-serving : goal.cores-requires-clause-serving
cores-requires-clause-serving c =
    let id = c.in_ok-crossbar.ensures.id in
    subst (λ (l : List Mark). AreServing (setup_of c.args.config.now c.args.image) (ids destination_id c.in_ok-dests.dests.items) (queues_of c.in_ok-dests.hubs.items) l)
    (sym (ap (λ (z : Id). z.from) id ∙ sym c.in_ok-senders.ensures.marks)) c.in_ok-dests.ensures.serving

pub cores-requires-clause-wired : goal.cores-requires-clause-wired
cores-requires-clause-wired c =
    let id = c.in_ok-crossbar.ensures.id in
    let marks = tx_marks c.in_ok-senders.senders.items in
    wired_first (setup_of c.args.config.now c.args.image) (ids destination_id c.in_ok-dests.dests.items) (crossbar_id c.in_ok-crossbar.crossbar) (queues_of c.in_ok-dests.hubs.items) marks
    (ids_length destination_id c.in_ok-dests.dests.items ∙ c.in_ok-dests.ensures.len.0) (ap (λ (z : Id). z.setup) id) (ap (λ (z : Id). z.from) id ∙ sym c.in_ok-senders.ensures.marks)
    (tx_marks_length c.in_ok-senders.senders.items ∙ (c.in_ok-senders.ensures.count.0 ∙ c.destinations-count.ensures.value))
    (ap (λ (z : Id). length z.to) id ∙ (tx_marks_length c.in_ok-posters.posters.items ∙ c.in_ok-posters.ensures.count.0)) c.in_ok-dests.ensures.serving

pub returns-clause-starts : goal.returns-clause-starts
returns-clause-starts c =
    let e = c.in_ok-cores.ensures in
    record {
      count = e.full;
      numbers = λ n side is. e.wired.core_is n (core_id side) (id_there core_id c.in_ok-cores.cores.items n side is);
      cores = e.starts;
      dests = c.in_ok-dests.ensures.served;
      crossbar = c.in_ok-crossbar.ensures.none;
    }
