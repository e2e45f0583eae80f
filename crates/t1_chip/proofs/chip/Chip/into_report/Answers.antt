use Rattle.std.proofs.Common.{◌≡◌, List, length, sym, ap, subst, arith, rules}
use Rattle.t1_event.specs.declared.commit.Commit.{Commit}
use Rattle.t1_event.specs.declared.report.Place.{Place}
use Rattle.t1_event.specs.declared.trace.Trace.{Trace}
use Rattle.t1_event.specs.Items.{items_of}
use Rattle.t1_event.specs.Keys.{IsOrderByKeys}
use Rattle.t1_order.specs.Orderable.{accesses_in}
use Rattle.t1_core.specs.Steps.{CoreState}
use Rattle.t1_machine.specs.Start.{setup_of}
use Rattle.t1_machine_rule.specs.Ends.{NoneEnabled, Reports}
use Rattle.t1_machine_rule.specs.Parts.{traces_in}
use Rattle.t1_machine_rule.proofs.Machines.{end_in_histories, reports_obey}
use Rattle.t1_chip.specs.Chips.{ChipState}
use Rattle.t1_chip.proofs.Reached.{log_room}
use Rattle.t1_chip.proofs.Reports.{order_from}
use Rattle.t1_chip.proofs.chip.Chip.into_report.Goals as goal

pub put_traces-requires : goal.put_traces-requires
put_traces-requires c =
    let none : NoneEnabled c.self.inside.machine = subst (λ (s : ChipState). NoneEnabled s.machine) (sym c.self.view_is) c.requires in
    let e = end_in_histories (setup_of c.self.inside.config c.self.inside.image) c.self.inside.machine c.self.invariant.0 none in
    let room = c.self.invariant.2 in
    let empty = ap (λ (ts : List Trace). length ts) room.no_trace in
    let same = ap (λ (cs : List CoreState). length (traces_in cs)) c.into_parts-cores.ensures.cores in
    omega (arith, e.few, room.all_strands, empty, same)

pub order_of-requires-clause-inputs : goal.order_of-requires-clause-inputs
order_of-requires-clause-inputs c =
    let none : NoneEnabled c.self.inside.machine = subst (λ (s : ChipState). NoneEnabled s.machine) (sym c.self.view_is) c.requires in
    let e = end_in_histories (setup_of c.self.inside.config c.self.inside.image) c.self.inside.machine c.self.invariant.0 none in
    let traces : c.deref.result.now ≡ traces_in c.self.inside.machine.cores = search rules in
    let log : c.deref-2.result.now ≡ c.self.inside.machine.xbar.log = search rules in
    rw (traces, log) e.orderable

pub order_of-requires-clause-room : goal.order_of-requires-clause-room
order_of-requires-clause-room c =
    let none : NoneEnabled c.self.inside.machine = subst (λ (s : ChipState). NoneEnabled s.machine) (sym c.self.view_is) c.requires in
    let e = end_in_histories (setup_of c.self.inside.config c.self.inside.image) c.self.inside.machine c.self.invariant.0 none in
    let room = c.self.invariant.2 in
    let traces : c.deref.result.now ≡ traces_in c.self.inside.machine.cores = search rules in
    let empty = ap (λ ps. length ps) room.no_place in
    let same = ap (λ (ts : List Trace). accesses_in (items_of ts)) traces in
    omega (arith, e.room, room.all_places, empty, same)

pub put_console-requires : goal.put_console-requires
put_console-requires c =
    let room = c.self.invariant.2 in
    let log : c.deref-3.result.now ≡ c.self.inside.machine.xbar.log = search rules in
    let empty = ap (λ bs. length bs) room.no_byte in
    let same = ap (λ (cs : List Commit). length cs) log in
    let short = log_room (setup_of c.self.inside.config c.self.inside.image) c.self.inside.machine c.self.invariant.0 in
    omega (arith, short, room.all_bytes, empty, same)

pub returns-clause-obeys : goal.returns-clause-obeys
returns-clause-obeys c =
    let none : NoneEnabled c.self.inside.machine = subst (λ (s : ChipState). NoneEnabled s.machine) (sym c.self.view_is) c.requires in
    let traces : c.deref.result.now ≡ traces_in c.self.inside.machine.cores = search rules in
    let keys : IsOrderByKeys (items_of c.deref.result.now) c.order_of.new.out.items = order_from _ _ _ c.self.invariant.2.no_place c.order_of.ensures.order in
    let order : IsOrderByKeys (items_of (traces_in c.self.inside.machine.cores)) c.order_of.new.out.items =
    subst (λ (ts : List Trace). IsOrderByKeys (items_of ts) c.order_of.new.out.items) traces keys in
    let obeys = reports_obey (setup_of c.self.inside.config c.self.inside.image) c.self.inside.machine c.order_of.new.out.items c.self.invariant.0 none order in
    subst (λ (ps : List Place). Reports c.args.self.setup c.args.self.machine ps) (sym c.from_vec-3.ensures)
    (subst (λ (s : ChipState). Reports s.setup s.machine c.order_of.new.out.items) c.self.view_is obeys)
