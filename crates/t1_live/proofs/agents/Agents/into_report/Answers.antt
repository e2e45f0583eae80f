use Rattle.std.proofs.Common.{◌≡◌, List, refl, sym, subst, vec_capacity, rules}
use Rattle.t1_event.specs.declared.report.Place.{Place}
use Rattle.t1_event.specs.declared.trace.Trace.{Trace}
use Rattle.t1_event.specs.Items.{items_of}
use Rattle.t1_event.specs.Keys.{IsOrderByKeys}
use Rattle.t1_machine.specs.Start.{setup_of}
use Rattle.t1_machine_rule.specs.Parts.{traces_in}
use Rattle.t1_crew.specs.Slots.{AreOver}
use Rattle.t1_live.specs.Sides.{is_core_over}
use Rattle.t1_live.specs.Whole.{AgentsState, AreFitting, cores_of}
use Rattle.t1_live.specs.Reports.{LiveReports}
use Rattle.t1_live.proofs.Ends.{reports_of, order_from}
use Rattle.t1_live.proofs.agents.Agents.into_report.Goals as goal

pub returns-clause-obeys : goal.returns-clause-obeys
returns-clause-obeys c =
    let state : AgentsState = record { setup = setup_of c.self.inside.config c.self.inside.image; cores = c.self.inside.cores.items; dests = c.self.inside.dests.items; crossbar = c.self.inside.crossbar; console = vec_capacity c.self.inside.room.console } in
    let over = subst (λ (v : AgentsState). AreOver is_core_over v.cores) (sym c.self.view_is) c.requires.over in
    let fits = subst (λ (v : AgentsState). AreFitting v.setup v.cores v.dests v.crossbar) (sym c.self.view_is) c.requires.fits in
    let traces : c.deref.result.now ≡ traces_in (cores_of c.self.inside.cores.items) = search rules in
    let keys : IsOrderByKeys (items_of c.deref.result.now) c.order_of.new.out.items = order_from _ _ _ c.self.invariant.1.no_place c.order_of.ensures.order in
    let order : IsOrderByKeys (items_of (traces_in (cores_of c.self.inside.cores.items))) c.order_of.new.out.items =
    subst (λ (ts : List Trace). IsOrderByKeys (items_of ts) c.order_of.new.out.items) traces keys in
    let obeys = reports_of c.self.inside.config c.self.inside.image state c.order_of.new.out.items refl c.self.invariant.0 fits over order in
    subst (λ (ps : List Place). LiveReports c.args.self ps) (sym c.from_vec-3.ensures) (subst (λ (s : AgentsState). LiveReports s c.order_of.new.out.items) c.self.view_is obeys)
