-- Agents that fit and are over: their traces and log are a joint history, and their report has a text.
use Rattle.std.proofs.Common.{◌≡◌, ◌≤◌, ◌∙◌, List, [], ◌++◌, length, ap, sym, subst, arith}
use Rattle.std.proofs.lemmas.List.{length-map}
use Rattle.t1_event.specs.declared.report.Config.{Config}
use Rattle.t1_event.specs.declared.item.Item.{Item}
use Rattle.t1_event.specs.declared.report.Place.{Place}
use Rattle.t1_event.specs.declared.trace.Trace.{Trace}
use Rattle.t1_event.specs.Items.{items_of}
use Rattle.t1_event.specs.Keys.{IsOrderByKeys}
use Rattle.t1_elf.specs.declared.object.Image.{Image}
use Rattle.t1_joint.specs.Start.{Setup}
use Rattle.t1_tso.proofs.Histories.{history_obeys_tso, log_is_covered}
use Rattle.t1_order.specs.Orderable.{GrowsByOrder}
use Rattle.t1_order.proofs.Joint.{joint_are_orderable}
use Rattle.t1_machine.specs.Machine.{MachineState}
use Rattle.t1_machine.specs.Start.{setup_of}
use Rattle.t1_machine_rule.specs.Parts.{traces_in}
use Rattle.t1_machine_rule.proofs.Ending.{history, traces_short, count_few, accesses_few}
use Rattle.t1_machine_rule.proofs.Prints.{report_text}
use Rattle.t1_crew.specs.Slots.{AreOver}
use Rattle.t1_live.specs.Sides.{is_core_over}
use Rattle.t1_live.specs.Whole.{AgentsState, AreFitting, AreAgents, cores_of}
use Rattle.t1_live.specs.Reports.{LiveEnds, LiveReports}
use Rattle.t1_live.proofs.Machines.{machine, kept, done, short}

pub ends_of : (config : Config) (image : Image) (s : AgentsState) → AreAgents (setup_of config image) s.cores s.dests s.crossbar → AreFitting (setup_of config image) s.cores s.dests s.crossbar
    → AreOver is_core_over s.cores → LiveEnds (setup_of config image) (traces_in (cores_of s.cores)) s.crossbar.xbar.log
ends_of config image s a g over =
    let m : MachineState = machine config image s.cores s.dests s.crossbar a g in
    let k = kept config image s.cores s.dests s.crossbar a g in
    let l = short config image s.cores s.dests s.crossbar a g in
    let d = done config image s.cores s.dests s.crossbar a g over in
    let w : Setup = setup_of config image in
    let traces : List Trace = traces_in (cores_of s.cores) in
    let h = history config image a.runs a.bytes m k l d in
    let count = count_few config image a.runs a.bytes m k l d in
    let few : length (items_of traces) ≤ 64 = (let e = length-map traces (λ (t : Trace). t.items) in omega (arith, e, count)) in
    let brief = traces_short config image a.runs a.bytes m k l d in
    record {
      history = h;
      covered = (log_is_covered w traces s.crossbar.xbar.log h).0;
      lines = (log_is_covered w traces s.crossbar.xbar.log h).1;
      commits = omega (arith, l);
      few = omega (arith, count);
      short = brief;
      orderable = joint_are_orderable w traces s.crossbar.xbar.log h few brief;
      room = accesses_few config image a.runs a.bytes m k l d;
    }

pub reports_of : (config : Config) (image : Image) (s : AgentsState) (order : List Place) → s.setup ≡ setup_of config image → AreAgents (setup_of config image) s.cores s.dests s.crossbar
    → AreFitting (setup_of config image) s.cores s.dests s.crossbar → AreOver is_core_over s.cores → IsOrderByKeys (items_of (traces_in (cores_of s.cores))) order → LiveReports s order
reports_of config image s order is a g over keys =
    let m : MachineState = machine config image s.cores s.dests s.crossbar a g in
    let k = kept config image s.cores s.dests s.crossbar a g in
    let l = short config image s.cores s.dests s.crossbar a g in
    let d = done config image s.cores s.dests s.crossbar a g over in
    let obeys = history_obeys_tso (setup_of config image) (traces_in (cores_of s.cores)) s.crossbar.xbar.log order (history config image a.runs a.bytes m k l d) keys in
    let now : LiveReports (record s { setup = setup_of config image }) order = record {
      listing = obeys.0;
      tso = obeys.1;
      printable = λ entry. report_text config image a.runs a.bytes m k l d order entry;
    } in
    subst (λ (w : Setup). LiveReports (record s { setup = w }) order) (sym is) now

-- an order that grew from nothing
pub order_from : (traces : List (List Item)) (before after : List Place) → before ≡ [] → GrowsByOrder traces before after → IsOrderByKeys traces after
order_from traces before after e g = subst (λ (ps : List Place). IsOrderByKeys traces ps) (sym (g.grows ∙ ap (λ (ps : List Place). ps ++ g.order) e)) g.by_keys
