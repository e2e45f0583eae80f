-- The report of agents that came back.
use Rattle.std.proofs.Common.{◌≡◌, ◌∙◌, ◌^◌, ◌<◌, List, refl, ap, sym, subst}
use Rattle.std.specs.Prelude.{All, IsTrue}
use Rattle.std.proofs.lemmas.Bool.{and_parts}
use Rattle.t1_event.specs.declared.report.Report.{Report}
use Rattle.t1_event.specs.declared.trace.Trace.{Trace}
use Rattle.t1_event.specs.Items.{items_of}
use Rattle.t1_event.specs.Order.{IsListing, ObeysTso}
use Rattle.t1_event.specs.Printable.{IsPrintableReport}
use Rattle.t1_event.specs.declared.report.Config.{Config}
use Rattle.t1_log.specs.Lines.{is_first}
use Rattle.t1_log.specs.Log.{HasLog}
use Rattle.t1_joint.specs.Start.{Setup}
use Rattle.t1_machine_rule.specs.Parts.{traces_in}
use Rattle.t1_machine_rule.specs.Words.{AreWords}
use Rattle.t1_take.specs.Limits.{is_in_limits}
use Rattle.t1_reads_back.specs.Laws.{ReadsBack}
use Rattle.t1_reads_back.proofs.Machines.{history_reads_back}
use Rattle.t1_crew.specs.Slots.{AreOver}
use Rattle.t1_live.specs.Sides.{is_core_over}
use Rattle.t1_live.specs.Whole.{AgentsState, AreFitting, cores_of}
use Rattle.t1_live.specs.Reports.{LiveEnds, Reported, LiveReports}
use Rattle.t1_top.specs.Live.{IsLiveReportOf}

-- agents that fit and are over, and their report
pub record Ended (agents : AgentsState) (report : Report) : Type 0 where
  pub over : AreOver is_core_over agents.cores
  pub fits : AreFitting agents.setup agents.cores agents.dests agents.crossbar
  pub reported : Reported agents report
  pub ends : LiveEnds agents.setup (traces_in (cores_of agents.cores)) agents.crossbar.xbar.log
  pub obeys : LiveReports agents report.order
  pub words : All AreWords report.traces

-- its log reads back
reads_back : (agents : AgentsState) (report : Report) → IsTrue (is_in_limits agents.setup.config) → agents.setup.image.entry < 2 ^ 40 → Ended agents report → ReadsBack report
reads_back agents report limits low e =
    let traces : report.traces ≡ traces_in (cores_of agents.cores) = ap (λ (r : Report). r.traces) e.reported.is in
    let Words : List Trace → Type 0 = λ ts. All AreWords ts in
    subst (λ (r : Report). ReadsBack r) (sym e.reported.is)
    (history_reads_back agents.setup (traces_in (cores_of agents.cores)) agents.crossbar.xbar.log report.order e.ends.history limits (subst Words traces e.words)
    e.ends.commits e.obeys.listing (e.obeys.printable low))

own_report : (agents : AgentsState) (report : Report) → IsTrue (is_in_limits agents.setup.config) → agents.setup.image.entry < 2 ^ 40 → Ended agents report
    → IsLiveReportOf agents.setup report
own_report agents report limits low e =
    let Closes : Report → Type 0 = λ r. LiveEnds agents.setup r.traces r.log in
    let Listed : Report → Type 0 = λ r. IsListing (items_of r.traces) report.order in
    let Obeys : Report → Type 0 = λ r. ObeysTso agents.setup.image.ram (items_of r.traces) report.order in
    record {
      agents = agents;
      setup = refl;
      over = e.over;
      fits = e.fits;
      is = e.reported.is;
      by_keys = e.reported.order;
      ends = subst Closes (sym e.reported.is) e.ends;
      listing = subst Listed (sym e.reported.is) e.obeys.listing;
      obeys = subst Obeys (sym e.reported.is) e.obeys.tso;
      reads_back = reads_back agents report limits low e;
    }

-- agents of this machine
pub live_report : (w : Setup) (agents : AgentsState) (report : Report) → agents.setup ≡ w → IsTrue (is_in_limits w.config) → w.image.entry < 2 ^ 40 → Ended agents report
    → IsLiveReportOf w report
live_report w agents report same limits low e =
    let Of : Setup → Type 0 = λ v. IsLiveReportOf v report in
    let Limits : Setup → Type 0 = λ v. IsTrue (is_in_limits v.config) in
    let Low : Setup → Type 0 = λ v. v.image.entry < 2 ^ 40 in
    subst Of same (own_report agents report (subst Limits (sym same) limits) (subst Low (sym same) low) e)

-- it has a text
pub has_text : (w : Setup) (agents : AgentsState) (report : Report) → agents.setup ≡ w → IsTrue (is_in_limits w.config) → w.image.entry < 2 ^ 40 → Reported agents report
    → LiveReports agents report.order → HasLog report
has_text w agents report same limits low reported obeys =
    let Low : Setup → Type 0 = λ v. v.image.entry < 2 ^ 40 in
    let First : Config → Type 0 = λ config. IsTrue (is_first config) in
    record {
      printable = subst (λ (r : Report). IsPrintableReport r) (sym reported.is) (obeys.printable (subst Low (sym same) low));
      first = subst First (sym (ap (λ (r : Report). r.config) reported.is ∙ ap (λ (v : Setup). v.config) same)) (and_parts _ _ limits).0;
    }
