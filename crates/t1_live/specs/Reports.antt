-- What agents report that fit and are over.
use Rattle.std.specs.Prelude.{◌≡◌, ◌^◌, ◌<◌, ◌≤◌, List, length}
use Rattle.t1_event.specs.declared.commit.Commit.{Commit}
use Rattle.t1_event.specs.declared.report.Place.{Place}
use Rattle.t1_event.specs.declared.report.Report.{Report}
use Rattle.t1_event.specs.declared.trace.Trace.{Trace}
use Rattle.t1_event.specs.Items.{items_of}
use Rattle.t1_event.specs.Keys.{IsOrderByKeys}
use Rattle.t1_event.specs.Order.{IsListing, ObeysTso}
use Rattle.t1_event.specs.Printable.{FitsDigits, IsPrintableReport}
use Rattle.t1_joint.specs.Start.{Setup}
use Rattle.t1_joint.specs.JointHistory.{IsJointHistory, run_of}
use Rattle.t1_joint.specs.Covered.{IsCovered, LinesHoldMemory}
use Rattle.t1_order.specs.Orderable.{AreShort, AreOrderable, accesses_in}
use Rattle.t1_iob.specs.Console.{console_of}
use Rattle.t1_machine.specs.Start.{most_commits}
use Rattle.t1_machine_rule.specs.Parts.{traces_in}
use Rattle.t1_live.specs.Whole.{AgentsState, cores_of}

-- their traces and log are a joint history, whose log is covered and has fewer commits than a word of 32 bits counts,
-- and which can be listed by keys
pub record LiveEnds (w : Setup) (traces : List Trace) (log : List Commit) : Type 0 where
  pub history : IsJointHistory w traces log
  pub covered : IsCovered (run_of w traces log)
  pub lines : LinesHoldMemory (run_of w traces log)
  pub commits : length log < 2 ^ 32
  pub few : length traces ≤ 64
  pub short : AreShort (items_of traces)
  pub orderable : AreOrderable (items_of traces) log
  pub room : accesses_in (items_of traces) ≤ most_commits w.config

-- ---- the report: the traces of the cores, the log, a memory order, and the console bytes of the log

abbrev pub report_of : AgentsState → List Place → Report
report_of agents order = record {
  config = agents.setup.config;
  image = agents.setup.image;
  traces = traces_in (cores_of agents.cores);
  log = agents.crossbar.xbar.log;
  order = order;
  console = console_of agents.crossbar.xbar.log;
}

pub record Reported (agents : AgentsState) (report : Report) : Type 0 where
  pub is : report ≡ report_of agents report.order
  pub order : IsOrderByKeys (items_of report.traces) report.order

-- the order by keys lists each access once and obeys total store order; and the report has a text, where the
-- entry fits its digits
pub record LiveReports (agents : AgentsState) (order : List Place) : Type 0 where
  pub listing : IsListing (items_of (traces_in (cores_of agents.cores))) order
  pub tso : ObeysTso agents.setup.image.ram (items_of (traces_in (cores_of agents.cores))) order
  pub printable : FitsDigits 10 agents.setup.image.entry → IsPrintableReport (report_of agents order)
