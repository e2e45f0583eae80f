-- What the threaded run reports of a machine.
use Rattle.std.specs.Prelude.{◌≡◌}
use Rattle.t1_event.specs.declared.report.Report.{Report}
use Rattle.t1_event.specs.Items.{items_of}
use Rattle.t1_event.specs.Keys.{IsOrderByKeys}
use Rattle.t1_event.specs.Order.{IsListing, ObeysTso}
use Rattle.t1_joint.specs.Start.{Setup}
use Rattle.t1_crew.specs.Slots.{AreOver}
use Rattle.t1_live.specs.Sides.{is_core_over}
use Rattle.t1_live.specs.Whole.{AgentsState, AreFitting}
use Rattle.t1_live.specs.Reports.{LiveEnds, report_of}
use Rattle.t1_reads_back.specs.Laws.{ReadsBack}

-- the agents of the machine came back with their parts fitting and every strand ended; the report has their traces,
-- their log, the memory order and the console
pub record IsLiveReportOf (w : Setup) (report : Report) : Type 0 where
  pub agents : AgentsState
  pub setup : agents.setup ≡ w
  pub over : AreOver is_core_over agents.cores
  pub fits : AreFitting w agents.cores agents.dests agents.crossbar
  pub is : report ≡ report_of agents report.order
  pub by_keys : IsOrderByKeys (items_of report.traces) report.order
  -- the traces and the log are a joint history: each trace follows the instruction table; and the log is covered: at
  -- every length the L1 tags are what the directories show
  pub ends : LiveEnds w report.traces report.log
  -- the order lists each access once and obeys total store order
  pub listing : IsListing (items_of report.traces) report.order
  pub obeys : ObeysTso w.image.ram (items_of report.traces) report.order
  -- its log reads back as this report
  pub reads_back : ReadsBack report
