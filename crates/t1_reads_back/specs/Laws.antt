-- Reports that a printed log reads back as: those of joint histories, and of machines that have ended.
use Rattle.std.specs.Prelude.{ℕ, ◌^◌, ◌<◌, List, length, IsTrue}
use Rattle.std.specs.List.{All}
use Rattle.t1_event.specs.declared.commit.Commit.{Commit}
use Rattle.t1_event.specs.declared.report.Place.{Place}
use Rattle.t1_event.specs.declared.report.Report.{Report}
use Rattle.t1_event.specs.declared.trace.Trace.{Trace}
use Rattle.t1_event.specs.Items.{items_of}
use Rattle.t1_event.specs.Order.{IsListing}
use Rattle.t1_event.specs.Keys.{IsOrderByKeys}
use Rattle.t1_event.specs.Printable.{FitsDigits, IsPrintableReport}
use Rattle.t1_joint.specs.Start.{Setup}
use Rattle.t1_joint.specs.JointHistory.{IsJointHistory}
use Rattle.t1_machine.specs.Machine.{MachineState}
use Rattle.t1_machine_rule.specs.Parts.{traces_in}
use Rattle.t1_machine_rule.specs.Stands.{IsRunOf}
use Rattle.t1_machine_rule.specs.Ends.{NoneEnabled, report_of}
use Rattle.t1_machine_rule.specs.Words.{AreWords}
use Rattle.t1_take.specs.Limits.{is_in_limits}
use Rattle.t1_take.specs.WellFormed.{IsWellFormed}
use Rattle.t1_read.specs.Exact.{HasBytes}

-- the report of traces and a log, with an order and the console's bytes
abbrev pub reported : Setup → List Trace → List Commit → List Place → List ℕ → Report
reported w traces log order console = record { config = w.config; image = w.image; traces = traces; log = log; order = order; console = console }

-- a machine in its limits, and a joint history of it whose report has a text, with an order that lists each
-- access once
abbrev pub JointHistoriesAreWellFormed : Type 0
JointHistoriesAreWellFormed =
    (w : Setup) (traces : List Trace) (log : List Commit) (order : List Place) (console : List ℕ) → IsJointHistory w traces log
    → IsTrue (is_in_limits w.config) → All AreWords traces → length log < 2 ^ 32 → IsListing (items_of traces) order
    → IsPrintableReport (reported w traces log order console) → IsWellFormed (reported w traces log order console)

-- its log reads as itself: it is well formed, and its memory and its console hold bytes
pub record ReadsBack (report : Report) : Type 0 where
  pub formed : IsWellFormed report
  pub bytes : HasBytes report

-- a machine in its limits that slots led to where none is enabled, with the order of its accesses by keys
abbrev pub ReportsAreWellFormed : Type 0
ReportsAreWellFormed =
    (w : Setup) (m : MachineState) (order : List Place) → IsRunOf w m → NoneEnabled m → IsOrderByKeys (items_of (traces_in m.cores)) order
    → IsTrue (is_in_limits w.config) → FitsDigits 10 w.image.entry → All AreWords (traces_in m.cores) → ReadsBack (report_of w m order)
