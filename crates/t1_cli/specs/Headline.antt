-- What the order of a printed report is worth: a list of each access that obeys total store order, of the machine that the words
-- name.
use Rattle.std.specs.Prelude.{ℕ, ◌≡◌, ◌*◌, List, length, Option, Some, ⊤}
use Rattle.t1_io.specs.Held.{Grew, GrewPart}
use Rattle.t1_event.specs.declared.report.Config.{Config}
use Rattle.t1_event.specs.declared.report.Report.{Report}
use Rattle.t1_event.specs.Items.{items_of}
use Rattle.t1_event.specs.Order.{IsListing, ObeysTso}
use Rattle.t1_joint.specs.JointHistory.{Table}
use Rattle.t1_joint.specs.Start.{Setup}
use Rattle.t1_machine.specs.declared.schedule.Schedule.{Schedule}
use Rattle.t1_machine.specs.Machine.{MachineState}
use Rattle.t1_machine.specs.Runs.{machine_after, RunsTo}
use Rattle.t1_machine.specs.Start.{machine_start}
use Rattle.t1_machine_rule.specs.Covered.{IsCoveredState}
use Rattle.t1_machine_rule.specs.Parts.{traces_in}
use Rattle.t1_cli.specs.declared.command.Run.{Run}
use Rattle.t1_cli.specs.declared.command.Task.{Task}
use Rattle.t1_cli.specs.declared.command.Task.TheVariants as task
use Rattle.t1_cli.specs.declared.status.Status.{Status}
use Rattle.t1_cli.specs.declared.status.Status.TheVariants as status
use Rattle.t1_cli.specs.Runs.{printed_of}
use Rattle.t1_cli.specs.Serial.{PrintsReport}

-- the report of a machine has a trace for each strand, an order that lists each access once and obeys total store order over its
-- own traces and image, and traces that follow the instruction table
pub record IsInOrder (w : Setup) (report : Report) : Type 0 where
  pub config : report.config ≡ w.config
  pub image : report.image ≡ w.image
  pub strands : length report.traces ≡ w.config.cores * w.config.strands
  pub lists : IsListing (items_of report.traces) report.order
  pub obeys : ObeysTso report.image.ram (items_of report.traces) report.order
  pub follows : Table w report.traces

-- the report is of the machine that goes by the schedule until no slot is enabled, and after every list of slots the caches of
-- that machine are covered
pub record IsOfCoveredMachine (w : Setup) (schedule : Schedule) (report : Report) : Type 0 where
  pub last : MachineState
  pub runs : RunsTo (machine_start w) schedule last
  pub traces : report.traces ≡ traces_in last.cores
  pub log : report.log ≡ last.xbar.log
  pub covered : (numbers : List ℕ) → IsCoveredState (machine_after (machine_start w) numbers)

-- what is claimed of a report of a run
abbrev pub claimed_of : Run → Setup → Report → Type 0
claimed_of run w report = IsInOrder w report × IsOfCoveredMachine w run.schedule report

-- a status that tells of a text comes with a report of the input of which this is claimed, and what was written grew by its text;
-- after a failed write it grew by a front of it
abbrev pub ClaimsReport : Config → (Setup → Report → Type 0) → (Report → List ℕ) → Option (List ℕ) → Option (List ℕ) → Option (List ℕ) → Status → Type 0
ClaimsReport config claimed text left old new status.Good = PrintsReport config claimed text left (λ report. ⊤) (Grew old new)
ClaimsReport config claimed text left old new status.Fault = PrintsReport config claimed text left (λ report. ⊤) (Grew old new)
ClaimsReport config claimed text left old new status.Spent = PrintsReport config claimed text left (λ report. ⊤) (Grew old new)
ClaimsReport config claimed text left old new status.WriteFault = PrintsReport config claimed text left (λ report. ⊤) (GrewPart old new)
ClaimsReport config claimed text left old new _ = ⊤

-- the headline, by what the words ask for: it speaks of runs
abbrev pub ClaimsTask : Option Task → Option (List ℕ) → Option (List ℕ) → Option (List ℕ) → Status → Type 0
ClaimsTask (Some (task.Run run)) left old new result = ClaimsReport run.config (claimed_of run) (printed_of run.brief) left old new result
ClaimsTask _ left old new result = ⊤
