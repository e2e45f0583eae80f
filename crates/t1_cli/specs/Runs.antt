-- What comes of the run of an input: why it is refused, or its report, and how its strands ended.
use Rattle.std.specs.Prelude.{ℕ, suc, ◌≡◌, ◌≤◌, nat_lt, if◌then◌else◌, Bool, true, false, List, [], ◌∷◌, length, Option, Some, None, unwrap_or, Result, Ok, Err}
use Rattle.t1_elf.specs.declared.error.ElfError.{ElfError}
use Rattle.t1_elf.specs.declared.object.Image.{Image}
use Rattle.t1_elf.specs.declared.object.Object.{Object}
use Rattle.t1_elf.specs.Images.{image_of}
use Rattle.t1_elf.specs.Parsed.{parsed}
use Rattle.t1_event.specs.declared.report.Config.{Config}
use Rattle.t1_event.specs.declared.report.Report.{Report}
use Rattle.t1_event.specs.declared.trace.Trace.{Trace}
use Rattle.t1_event.specs.declared.trace.Ending.{Ending}
use Rattle.t1_event.specs.declared.trace.Ending.TheVariants as ending
use Rattle.t1_event.specs.Items.{items_of}
use Rattle.t1_event.specs.Keys.{IsOrderByKeys}
use Rattle.t1_joint.specs.Start.{Setup}
use Rattle.t1_machine.specs.declared.schedule.Schedule.{Schedule}
use Rattle.t1_machine.specs.Machine.{MachineState}
use Rattle.t1_machine.specs.Runs.{machine_after, RunsTo}
use Rattle.t1_machine.specs.Start.{setup_of, machine_start}
use Rattle.t1_machine_rule.specs.Stands.{Stands}
use Rattle.t1_machine_rule.specs.Ends.{Ends, Reports, report_of}
use Rattle.t1_reads_back.specs.Laws.{ReadsBack}
use Rattle.t1_log.specs.Log.{text_of}
use Rattle.t1_log.specs.Brief.{brief_of}
use Rattle.t1_cli.specs.declared.command.Run.{Run}
use Rattle.t1_cli.specs.declared.refusal.Refusal.{Refusal}
use Rattle.t1_cli.specs.declared.refusal.Refusal.TheVariants.{TooLong, Misformed}
use Rattle.t1_cli.specs.declared.verdict.Verdict.{Verdict}
use Rattle.t1_cli.specs.declared.verdict.Verdict.TheVariants as verdict

-- ---- refusals

-- the most bytes of an input
abbrev pub most_input : ℕ
most_input = 67108864

abbrev pub is_long : List ℕ → Bool
is_long input = nat_lt most_input (length input)

abbrev pub refusal_in : Result Object ElfError → Option Refusal
refusal_in (Ok object) = None
refusal_in (Err error) = Some (Misformed error)

-- why an input is not run: it is too long, or no program that fits the RAM
unfoldable pub refusal_of : Config → List ℕ → Option Refusal
refusal_of config input = if is_long input then Some TooLong else refusal_in (parsed input config.ram)

-- ---- reports

-- the machine goes by the schedule from its start to where no slot is enabled; the report has its traces, its
-- log, the memory order and its console
pub record IsReportOf (w : Setup) (schedule : Schedule) (report : Report) : Type 0 where
  pub last : MachineState
  pub runs : RunsTo (machine_start w) schedule last
  pub is : report ≡ report_of w last report.order
  pub by_keys : IsOrderByKeys (items_of report.traces) report.order
  -- the traces and the log are a joint history: each trace follows the instruction table
  pub ends : Ends w last
  -- the order lists each access once and obeys total store order
  pub obeys : Reports w last report.order
  -- its log reads back as this report
  pub reads_back : ReadsBack report
  -- after every list of slots the machine stands: its caches, with the packets in flight, are what the
  -- directories show, and each strand is its replay so far
  pub stands : (numbers : List ℕ) → Stands w (machine_after (machine_start w) numbers)

-- the machine of an object, with its image
abbrev pub setup_in : Config → Object → Setup
setup_in config object = setup_of config (image_of object config.ram)

-- the input is the file of an object that fits the RAM, and its machine has this report, by what reports there are
-- of a machine
pub record IsReportOfInput (config : Config) (reports : Setup → Report → Type 0) (input : List ℕ) (report : Report) : Type 0 where
  pub short : length input ≤ most_input
  pub object : Object
  pub file : parsed input config.ram ≡ Ok object
  pub is_report : reports (setup_in config object) report

-- the reports of a run: those by the schedule of its words
abbrev pub by_schedule : Run → Setup → Report → Type 0
by_schedule run w report = IsReportOf w run.schedule report

-- the input is the file of an object that fits the RAM, and this is its image
pub record IsImageOfInput (config : Config) (input : List ℕ) (image : Image) : Type 0 where
  pub short : length input ≤ most_input
  pub object : Object
  pub file : parsed input config.ram ≡ Ok object
  pub is : image ≡ image_of object config.ram

-- its log, or its summary
abbrev pub printed_of : Bool → Report → List ℕ
printed_of true report = brief_of report
printed_of false report = text_of report

-- ---- how the strands ended

-- a strand with this PC that ended by a fault
abbrev pub fault_of : ℕ → ℕ → Option Ending → Option Verdict
fault_of strand pc (Some (ending.Fault number)) = Some (verdict.Fault strand number pc)
fault_of strand pc (Some ending.Halted) = None
fault_of strand pc (Some ending.Spent) = None
fault_of strand pc None = None

-- a strand that is spent
abbrev pub spent_of : ℕ → Option Ending → Option Verdict
spent_of strand (Some ending.Spent) = Some (verdict.Spent strand)
spent_of strand (Some ending.Halted) = None
spent_of strand (Some (ending.Fault number)) = None
spent_of strand None = None

abbrev pub first_of : Option Verdict → Option Verdict → Option Verdict
first_of (Some v) later = Some v
first_of None later = later

-- the first strand, numbered from one on, that ended by a fault
unfoldable pub fault_from : ℕ → List Trace → Option Verdict
fault_from strand [] = None
fault_from strand (trace ∷ traces) = first_of (fault_of strand trace.pc trace.ending) (fault_from (suc strand) traces)

-- the first that is spent
unfoldable pub spent_from : ℕ → List Trace → Option Verdict
spent_from strand [] = None
spent_from strand (trace ∷ traces) = first_of (spent_of strand trace.ending) (spent_from (suc strand) traces)

-- a fault comes before a strand that is spent
unfoldable pub ended_of : List Trace → Verdict
ended_of traces = unwrap_or (fault_from 0 traces) (unwrap_or (spent_from 0 traces) verdict.Good)
