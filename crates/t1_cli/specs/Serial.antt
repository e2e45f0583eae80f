-- What the serial command promises.
use Rattle.std.specs.Prelude.{ℕ, ◌≡◌, List, Option, Some, None, Result, Ok, Err, ⊤}
use Rattle.std.specs.Io.KnownBytes.{IsAtEnd}
use Rattle.t1_io.specs.Causes.{Rose}
use Rattle.t1_io.specs.Held.{Grew, GrewPart}
use Rattle.t1_elf.specs.Saved.{saved}
use Rattle.t1_event.specs.declared.report.Config.{Config}
use Rattle.t1_event.specs.declared.report.Report.{Report}
use Rattle.t1_event.specs.Items.{items_of}
use Rattle.t1_joint.specs.Start.{Setup}
use Rattle.t1_gen.specs.Guests.{generated}
use Rattle.t1_check.specs.declared.verdict.Verdict.{Verdict as Judgement}
use Rattle.t1_check.specs.Verdicts.{Judges}
use Rattle.t1_cli.specs.declared.command.Run.{Run}
use Rattle.t1_cli.specs.declared.command.Task.{Task}
use Rattle.t1_cli.specs.declared.command.Task.TheVariants as task
use Rattle.t1_cli.specs.declared.refusal.Refusal.{Refusal}
use Rattle.t1_cli.specs.declared.status.Status.{Status}
use Rattle.t1_cli.specs.declared.status.Status.TheVariants as status
use Rattle.t1_cli.specs.Checks.{IsLogOf, IsNoLog, HoldsSo, BreaksSo, checked_line}
use Rattle.t1_cli.specs.Made.{asm_of, dis_of}
use Rattle.t1_cli.specs.Runs.{IsReportOfInput, by_schedule, printed_of, refusal_of, ended_of}
use Rattle.t1_cli.specs.Statuses.{status_of_verdict}

-- the input is what the source had left, where it tells it
abbrev pub WasLeft : Option (List ℕ) → List ℕ → Type 0
WasLeft None input = ⊤
WasLeft (Some left) input = left ≡ input

-- a status of a command whose whole text was written
abbrev pub HasText : Status → Type 0
HasText status.Good = ⊤
HasText status.Fault = ⊤
HasText status.Spent = ⊤
HasText status.Usage = ⊥
HasText status.Refused = ⊥
HasText status.ReadFault = ⊥
HasText status.WriteFault = ⊥
HasText status.OutOfMemory = ⊥
HasText status.NotInOrder = ⊤

-- a status of a command that wrote nothing
abbrev pub HasNoText : Status → Type 0
HasNoText status.Usage = ⊤
HasNoText status.Refused = ⊤
HasNoText status.ReadFault = ⊤
HasNoText status.OutOfMemory = ⊤
HasNoText status.Good = ⊥
HasNoText status.Fault = ⊥
HasNoText status.Spent = ⊥
HasNoText status.WriteFault = ⊥
HasNoText status.NotInOrder = ⊥

-- a command answers the status that is expected, but where a device failed or memory was wanting
abbrev pub Answers : Status → Status → Type 0
Answers status.ReadFault expected = ⊤
Answers status.WriteFault expected = ⊤
Answers status.OutOfMemory expected = ⊤
Answers status.Good expected = expected ≡ status.Good
Answers status.Usage expected = expected ≡ status.Usage
Answers status.Refused expected = expected ≡ status.Refused
Answers status.Fault expected = expected ≡ status.Fault
Answers status.Spent expected = expected ≡ status.Spent
Answers status.NotInOrder expected = expected ≡ status.NotInOrder

-- where the source tells its bytes, the status is the one that is expected of them
abbrev pub AnswersInput : (List ℕ → Status) → Option (List ℕ) → Status → Type 0
AnswersInput expected None result = ⊤
AnswersInput expected (Some left) result = Answers result (expected left)

-- ---- the run of an input, whatever reports there are of a machine

-- the input's machine has this report, of which this holds, and what was written grew by its text in this way
pub record PrintsReport (config : Config) (reports : Setup → Report → Type 0) (text : Report → List ℕ) (left : Option (List ℕ)) (ended : Report → Type 0) (grew : List ℕ → Type 0) : Type 0 where
  pub input : List ℕ
  pub read : WasLeft left input
  pub report : Report
  pub is_report : IsReportOfInput config reports input report
  pub came : ended report
  pub printed : grew (text report)

-- the input is too long, or no program that can be loaded
pub record RefusesProgram (config : Config) (left : Option (List ℕ)) : Type 0 where
  pub input : List ℕ
  pub read : WasLeft left input
  pub why : Refusal
  pub refused : refusal_of config input ≡ Some why

-- how the strands ended is told by this status
abbrev pub EndedAs : Status → Report → Type 0
EndedAs result report = status_of_verdict (ended_of report.traces) ≡ result

-- the whole text was written, or a front of it; the input is refused; a read failed, or memory was wanting
abbrev pub AnswersReport : Config → (Setup → Report → Type 0) → (Report → List ℕ) → Option (List ℕ) → Option (List ℕ) → Option (List ℕ) → Option (List ℕ) → Status → Type 0
AnswersReport config reports text left left' old new status.Good = PrintsReport config reports text left (EndedAs status.Good) (Grew old new) × IsAtEnd left'
AnswersReport config reports text left left' old new status.Fault = PrintsReport config reports text left (EndedAs status.Fault) (Grew old new) × IsAtEnd left'
AnswersReport config reports text left left' old new status.Spent = PrintsReport config reports text left (EndedAs status.Spent) (Grew old new) × IsAtEnd left'
AnswersReport config reports text left left' old new status.WriteFault = PrintsReport config reports text left (λ report. ⊤) (GrewPart old new)
AnswersReport config reports text left left' old new status.Refused = RefusesProgram config left
AnswersReport config reports text left left' old new status.ReadFault = ⊤
AnswersReport config reports text left left' old new status.OutOfMemory = ⊤
AnswersReport config reports text left left' old new status.Usage = ⊥
AnswersReport config reports text left left' old new status.NotInOrder = ⊥

-- ---- the command run

-- its reports are those by the schedule of its words
abbrev pub AnswersRun : Run → Option (List ℕ) → Option (List ℕ) → Option (List ℕ) → Option (List ℕ) → Status → Type 0
AnswersRun run left left' old new result = AnswersReport run.config (by_schedule run) (printed_of run.brief) left left' old new result

-- ---- the commands asm and dis, which make a text of each input or refuse it

-- a text was made of the input, and what was written grew by it in this way
pub record PrintsText (makes : List ℕ → Result (List ℕ) Refusal) (left : Option (List ℕ)) (grew : List ℕ → Type 0) : Type 0 where
  pub input : List ℕ
  pub read : WasLeft left input
  pub text : List ℕ
  pub made : makes input ≡ Ok text
  pub printed : grew text

-- the input is refused
pub record RefusesText (makes : List ℕ → Result (List ℕ) Refusal) (left : Option (List ℕ)) : Type 0 where
  pub input : List ℕ
  pub read : WasLeft left input
  pub why : Refusal
  pub refused : makes input ≡ Err why

-- the whole text was written, or a front of it; the input is refused; a read failed, or memory was wanting
abbrev pub CameOfText : (List ℕ → Result (List ℕ) Refusal) → Option (List ℕ) → Option (List ℕ) → Option (List ℕ) → Option (List ℕ) → Status → Type 0
CameOfText makes left left' old new status.Good = PrintsText makes left (Grew old new) × IsAtEnd left'
CameOfText makes left left' old new status.WriteFault = PrintsText makes left (GrewPart old new)
CameOfText makes left left' old new status.Refused = RefusesText makes left
CameOfText makes left left' old new status.ReadFault = ⊤
CameOfText makes left left' old new status.OutOfMemory = ⊤
CameOfText makes left left' old new status.Usage = ⊥
CameOfText makes left left' old new status.Fault = ⊥
CameOfText makes left left' old new status.Spent = ⊥
CameOfText makes left left' old new status.NotInOrder = ⊥

-- the status that is expected of what is made of an input
abbrev pub status_of_made : Result (List ℕ) Refusal → Status
status_of_made (Ok text) = status.Good
status_of_made (Err why) = status.Refused

abbrev pub status_of_text : (List ℕ → Result (List ℕ) Refusal) → List ℕ → Status
status_of_text makes input = status_of_made (makes input)

-- what a status of such a command says of what was read and of what was written
pub record AnswersText (makes : List ℕ → Result (List ℕ) Refusal) (left left' old new : Option (List ℕ)) (result : Status) : Type 0 where
  pub exact : AnswersInput (status_of_text makes) left result
  pub came : CameOfText makes left left' old new result

-- ---- the command check

-- the input is the log of a well-formed report, whose order is judged so, and what was written grew by the verdict
-- in this way
pub record PrintsVerdict (left : Option (List ℕ)) (judged : Judgement → Type 0) (grew : List ℕ → Type 0) : Type 0 where
  pub input : List ℕ
  pub read : WasLeft left input
  pub report : Report
  pub log : IsLogOf input report
  pub judgement : Judgement
  pub judges : Judges judgement report.image.ram (items_of report.traces) report.order
  pub came : judged judgement
  pub printed : grew (checked_line judgement)

-- the input is refused
pub record RefusesLog (left : Option (List ℕ)) : Type 0 where
  pub input : List ℕ
  pub read : WasLeft left input
  pub why : Refusal
  pub refused : IsNoLog input why

-- the order holds, or it is broken; a front of the verdict was written; the input is refused; a read failed, or memory
-- was wanting
abbrev pub AnswersCheck : Option (List ℕ) → Option (List ℕ) → Option (List ℕ) → Option (List ℕ) → Status → Type 0
AnswersCheck left left' old new status.Good = PrintsVerdict left HoldsSo (Grew old new) × IsAtEnd left'
AnswersCheck left left' old new status.NotInOrder = PrintsVerdict left BreaksSo (Grew old new) × IsAtEnd left'
AnswersCheck left left' old new status.WriteFault = PrintsVerdict left (λ judgement. ⊤) (GrewPart old new)
AnswersCheck left left' old new status.Refused = RefusesLog left
AnswersCheck left left' old new status.ReadFault = ⊤
AnswersCheck left left' old new status.OutOfMemory = ⊤
AnswersCheck left left' old new status.Usage = ⊥
AnswersCheck left left' old new status.Fault = ⊥
AnswersCheck left left' old new status.Spent = ⊥

-- ---- the command gen

-- the saved guest was written, or a front of it, or memory was wanting
abbrev pub AnswersGen : ℕ → ℕ → Option (List ℕ) → Option (List ℕ) → Status → Type 0
AnswersGen seed size old new status.Good = Grew old new (saved (generated seed size))
AnswersGen seed size old new status.WriteFault = GrewPart old new (saved (generated seed size))
AnswersGen seed size old new status.OutOfMemory = ⊤
AnswersGen seed size old new status.Usage = ⊥
AnswersGen seed size old new status.Refused = ⊥
AnswersGen seed size old new status.Fault = ⊥
AnswersGen seed size old new status.Spent = ⊥
AnswersGen seed size old new status.ReadFault = ⊥
AnswersGen seed size old new status.NotInOrder = ⊥

-- ---- all commands

-- what a status says, by what the words ask for
abbrev pub AnswersTask : Option Task → Option (List ℕ) → Option (List ℕ) → Option (List ℕ) → Option (List ℕ) → Status → Type 0
AnswersTask None left left' old new result = result ≡ status.Usage
AnswersTask (Some (task.Run run)) left left' old new result = AnswersRun run left left' old new result
AnswersTask (Some task.Asm) left left' old new result = AnswersText asm_of left left' old new result
AnswersTask (Some task.Dis) left left' old new result = AnswersText dis_of left left' old new result
AnswersTask (Some task.Check) left left' old new result = AnswersCheck left left' old new result
AnswersTask (Some (task.Gen seed size)) left left' old new result = AnswersGen seed size old new result

-- the words ask for a guest, which reads no input, or for nothing
abbrev pub ReadsNothing : Option Task → Type 0
ReadsNothing None = ⊤
ReadsNothing (Some (task.Run run)) = ⊥
ReadsNothing (Some task.Asm) = ⊥
ReadsNothing (Some task.Dis) = ⊥
ReadsNothing (Some task.Check) = ⊥
ReadsNothing (Some (task.Gen seed size)) = ⊤

-- a front of a line was written, and the whole line where the count of faults did not rise
pub record TellsLine (faults faults' : ℕ) (old new : Option (List ℕ)) (line : List ℕ) : Type 0 where
  pub whole : (Rose faults faults' → ⊥) → Grew old new line
  pub front : GrewPart old new line
