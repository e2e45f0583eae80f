-- What a command came to, with all that its line on err tells.
use Rattle.std.specs.Prelude.{ℕ, ◌≡◌, ◌<◌, List, [], length, Option, Some, None, Result, Ok, Err, ⊤, codes}
use Rattle.t1_io.specs.Held.{Grew, GrewPart}
use Rattle.t1_elf.specs.Saved.{saved}
use Rattle.t1_event.specs.declared.report.Config.{Config}
use Rattle.t1_event.specs.declared.report.Report.{Report}
use Rattle.t1_event.specs.Items.{items_of}
use Rattle.t1_joint.specs.Start.{Setup}
use Rattle.t1_gen.specs.Guests.{generated}
use Rattle.t1_check.specs.declared.verdict.Verdict.{Verdict as Judgement}
use Rattle.t1_check.specs.declared.verdict.Verdict.TheVariants.{Holds, Broken}
use Rattle.t1_check.specs.Verdicts.{Judges}
use Rattle.t1_stmt.specs.declared.fault.Fault.{Fault}
use Rattle.t1_cli.specs.declared.command.Run.{Run}
use Rattle.t1_cli.specs.declared.command.Task.{Task}
use Rattle.t1_cli.specs.declared.command.Task.TheVariants as task
use Rattle.t1_cli.specs.declared.refusal.Refusal.{Refusal}
use Rattle.t1_cli.specs.declared.refusal.Refusal.TheVariants as refusal
use Rattle.t1_cli.specs.declared.status.Status.{Status}
use Rattle.t1_cli.specs.declared.verdict.Verdict.{Verdict}
use Rattle.t1_cli.specs.declared.verdict.Verdict.TheVariants as verdict
use Rattle.t1_cli.specs.Lines.{refusal_line, fault_line, spent_line}
use Rattle.t1_cli.specs.Checks.{IsLogOf, IsNoLog, HoldsSo, BreaksSo, checked_line}
use Rattle.t1_cli.specs.Made.{asm_of, dis_of}
use Rattle.t1_cli.specs.Runs.{most_input, refusal_of, IsReportOfInput, by_schedule, printed_of, ended_of}
use Rattle.t1_cli.specs.Statuses.{status_of_verdict}
use Rattle.t1_cli.specs.Serial.{WasLeft, TellsLine}

-- the line on err
unfoldable pub verdict_line_of : Verdict → List ℕ
verdict_line_of verdict.Good = []
verdict_line_of verdict.Usage = codes "t1sim: usage\n"
verdict_line_of (verdict.Refused why) = refusal_line why
verdict_line_of (verdict.Fault strand number pc) = fault_line strand number pc
verdict_line_of (verdict.Spent strand) = spent_line strand
verdict_line_of verdict.ReadFault = codes "t1sim: read fault\n"
verdict_line_of verdict.WriteFault = codes "t1sim: write fault\n"
verdict_line_of verdict.OutOfMemory = codes "t1sim: out of memory\n"
verdict_line_of verdict.NotInOrder = codes "t1sim: not in order\n"

-- ---- what was read

-- a fact of what the source had left
pub record OfInput (left : Option (List ℕ)) (fact : List ℕ → Type 0) : Type 0 where
  pub input : List ℕ
  pub read : WasLeft left input
  pub holds : fact input

-- why an input was not read whole: it is too long, a read failed, or memory was wanting
abbrev pub IsUnread : Option (List ℕ) → Verdict → Type 0
IsUnread left (verdict.Refused refusal.TooLong) = OfInput left (λ input. most_input < length input)
IsUnread left verdict.ReadFault = ⊤
IsUnread left verdict.OutOfMemory = ⊤
IsUnread left _ = ⊥

-- ---- the run of an input

-- there is such a report, of which this holds, and what was written grew by its text in this way
pub record RanTo (reports : Report → Type 0) (text : Report → List ℕ) (ended : Report → Type 0) (grew : List ℕ → Type 0) : Type 0 where
  pub report : Report
  pub is_report : reports report
  pub came : ended report
  pub printed : grew (text report)

-- its strands ended so
abbrev pub EndedIn : Verdict → Report → Type 0
EndedIn came report = ended_of report.traces ≡ came

-- what a verdict says of why there is no report, or of a report and of what was written
abbrev pub Judged : (Refusal → Type 0) → (Report → Type 0) → (Report → List ℕ) → Option (List ℕ) → Option (List ℕ) → Verdict → Type 0
Judged refuses reports text old new verdict.Good = RanTo reports text (EndedIn verdict.Good) (Grew old new)
Judged refuses reports text old new verdict.Usage = ⊥
Judged refuses reports text old new (verdict.Refused why) = refuses why
Judged refuses reports text old new (verdict.Fault strand number pc) = RanTo reports text (EndedIn (verdict.Fault strand number pc)) (Grew old new)
Judged refuses reports text old new (verdict.Spent strand) = RanTo reports text (EndedIn (verdict.Spent strand)) (Grew old new)
Judged refuses reports text old new verdict.ReadFault = ⊤
Judged refuses reports text old new verdict.WriteFault = RanTo reports text (λ report. ⊤) (GrewPart old new)
Judged refuses reports text old new verdict.OutOfMemory = ⊤
Judged refuses reports text old new verdict.NotInOrder = ⊥

-- what it says of an input
abbrev pub JudgedInput : Config → (Setup → Report → Type 0) → (Report → List ℕ) → List ℕ → Option (List ℕ) → Option (List ℕ) → Verdict → Type 0
JudgedInput config reports text input old new came =
    Judged (λ why. refusal_of config input ≡ Some why) (IsReportOfInput config reports input) text old new came

-- the command run
abbrev pub JudgedRun : Run → List ℕ → Option (List ℕ) → Option (List ℕ) → Verdict → Type 0
JudgedRun run input old new came = JudgedInput run.config (by_schedule run) (printed_of run.brief) input old new came

-- a verdict tells why the input is not run, or memory was wanting
abbrev pub IsRefusal : Config → List ℕ → Verdict → Type 0
IsRefusal config input (verdict.Refused why) = refusal_of config input ≡ Some why
IsRefusal config input verdict.OutOfMemory = ⊤
IsRefusal config input _ = ⊥

-- why an input is not loaded: it is refused, a read failed, or memory was wanting
abbrev pub IsUnloaded : Config → List ℕ → Verdict → Type 0
IsUnloaded config input (verdict.Refused why) = refusal_of config input ≡ Some why
IsUnloaded config input verdict.ReadFault = ⊤
IsUnloaded config input verdict.OutOfMemory = ⊤
IsUnloaded config input _ = ⊥

-- ---- the commands asm and dis

-- a verdict tells the fault of a text, or memory was wanting
abbrev pub FaultTold : Result (List ℕ) (ℕ × Fault) → Verdict → Type 0
FaultTold made (verdict.Refused (refusal.Faulty line fault)) = made ≡ Err (line, fault)
FaultTold made verdict.OutOfMemory = ⊤
FaultTold made _ = ⊥

-- a text was made, and what was written grew by it in this way
pub record IsText (made : Result (List ℕ) Refusal) (grew : List ℕ → Type 0) : Type 0 where
  pub text : List ℕ
  pub is : made ≡ Ok text
  pub printed : grew text

-- what a verdict says of what is made of the input, and of what was written
abbrev pub Made : Result (List ℕ) Refusal → Option (List ℕ) → Option (List ℕ) → Verdict → Type 0
Made made old new verdict.Good = IsText made (Grew old new)
Made made old new verdict.WriteFault = IsText made (GrewPart old new)
Made made old new (verdict.Refused why) = made ≡ Err why
Made made old new verdict.ReadFault = ⊤
Made made old new verdict.OutOfMemory = ⊤
Made made old new verdict.Usage = ⊥
Made made old new (verdict.Fault strand number pc) = ⊥
Made made old new (verdict.Spent strand) = ⊥
Made made old new verdict.NotInOrder = ⊥

-- ---- the command check

-- the input is a log, judged so, and what was written grew by the verdict in this way
pub record IsChecked (input : List ℕ) (judged : Judgement → Type 0) (grew : List ℕ → Type 0) : Type 0 where
  pub report : Report
  pub log : IsLogOf input report
  pub judgement : Judgement
  pub judges : Judges judgement report.image.ram (items_of report.traces) report.order
  pub came : judged judgement
  pub printed : grew (checked_line judgement)

-- the verdict on an order that is judged so
abbrev pub told_of : Judgement → Verdict
told_of Holds = verdict.Good
told_of (Broken law first second) = verdict.NotInOrder

-- what a verdict says of the input and of what was written
abbrev pub Checked : List ℕ → Option (List ℕ) → Option (List ℕ) → Verdict → Type 0
Checked input old new verdict.Good = IsChecked input HoldsSo (Grew old new)
Checked input old new verdict.NotInOrder = IsChecked input BreaksSo (Grew old new)
Checked input old new verdict.WriteFault = IsChecked input (λ judgement. ⊤) (GrewPart old new)
Checked input old new (verdict.Refused why) = IsNoLog input why
Checked input old new verdict.ReadFault = ⊤
Checked input old new verdict.OutOfMemory = ⊤
Checked input old new verdict.Usage = ⊥
Checked input old new (verdict.Fault strand number pc) = ⊥
Checked input old new (verdict.Spent strand) = ⊥

-- ---- the command gen

-- what a verdict says of what was written
abbrev pub Guests : ℕ → ℕ → Option (List ℕ) → Option (List ℕ) → Verdict → Type 0
Guests seed size old new verdict.Good = Grew old new (saved (generated seed size))
Guests seed size old new verdict.WriteFault = GrewPart old new (saved (generated seed size))
Guests seed size old new verdict.OutOfMemory = ⊤
Guests seed size old new verdict.Usage = ⊥
Guests seed size old new (verdict.Refused why) = ⊥
Guests seed size old new (verdict.Fault strand number pc) = ⊥
Guests seed size old new (verdict.Spent strand) = ⊥
Guests seed size old new verdict.NotInOrder = ⊥
Guests seed size old new verdict.ReadFault = ⊥

-- ---- all commands

-- what a verdict says, by what the words ask for
abbrev pub ServesTask : Option Task → Option (List ℕ) → Option (List ℕ) → Option (List ℕ) → Verdict → Type 0
ServesTask None left old new came = came ≡ verdict.Usage
ServesTask (Some (task.Run run)) left old new came = OfInput left (λ input. JudgedRun run input old new came)
ServesTask (Some task.Asm) left old new came = OfInput left (λ input. Made (asm_of input) old new came)
ServesTask (Some task.Dis) left old new came = OfInput left (λ input. Made (dis_of input) old new came)
ServesTask (Some task.Check) left old new came = OfInput left (λ input. Checked input old new came)
ServesTask (Some (task.Gen seed size)) left old new came = Guests seed size old new came

-- one verdict, which says this, has the status, and its line is told
pub record Tells (says : Verdict → Type 0) (faults faults' : ℕ) (err err' : Option (List ℕ)) (result : Status) : Type 0 where
  pub verdict : Verdict
  pub status_is : status_of_verdict verdict ≡ result
  pub serves : says verdict
  pub told : TellsLine faults faults' err err' (verdict_line_of verdict)
