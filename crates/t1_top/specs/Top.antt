-- What the top command promises.
use Rattle.std.specs.Prelude.{ℕ, ◌≡◌, List, Option, Some, None, ⊤}
use Rattle.t1_event.specs.declared.report.Config.{Config}
use Rattle.t1_log.specs.Log.{text_of}
use Rattle.t1_cli.specs.declared.command.Command.{Command}
use Rattle.t1_cli.specs.declared.command.Command.TheVariants as command
use Rattle.t1_cli.specs.declared.status.Status.{Status}
use Rattle.t1_cli.specs.declared.status.Status.TheVariants as status
use Rattle.t1_cli.specs.declared.verdict.Verdict.{Verdict}
use Rattle.t1_cli.specs.Serial.{AnswersReport, AnswersTask}
use Rattle.t1_cli.specs.Verdict.{OfInput, JudgedInput, ServesTask}
use Rattle.t1_cli.specs.Words.{served}
use Rattle.t1_top.specs.Live.{IsLiveReportOf}

-- the machine of the command live, where the words ask for it
abbrev pub live_of : Option Command → Option Config
live_of None = None
live_of (Some (command.Live config)) = Some config
live_of (Some (command.Run config seed brief)) = None
live_of (Some command.Asm) = None
live_of (Some command.Dis) = None
live_of (Some command.Check) = None
live_of (Some (command.Gen seed size)) = None

-- what a status says, by what the words ask for: live writes the log of a report of the threaded run, and all other
-- commands are those of one thread
abbrev pub AnswersCommand : Option Command → Option (List ℕ) → Option (List ℕ) → Option (List ℕ) → Option (List ℕ) → Status → Type 0
AnswersCommand (Some (command.Live config)) left left' old new result = AnswersReport config IsLiveReportOf text_of left left' old new result
AnswersCommand None left left' old new result = result ≡ status.Usage
AnswersCommand (Some (command.Run config seed brief)) left left' old new result = AnswersTask (served (Some (command.Run config seed brief))) left left' old new result
AnswersCommand (Some command.Asm) left left' old new result = AnswersTask (served (Some command.Asm)) left left' old new result
AnswersCommand (Some command.Dis) left left' old new result = AnswersTask (served (Some command.Dis)) left left' old new result
AnswersCommand (Some command.Check) left left' old new result = AnswersTask (served (Some command.Check)) left left' old new result
AnswersCommand (Some (command.Gen seed size)) left left' old new result = AnswersTask (served (Some (command.Gen seed size))) left left' old new result

-- the words ask for a guest, which reads no input, or for nothing
abbrev pub ReadsNoInput : Option Command → Type 0
ReadsNoInput None = ⊤
ReadsNoInput (Some (command.Gen seed size)) = ⊤
ReadsNoInput (Some (command.Run config seed brief)) = ⊥
ReadsNoInput (Some (command.Live config)) = ⊥
ReadsNoInput (Some command.Asm) = ⊥
ReadsNoInput (Some command.Dis) = ⊥
ReadsNoInput (Some command.Check) = ⊥

-- what a verdict says, by what the words ask for
abbrev pub ServesCommand : Option Command → Option (List ℕ) → Option (List ℕ) → Option (List ℕ) → Verdict → Type 0
ServesCommand (Some (command.Live config)) left old new came = OfInput left (λ input. JudgedInput config IsLiveReportOf text_of input old new came)
ServesCommand None left old new came = ServesTask (served None) left old new came
ServesCommand (Some (command.Run config seed brief)) left old new came = ServesTask (served (Some (command.Run config seed brief))) left old new came
ServesCommand (Some command.Asm) left old new came = ServesTask (served (Some command.Asm)) left old new came
ServesCommand (Some command.Dis) left old new came = ServesTask (served (Some command.Dis)) left old new came
ServesCommand (Some command.Check) left old new came = ServesTask (served (Some command.Check)) left old new came
ServesCommand (Some (command.Gen seed size)) left old new came = ServesTask (served (Some (command.Gen seed size))) left old new came
