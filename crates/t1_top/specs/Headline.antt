-- What the order of a printed report is worth, of a run by a schedule and of a threaded run.
use Rattle.std.specs.Prelude.{ℕ, List, Option, Some}
use Rattle.t1_event.specs.declared.report.Report.{Report}
use Rattle.t1_joint.specs.Covered.{IsCovered}
use Rattle.t1_joint.specs.JointHistory.{IsJointHistory, run_of}
use Rattle.t1_joint.specs.Start.{Setup}
use Rattle.t1_log.specs.Log.{text_of}
use Rattle.t1_cli.specs.declared.command.Command.{Command}
use Rattle.t1_cli.specs.declared.command.Command.TheVariants as command
use Rattle.t1_cli.specs.declared.status.Status.{Status}
use Rattle.t1_cli.specs.Headline.{IsInOrder, ClaimsReport, ClaimsTask}
use Rattle.t1_cli.specs.Words.{served}

-- what is claimed of a report of a threaded run: its order and its traces, that these and its log are a joint history, and that
-- the caches by the log are at every length of it what the directories show
abbrev pub claimed_of_live : Setup → Report → Type 0
claimed_of_live w report = IsInOrder w report × IsJointHistory w report.traces report.log × IsCovered (run_of w report.traces report.log)

-- the headline, by what the words ask for: it speaks of runs and of threaded runs
abbrev pub ClaimsCommand : Option Command → Option (List ℕ) → Option (List ℕ) → Option (List ℕ) → Status → Type 0
ClaimsCommand (Some (command.Live config)) left old new result = ClaimsReport config claimed_of_live text_of left old new result
ClaimsCommand asked left old new result = ClaimsTask (served asked) left old new result
