-- The headline: from what a command answers to what it claims.
use Rattle.std.proofs.Common.{ℕ, List, Option, Some, None, refl, ap, sym, subst}
use Rattle.std.specs.Prelude.{⊤}
use Rattle.t1_event.specs.declared.report.Config.{Config}
use Rattle.t1_event.specs.declared.report.Report.{Report}
use Rattle.t1_joint.specs.Start.{Setup}
use Rattle.t1_cli.specs.declared.command.Run.{Run}
use Rattle.t1_cli.specs.declared.command.Task.{Task}
use Rattle.t1_cli.specs.declared.command.Task.TheVariants as task
use Rattle.t1_cli.specs.declared.status.Status.{Status}
use Rattle.t1_cli.specs.declared.status.Status.TheVariants as status
use Rattle.t1_cli.specs.Runs.{by_schedule, printed_of}
use Rattle.t1_cli.specs.Serial.{PrintsReport, AnswersReport, AnswersTask}
use Rattle.t1_cli.specs.Headline.{IsInOrder, IsOfCoveredMachine, claimed_of, ClaimsReport, ClaimsTask}

-- what is claimed of each report is claimed of the one that was printed, however the strands ended
prints : (config : Config) (reports claimed : Setup → Report → Type 0) (text : Report → List ℕ) (left : Option (List ℕ)) (ended : Report → Type 0) (grew : List ℕ → Type 0)
    → ((w : Setup) (report : Report) → reports w report → claimed w report)
    → PrintsReport config reports text left ended grew → PrintsReport config claimed text left (λ report. ⊤) grew
prints config reports claimed text left ended grew claim p = record {
  input = p.input;
  read = p.read;
  report = p.report;
  is_report = record { short = p.is_report.short; object = p.is_report.object; file = p.is_report.file; is_report = claim _ p.report p.is_report.is_report };
  came = tt;
  printed = p.printed;
}

-- an answer claims what each report claims
pub report_claims : (config : Config) (reports claimed : Setup → Report → Type 0) (text : Report → List ℕ) (left left' old new : Option (List ℕ)) (result : Status)
    → ((w : Setup) (report : Report) → reports w report → claimed w report)
    → AnswersReport config reports text left left' old new result → ClaimsReport config claimed text left old new result
report_claims config reports claimed text left left' old new status.Good claim a = prints config reports claimed text left _ _ claim a.0
report_claims config reports claimed text left left' old new status.Fault claim a = prints config reports claimed text left _ _ claim a.0
report_claims config reports claimed text left left' old new status.Spent claim a = prints config reports claimed text left _ _ claim a.0
report_claims config reports claimed text left left' old new status.WriteFault claim a = prints config reports claimed text left _ _ claim a
report_claims config reports claimed text left left' old new status.Usage claim a = tt
report_claims config reports claimed text left left' old new status.Refused claim a = tt
report_claims config reports claimed text left left' old new status.ReadFault claim a = tt
report_claims config reports claimed text left left' old new status.OutOfMemory claim a = tt
report_claims config reports claimed text left left' old new status.NotInOrder claim a = tt

-- ---- runs

in_order : (run : Run) (w : Setup) (report : Report) → by_schedule run w report → IsInOrder w report
in_order run w report r = subst (λ v. IsInOrder w v) (sym r.is)
    (record { config = refl; image = refl; strands = r.ends.history.all_strands; lists = r.obeys.listing; obeys = r.obeys.tso; follows = r.ends.history.table })

machine_is : (run : Run) (w : Setup) (report : Report) → by_schedule run w report → IsOfCoveredMachine w run.schedule report
machine_is run w report r = record {
  last = r.last;
  runs = r.runs;
  traces = ap (λ v. v.traces) r.is;
  log = ap (λ v. v.log) r.is;
  covered = λ numbers. (r.stands numbers).covered;
}

run_claims : (run : Run) (w : Setup) (report : Report) → by_schedule run w report → claimed_of run w report
run_claims run w report r = (in_order run w report r, machine_is run w report r)

-- an answer to words makes the headline true of them
pub task_claims : (asked : Option Task) (left left' old new : Option (List ℕ)) (result : Status)
    → AnswersTask asked left left' old new result → ClaimsTask asked left old new result
task_claims (Some (task.Run run)) left left' old new result a =
    report_claims run.config (by_schedule run) (claimed_of run) (printed_of run.brief) left left' old new result (run_claims run) a
task_claims None left left' old new result a = tt
task_claims (Some task.Asm) left left' old new result a = tt
task_claims (Some task.Dis) left left' old new result a = tt
task_claims (Some task.Check) left left' old new result a = tt
task_claims (Some (task.Gen seed size)) left left' old new result a = tt
