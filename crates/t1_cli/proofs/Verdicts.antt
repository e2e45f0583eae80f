-- What a verdict says of the input is what its status promises.
use Rattle.std.proofs.Common.{◌≡◌, ◌↔◌, ℕ, List, [], Option, Some, None, Result, Ok, Err, refl, ap, sym, ◌∙◌, subst, append-nil}
use Rattle.std.specs.Prelude.{OnOk, OnErr, ⊤}
use Rattle.std.specs.Io.KnownBytes.{IsAtEnd}
use Rattle.t1_io.specs.Causes.{HasCause}
use Rattle.t1_io.specs.Held.{Grew, GrewPart}
use Rattle.t1_event.specs.declared.report.Config.{Config}
use Rattle.t1_event.specs.declared.report.Report.{Report}
use Rattle.t1_joint.specs.Start.{Setup}
use Rattle.t1_check.specs.declared.verdict.Verdict.{Verdict as Judgement}
use Rattle.t1_cli.specs.declared.command.Task.{Task}
use Rattle.t1_cli.specs.declared.command.Task.TheVariants as task
use Rattle.t1_cli.specs.declared.refusal.Refusal.{Refusal}
use Rattle.t1_cli.specs.declared.status.Status.{Status}
use Rattle.t1_cli.specs.declared.status.Status.TheVariants as status
use Rattle.t1_cli.specs.declared.verdict.Verdict.{Verdict}
use Rattle.t1_cli.specs.declared.verdict.Verdict.TheVariants as verdict
use Rattle.t1_cli.specs.Checks.{HoldsSo, BreaksSo}
use Rattle.t1_cli.specs.Made.{asm_of, dis_of}
use Rattle.t1_cli.specs.Serial.{WasLeft, HasText, Answers, AnswersInput, PrintsReport, EndedAs, PrintsVerdict, AnswersReport, AnswersText, AnswersCheck, AnswersGen, AnswersTask, ReadsNothing, TellsLine, status_of_made, status_of_text}
use Rattle.t1_cli.specs.Runs.{IsReportOfInput, by_schedule, printed_of}
use Rattle.t1_cli.specs.Statuses.{status_of_verdict}
use Rattle.t1_cli.specs.Verdict.{RanTo, EndedIn, IsChecked, JudgedInput, Made, Checked, Guests, ServesTask}

-- ---- lines on err

pub told : {T E : Type 0} (f f' : ℕ) (old new : Option (List ℕ)) (line : List ℕ) (r : Result T E) → HasCause f f' r
    → OnOk r (Grew old new line) → OnErr r (GrewPart old new line) → TellsLine f f' old new line
told f f' old new line (Ok v) cause ok err = record { whole = λ _. ok; front = (line, [], sym (append-nil line), ok) }
told f f' old new line (Err e) cause ok err = record { whole = λ none. absurd (none cause.failed); front = err }

-- ---- from verdicts to statuses

-- the status that an input's own status is
same_answers : (result expects : Status) → expects ≡ result → Answers result expects
same_answers status.Good expects is = is
same_answers status.Usage expects is = is
same_answers status.Refused expects is = is
same_answers status.Fault expects is = is
same_answers status.Spent expects is = is
same_answers status.ReadFault expects is = tt
same_answers status.WriteFault expects is = tt
same_answers status.OutOfMemory expects is = tt
same_answers status.NotInOrder expects is = is

-- the input was left: where the source tells its bytes they are this input's
answers_input : (expects : List ℕ → Status) (left : Option (List ℕ)) (input : List ℕ) (result : Status) → WasLeft left input → expects input ≡ result
    → AnswersInput expects left result
answers_input expects None input result read is = tt
answers_input expects (Some left) input result read is = same_answers result (expects left) (ap expects read ∙ is)

-- a device that failed, or want of memory, whatever is expected
answers_any : (expects : List ℕ → Status) (left : Option (List ℕ)) (result : Status) → ((expected : Status) → Answers result expected)
    → AnswersInput expects left result
answers_any expects None result any = tt
answers_any expects (Some left) result any = any (expects left)

-- ---- the run of an input

-- a verdict of a run that ended, and its status
ended_answers : (config : Config) (reports : Setup → Report → Type 0) (text : Report → List ℕ) (left left' old new : Option (List ℕ)) (input : List ℕ) (v : Verdict)
    (result : Status) → status_of_verdict v ≡ result → WasLeft left input → RanTo (IsReportOfInput config reports input) text (EndedIn v) (Grew old new)
    → IsAtEnd left' → PrintsReport config reports text left (EndedAs result) (Grew old new) × IsAtEnd left'
ended_answers config reports text left left' old new input v result is read j end = (
  record { input = input; read = read; report = j.report; is_report = j.is_report; came = ap status_of_verdict j.came ∙ is; printed = j.printed },
  end,
)

pub report_answers : (config : Config) (reports : Setup → Report → Type 0) (text : Report → List ℕ) (left left' old new : Option (List ℕ)) (v : Verdict)
    (input : List ℕ) → WasLeft left input → JudgedInput config reports text input old new v → (HasText (status_of_verdict v) → IsAtEnd left')
    → AnswersReport config reports text left left' old new (status_of_verdict v)
report_answers config reports text left left' old new verdict.Good input read j end =
    ended_answers config reports text left left' old new input verdict.Good status.Good refl read j (end tt)
report_answers config reports text left left' old new (verdict.Spent strand) input read j end =
    ended_answers config reports text left left' old new input (verdict.Spent strand) status.Spent refl read j (end tt)
report_answers config reports text left left' old new (verdict.Fault strand number pc) input read j end =
    ended_answers config reports text left left' old new input (verdict.Fault strand number pc) status.Fault refl read j (end tt)
report_answers config reports text left left' old new verdict.Usage input read j end = absurd j
report_answers config reports text left left' old new (verdict.Refused why) input read j end = record { input = input; read = read; why = why; refused = j }
report_answers config reports text left left' old new verdict.ReadFault input read j end = tt
report_answers config reports text left left' old new verdict.OutOfMemory input read j end = tt
report_answers config reports text left left' old new verdict.NotInOrder input read j end = absurd j
report_answers config reports text left left' old new verdict.WriteFault input read j end =
    record { input = input; read = read; report = j.report; is_report = j.is_report; came = tt; printed = j.printed }

-- ---- the commands asm and dis

text_answers : (makes : List ℕ → Result (List ℕ) Refusal) (left left' old new : Option (List ℕ)) (v : Verdict) (input : List ℕ) → WasLeft left input
    → Made (makes input) old new v → (HasText (status_of_verdict v) → IsAtEnd left') → AnswersText makes left left' old new (status_of_verdict v)
text_answers makes left left' old new verdict.Good input read j end = record {
  exact = answers_input (status_of_text makes) left input status.Good read (ap status_of_made j.is);
  came = (record { input = input; read = read; text = j.text; made = j.is; printed = j.printed }, end tt);
}
text_answers makes left left' old new verdict.WriteFault input read j end = record {
  exact = answers_any (status_of_text makes) left status.WriteFault (λ expected. tt);
  came = record { input = input; read = read; text = j.text; made = j.is; printed = j.printed };
}
text_answers makes left left' old new (verdict.Refused why) input read j end = record {
  exact = answers_input (status_of_text makes) left input status.Refused read (ap status_of_made j);
  came = record { input = input; read = read; why = why; refused = j };
}
text_answers makes left left' old new verdict.ReadFault input read j end =
    record { exact = answers_any (status_of_text makes) left status.ReadFault (λ expected. tt); came = tt }
text_answers makes left left' old new verdict.OutOfMemory input read j end =
    record { exact = answers_any (status_of_text makes) left status.OutOfMemory (λ expected. tt); came = tt }
text_answers makes left left' old new verdict.Usage input read j end = absurd j
text_answers makes left left' old new (verdict.Fault strand number pc) input read j end = absurd j
text_answers makes left left' old new (verdict.Spent strand) input read j end = absurd j
text_answers makes left left' old new verdict.NotInOrder input read j end = absurd j

-- ---- the command check

checked_answers : (left : Option (List ℕ)) (input : List ℕ) (judged : Judgement → Type 0) (grew : List ℕ → Type 0) → WasLeft left input
    → IsChecked input judged grew → PrintsVerdict left judged grew
checked_answers left input judged grew read j =
    record { input = input; read = read; report = j.report; log = j.log; judgement = j.judgement; judges = j.judges; came = j.came; printed = j.printed }

check_answers : (left left' old new : Option (List ℕ)) (v : Verdict) (input : List ℕ) → WasLeft left input → Checked input old new v
    → (HasText (status_of_verdict v) → IsAtEnd left') → AnswersCheck left left' old new (status_of_verdict v)
check_answers left left' old new verdict.Good input read j end = (checked_answers left input HoldsSo (Grew old new) read j, end tt)
check_answers left left' old new verdict.NotInOrder input read j end = (checked_answers left input BreaksSo (Grew old new) read j, end tt)
check_answers left left' old new verdict.WriteFault input read j end = checked_answers left input (λ judgement. ⊤) (GrewPart old new) read j
check_answers left left' old new (verdict.Refused why) input read j end = record { input = input; read = read; why = why; refused = j }
check_answers left left' old new verdict.ReadFault input read j end = tt
check_answers left left' old new verdict.OutOfMemory input read j end = tt
check_answers left left' old new verdict.Usage input read j end = absurd j
check_answers left left' old new (verdict.Fault strand number pc) input read j end = absurd j
check_answers left left' old new (verdict.Spent strand) input read j end = absurd j

-- ---- the command gen

gen_answers : (seed size : ℕ) (old new : Option (List ℕ)) (v : Verdict) → Guests seed size old new v → AnswersGen seed size old new (status_of_verdict v)
gen_answers seed size old new verdict.Good came = came
gen_answers seed size old new verdict.WriteFault came = came
gen_answers seed size old new verdict.OutOfMemory came = came
gen_answers seed size old new verdict.Usage came = absurd came
gen_answers seed size old new (verdict.Refused why) came = absurd came
gen_answers seed size old new (verdict.Fault strand number pc) came = absurd came
gen_answers seed size old new (verdict.Spent strand) came = absurd came
gen_answers seed size old new verdict.NotInOrder came = absurd came
gen_answers seed size old new verdict.ReadFault came = absurd came

-- ---- all commands

verdict_answers : (asked : Option Task) (left left' old new : Option (List ℕ)) (v : Verdict) → ServesTask asked left old new v
    → ((ReadsNothing asked → ⊥) → HasText (status_of_verdict v) → IsAtEnd left')
    → AnswersTask asked left left' old new (status_of_verdict v)
verdict_answers None left left' old new v serves end = ap status_of_verdict serves
verdict_answers (Some (task.Run run)) left left' old new v serves end =
    report_answers run.config (by_schedule run) (printed_of run.brief) left left' old new v serves.input serves.read serves.holds (end (λ bad. bad))
verdict_answers (Some task.Asm) left left' old new v serves end =
    text_answers asm_of left left' old new v serves.input serves.read serves.holds (end (λ bad. bad))
verdict_answers (Some task.Dis) left left' old new v serves end =
    text_answers dis_of left left' old new v serves.input serves.read serves.holds (end (λ bad. bad))
verdict_answers (Some task.Check) left left' old new v serves end =
    check_answers left left' old new v serves.input serves.read serves.holds (end (λ bad. bad))
verdict_answers (Some (task.Gen seed size)) left left' old new v serves end = gen_answers seed size old new v serves

pub task_answers : (asked asked' : Option Task) (left left' old new : Option (List ℕ)) (v : Verdict) (result : Status) → asked ≡ asked'
    → result ≡ status_of_verdict v → ServesTask asked left old new v
    → ((ReadsNothing asked → ⊥) → HasText (status_of_verdict v) → IsAtEnd left')
    → AnswersTask asked' left left' old new result
task_answers asked asked' left left' old new v result same is serves end =
    let P : Status → Type 0 = λ r. AnswersTask asked' left left' old new r in
    let Q : Option Task → Type 0 = λ t. AnswersTask t left left' old new (status_of_verdict v) in
    subst P (sym is) (subst Q same (verdict_answers asked left left' old new v serves end))

pub serves_asked : (asked asked' : Option Task) (left old new : Option (List ℕ)) (v : Verdict) → asked ≡ asked' → ServesTask asked left old new v
    → ServesTask asked' left old new v
serves_asked asked asked' left old new v same serves =
    let P : Option Task → Type 0 = λ t. ServesTask t left old new v in subst P same serves

-- the status is that of usage exactly where the verdict is
pub usage_back : (v : Verdict) → status_of_verdict v ≡ status.Usage → v ≡ verdict.Usage
usage_back verdict.Usage h = refl
usage_back verdict.Good h = cc
usage_back (verdict.Refused why) h = cc
usage_back (verdict.Fault strand number pc) h = cc
usage_back (verdict.Spent strand) h = cc
usage_back verdict.ReadFault h = cc
usage_back verdict.WriteFault h = cc
usage_back verdict.OutOfMemory h = cc
usage_back verdict.NotInOrder h = cc

pub usage_of : (asked asked' : Option Task) (v : Verdict) (result : Status) → asked ≡ asked' → result ≡ status_of_verdict v
    → ((v ≡ verdict.Usage) ↔ (asked ≡ None)) → ((result ≡ status.Usage) ↔ (asked' ≡ None))
usage_of asked asked' v result same is both =
    (λ h. sym same ∙ both.0 (usage_back v (sym is ∙ h)), λ h. is ∙ ap status_of_verdict (both.1 (same ∙ h)))
