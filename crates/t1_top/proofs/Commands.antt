-- What is said of live, and what is said of the commands of one thread, is said of the command that the words ask for.
use Rattle.std.proofs.Common.{◌≡◌, ◌↔◌, ℕ, List, Option, Some, None, refl, sym, ◌∙◌, subst}
use Rattle.std.specs.Io.KnownBytes.{IsAtEnd}
use Rattle.t1_event.specs.declared.report.Config.{Config}
use Rattle.t1_log.specs.Log.{text_of}
use Rattle.t1_cli.specs.declared.command.Command.{Command}
use Rattle.t1_cli.specs.declared.command.Command.TheVariants as command
use Rattle.t1_cli.specs.declared.status.Status.{Status}
use Rattle.t1_cli.specs.declared.status.Status.TheVariants as status
use Rattle.t1_cli.specs.declared.verdict.Verdict.{Verdict}
use Rattle.t1_cli.specs.declared.verdict.Verdict.TheVariants as verdict
use Rattle.t1_cli.specs.Serial.{HasText, AnswersTask, ReadsNothing, TellsLine}
use Rattle.t1_cli.specs.Statuses.{status_of_verdict}
use Rattle.t1_cli.specs.Verdict.{OfInput, JudgedInput, ServesTask, Tells, verdict_line_of}
use Rattle.t1_cli.specs.Words.{served}
use Rattle.t1_cli.proofs.Verdicts.{report_answers, usage_back}
use Rattle.t1_top.specs.Live.{IsLiveReportOf}
use Rattle.t1_top.specs.Top.{live_of, AnswersCommand, ReadsNoInput, ServesCommand}

-- ---- the command live

pub is_live : (asked : Option Command) (config : Config) → live_of asked ≡ Some config → asked ≡ Some (command.Live config)
is_live (Some (command.Live c)) config h = cc
is_live None config h = let no : ⊥ = cc in absurd no
is_live (Some (command.Run c seed brief)) config h = let no : ⊥ = cc in absurd no
is_live (Some command.Asm) config h = let no : ⊥ = cc in absurd no
is_live (Some command.Dis) config h = let no : ⊥ = cc in absurd no
is_live (Some command.Check) config h = let no : ⊥ = cc in absurd no
is_live (Some (command.Gen seed size)) config h = let no : ⊥ = cc in absurd no

pub live_answers : (asked : Option Command) (config : Config) (left left' old new : Option (List ℕ)) (v : Verdict) (result : Status)
    → live_of asked ≡ Some config → result ≡ status_of_verdict v → OfInput left (λ input. JudgedInput config IsLiveReportOf text_of input old new v)
    → (HasText (status_of_verdict v) → IsAtEnd left') → AnswersCommand asked left left' old new result
live_answers asked config left left' old new v result live is serves end =
    let Of : Option Command → Type 0 = λ a. AnswersCommand a left left' old new result in
    let By : Status → Type 0 = λ r. AnswersCommand (Some (command.Live config)) left left' old new r in
    subst Of (sym (is_live asked config live))
    (subst By (sym is) (report_answers config IsLiveReportOf text_of left left' old new v serves.input serves.read serves.holds end))

pub live_usage : (asked : Option Command) (config : Config) (v : Verdict) (result : Status) → live_of asked ≡ Some config → result ≡ status_of_verdict v
    → (v ≡ verdict.Usage → ⊥) → ((result ≡ status.Usage) ↔ (asked ≡ None))
live_usage asked config v result live is other =
    (λ h. absurd (other (usage_back v (sym is ∙ h))), λ h. let some = is_live asked config live in let no : ⊥ = cc in absurd no)

pub live_reads : (asked : Option Command) (config : Config) → live_of asked ≡ Some config → ReadsNoInput asked → ⊥
live_reads asked config live none =
    let P : Option Command → Type 0 = λ a. ReadsNoInput a in subst P (is_live asked config live) none

pub live_tells : (asked : Option Command) (config : Config) (left old new : Option (List ℕ)) (faults faults' : ℕ) (err err' : Option (List ℕ)) (v : Verdict)
    (result : Status) → live_of asked ≡ Some config → result ≡ status_of_verdict v → OfInput left (λ input. JudgedInput config IsLiveReportOf text_of input old new v)
    → TellsLine faults faults' err err' (verdict_line_of v) → Tells (ServesCommand asked left old new) faults faults' err err' result
live_tells asked config left old new faults faults' err err' v result live is serves told =
    let Of : Option Command → Type 0 = λ a. ServesCommand a left old new v in
    record { verdict = v; status_is = sym is; serves = subst Of (sym (is_live asked config live)) serves; told = told }

-- ---- the commands of one thread

pub serial_usage : (asked : Option Command) (result : Status) → None ≡ live_of asked → ((result ≡ status.Usage) ↔ (served asked ≡ None))
    → ((result ≡ status.Usage) ↔ (asked ≡ None))
serial_usage None result none both = (λ h. refl, λ h. both.1 refl)
serial_usage (Some (command.Live config)) result none both = let no : ⊥ = cc in absurd no
serial_usage (Some (command.Run config seed brief)) result none both = (λ h. let e = both.0 h in let no : ⊥ = cc in absurd no, λ h. let no : ⊥ = cc in absurd no)
serial_usage (Some command.Asm) result none both = (λ h. let e = both.0 h in let no : ⊥ = cc in absurd no, λ h. let no : ⊥ = cc in absurd no)
serial_usage (Some command.Dis) result none both = (λ h. let e = both.0 h in let no : ⊥ = cc in absurd no, λ h. let no : ⊥ = cc in absurd no)
serial_usage (Some command.Check) result none both = (λ h. let e = both.0 h in let no : ⊥ = cc in absurd no, λ h. let no : ⊥ = cc in absurd no)
serial_usage (Some (command.Gen seed size)) result none both = (λ h. let e = both.0 h in let no : ⊥ = cc in absurd no, λ h. let no : ⊥ = cc in absurd no)

pub serial_answers : (asked : Option Command) (left left' old new : Option (List ℕ)) (result : Status) → None ≡ live_of asked
    → AnswersTask (served asked) left left' old new result → AnswersCommand asked left left' old new result
serial_answers None left left' old new result none answers = answers
serial_answers (Some (command.Live config)) left left' old new result none answers = let no : ⊥ = cc in absurd no
serial_answers (Some (command.Run config seed brief)) left left' old new result none answers = answers
serial_answers (Some command.Asm) left left' old new result none answers = answers
serial_answers (Some command.Dis) left left' old new result none answers = answers
serial_answers (Some command.Check) left left' old new result none answers = answers
serial_answers (Some (command.Gen seed size)) left left' old new result none answers = answers

pub serial_reads : (asked : Option Command) → None ≡ live_of asked → ReadsNoInput asked → ReadsNothing (served asked)
serial_reads None none reads = tt
serial_reads (Some (command.Live config)) none reads = absurd reads
serial_reads (Some (command.Run config seed brief)) none reads = absurd reads
serial_reads (Some command.Asm) none reads = absurd reads
serial_reads (Some command.Dis) none reads = absurd reads
serial_reads (Some command.Check) none reads = absurd reads
serial_reads (Some (command.Gen seed size)) none reads = tt

serial_serves : (asked : Option Command) (left old new : Option (List ℕ)) (v : Verdict) → None ≡ live_of asked
    → ServesTask (served asked) left old new v → ServesCommand asked left old new v
serial_serves None left old new v none serves = serves
serial_serves (Some (command.Live config)) left old new v none serves = let no : ⊥ = cc in absurd no
serial_serves (Some (command.Run config seed brief)) left old new v none serves = serves
serial_serves (Some command.Asm) left old new v none serves = serves
serial_serves (Some command.Dis) left old new v none serves = serves
serial_serves (Some command.Check) left old new v none serves = serves
serial_serves (Some (command.Gen seed size)) left old new v none serves = serves

pub serial_tells : (asked : Option Command) (left old new : Option (List ℕ)) (faults faults' : ℕ) (err err' : Option (List ℕ)) (result : Status)
    → None ≡ live_of asked → Tells (ServesTask (served asked) left old new) faults faults' err err' result
    → Tells (ServesCommand asked left old new) faults faults' err err' result
serial_tells asked left old new faults faults' err err' result none tells = record {
  verdict = tells.verdict;
  status_is = tells.status_is;
  serves = serial_serves asked left old new tells.verdict none tells.serves;
  told = tells.told;
}
