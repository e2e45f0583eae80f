-- How strands ended, one after another, and what a verdict of it says.
use Rattle.std.proofs.Common.{◌≡◌, ◌∙◌, ℕ, suc, ◌+◌, ◌<◌, false, List, [], ◌∷◌, length, drop, get_or, Option, Some, None, Result, refl, ap, sym, subst, arith}
use Rattle.std.specs.Prelude.{OnOk, is_err, unwrap_or, ⊤}
use Rattle.std.proofs.Math.Seq.{drop-cons}
use Rattle.t1_io.specs.Held.{Grew, GrewPart}
use Rattle.t1_event.specs.declared.report.Report.{Report}
use Rattle.t1_event.specs.declared.trace.Trace.{Trace}
use Rattle.t1_event.specs.declared.trace.Ending.{Ending}
use Rattle.t1_event.specs.declared.trace.Ending.TheVariants as ending
use Rattle.t1_cli.specs.declared.refusal.Refusal.{Refusal}
use Rattle.t1_cli.specs.declared.verdict.Verdict.{Verdict}
use Rattle.t1_cli.specs.declared.verdict.Verdict.TheVariants as verdict
use Rattle.t1_cli.specs.Runs.{fault_of, spent_of, first_of, fault_from, spent_from, ended_of}
use Rattle.t1_cli.specs.Serial.{HasNoText}
use Rattle.t1_cli.specs.Statuses.{status_of_verdict}
use Rattle.t1_cli.specs.Verdict.{RanTo, EndedIn, Judged}
use Rattle.t1_cli.proofs.Judging.{went_well}

-- ---- one trace more

traces_next : (traces : List Trace) (strand : ℕ) (trace : Trace) → strand < length traces → trace ≡ get_or traces strand trace
    → drop strand traces ≡ trace ∷ drop (strand + 1) traces
traces_next traces strand trace less is =
    let next : suc strand ≡ strand + 1 = omega arith in
    drop-cons traces strand trace less ∙ ap (λ t. t ∷ drop (suc strand) traces) (sym is) ∙ ap (λ k. trace ∷ drop k traces) next

-- a strand of which nothing is told
pub fault_next : (traces : List Trace) (strand : ℕ) (trace : Trace) → strand < length traces → trace ≡ get_or traces strand trace
    → None ≡ fault_of strand trace.pc trace.ending → fault_from (strand + 1) (drop (strand + 1) traces) ≡ fault_from strand (drop strand traces)
unfolding fault_from
fault_next traces strand trace less is none =
    let next : strand + 1 ≡ suc strand = omega arith in
    ap (λ k. fault_from k (drop (strand + 1) traces)) next ∙ ap (λ o. first_of o (fault_from (suc strand) (drop (strand + 1) traces))) none
    ∙ ap (fault_from strand) (sym (traces_next traces strand trace less is))

pub spent_next : (traces : List Trace) (strand : ℕ) (trace : Trace) → strand < length traces → trace ≡ get_or traces strand trace
    → None ≡ spent_of strand trace.ending → spent_from (strand + 1) (drop (strand + 1) traces) ≡ spent_from strand (drop strand traces)
unfolding spent_from
spent_next traces strand trace less is none =
    let next : strand + 1 ≡ suc strand = omega arith in
    ap (λ k. spent_from k (drop (strand + 1) traces)) next ∙ ap (λ o. first_of o (spent_from (suc strand) (drop (strand + 1) traces))) none
    ∙ ap (spent_from strand) (sym (traces_next traces strand trace less is))

-- ---- verdicts on how strands ended

abbrev IsEnd : Verdict → Type 0
IsEnd verdict.Good = Unit {0}
IsEnd (verdict.Fault strand number pc) = Unit {0}
IsEnd (verdict.Spent strand) = Unit {0}
IsEnd _ = ⊥

abbrev IsEndIfAny : Option Verdict → Type 0
IsEndIfAny None = Unit {0}
IsEndIfAny (Some v) = IsEnd v

first_ends : (found later : Option Verdict) → IsEndIfAny found → IsEndIfAny later → IsEndIfAny (first_of found later)
first_ends (Some v) later is rest = is
first_ends None later is rest = rest

fault_ends : (strand pc : ℕ) (e : Option Ending) → IsEndIfAny (fault_of strand pc e)
fault_ends strand pc (Some (ending.Fault number)) = tt
fault_ends strand pc (Some ending.Halted) = tt
fault_ends strand pc (Some ending.Spent) = tt
fault_ends strand pc None = tt

faults_end : (strand : ℕ) (traces : List Trace) → IsEndIfAny (fault_from strand traces)
unfolding fault_from
faults_end strand [] = tt
faults_end strand (trace ∷ traces) =
    first_ends (fault_of strand trace.pc trace.ending) (fault_from (suc strand) traces) (fault_ends strand trace.pc trace.ending) (faults_end (suc strand) traces)

spent_ends : (strand : ℕ) (e : Option Ending) → IsEndIfAny (spent_of strand e)
spent_ends strand (Some ending.Spent) = tt
spent_ends strand (Some ending.Halted) = tt
spent_ends strand (Some (ending.Fault number)) = tt
spent_ends strand None = tt

spents_end : (strand : ℕ) (traces : List Trace) → IsEndIfAny (spent_from strand traces)
unfolding spent_from
spents_end strand [] = tt
spents_end strand (trace ∷ traces) =
    first_ends (spent_of strand trace.ending) (spent_from (suc strand) traces) (spent_ends strand trace.ending) (spents_end (suc strand) traces)

one_ends : (found : Option Verdict) (other : Verdict) → IsEndIfAny found → IsEnd other → IsEnd (unwrap_or found other)
one_ends None other found end = end
one_ends (Some v) other found end = found

is_end : (traces : List Trace) → IsEnd (ended_of traces)
unfolding ended_of
is_end traces =
    one_ends (fault_from 0 traces) (unwrap_or (spent_from 0 traces) verdict.Good) (faults_end 0 traces)
    (one_ends (spent_from 0 traces) verdict.Good (spents_end 0 traces) tt)

end_judged : (refuses : Refusal → Type 0) (reports : Report → Type 0) (text : Report → List ℕ) (old new : Option (List ℕ)) (v : Verdict) → IsEnd v
    → RanTo reports text (EndedIn v) (Grew old new) → Judged refuses reports text old new v
end_judged refuses reports text old new verdict.Good end ran = ran
end_judged refuses reports text old new (verdict.Fault strand number pc) end ran = ran
end_judged refuses reports text old new (verdict.Spent strand) end ran = ran
end_judged refuses reports text old new verdict.Usage end ran = absurd end
end_judged refuses reports text old new (verdict.Refused why) end ran = absurd end
end_judged refuses reports text old new verdict.ReadFault end ran = absurd end
end_judged refuses reports text old new verdict.WriteFault end ran = absurd end
end_judged refuses reports text old new verdict.OutOfMemory end ran = absurd end
end_judged refuses reports text old new verdict.NotInOrder end ran = absurd end

end_has_text : (v : Verdict) → IsEnd v → HasNoText (status_of_verdict v) → ⊥
end_has_text verdict.Good end none = none
end_has_text (verdict.Fault strand number pc) end none = none
end_has_text (verdict.Spent strand) end none = none
end_has_text verdict.Usage end none = end
end_has_text (verdict.Refused why) end none = end
end_has_text verdict.ReadFault end none = end
end_has_text verdict.WriteFault end none = end
end_has_text verdict.OutOfMemory end none = end
end_has_text verdict.NotInOrder end none = end

-- a verdict on how the strands of a report ended, whose text was written
pub record Ended (report : Report) (text : Report → List ℕ) (old new : Option (List ℕ)) (v : Verdict) : Type 0 where
  pub judged : Judged (λ why. ⊥) (λ r. r ≡ report) text old new v
  pub no_empty : HasNoText (status_of_verdict v) → ⊥
  pub no_write_fault : v ≡ verdict.WriteFault → ⊥
  pub no_read_fault : v ≡ verdict.ReadFault → ⊥

-- the text of a report was written, and the verdict is how its strands ended
pub ended_so : {T E : Type 0} (report : Report) (text : Report → List ℕ) (old new : Option (List ℕ)) (wrote : Result T E) (v : Verdict)
    → false ≡ is_err wrote → OnOk wrote (Grew old new (text report)) → v ≡ ended_of report.traces → Ended report text old new v
ended_so report text old new wrote v went ok is =
    let end : IsEnd v = subst (λ (w : Verdict). IsEnd w) (sym is) (is_end report.traces) in
    let P : Verdict → Type 0 = λ w. IsEnd w in
    let grew : Grew old new (text report) = went_well wrote (Grew old new (text report)) went ok in
    record {
      judged = end_judged (λ why. ⊥) (λ r. r ≡ report) text old new v end (record { report = report; is_report = refl; came = sym is; printed = grew });
      no_empty = end_has_text v end;
      no_write_fault = λ bad. subst P bad end;
      no_read_fault = λ bad. subst P bad end;
    }

-- ---- what is said of some reports is said of more

ran_more : (reports reports' : Report → Type 0) (text : Report → List ℕ) (ended : Report → Type 0) (grew : List ℕ → Type 0)
    → ((report : Report) → reports report → reports' report) → RanTo reports text ended grew → RanTo reports' text ended grew
ran_more reports reports' text ended grew more ran =
    record { report = ran.report; is_report = more ran.report ran.is_report; came = ran.came; printed = ran.printed }

pub judged_more : (refuses refuses' : Refusal → Type 0) (reports reports' : Report → Type 0) (text : Report → List ℕ) (old new : Option (List ℕ)) (v : Verdict)
    → ((why : Refusal) → refuses why → refuses' why) → ((report : Report) → reports report → reports' report)
    → Judged refuses reports text old new v → Judged refuses' reports' text old new v
judged_more refuses refuses' reports reports' text old new verdict.Good also more j = ran_more reports reports' text (EndedIn verdict.Good) (Grew old new) more j
judged_more refuses refuses' reports reports' text old new (verdict.Fault strand number pc) also more j =
    ran_more reports reports' text (EndedIn (verdict.Fault strand number pc)) (Grew old new) more j
judged_more refuses refuses' reports reports' text old new (verdict.Spent strand) also more j =
    ran_more reports reports' text (EndedIn (verdict.Spent strand)) (Grew old new) more j
judged_more refuses refuses' reports reports' text old new verdict.WriteFault also more j =
    ran_more reports reports' text (λ report. ⊤) (GrewPart old new) more j
judged_more refuses refuses' reports reports' text old new (verdict.Refused why) also more j = also why j
judged_more refuses refuses' reports reports' text old new verdict.ReadFault also more j = tt
judged_more refuses refuses' reports reports' text old new verdict.OutOfMemory also more j = tt
judged_more refuses refuses' reports reports' text old new verdict.Usage also more j = absurd j
judged_more refuses refuses' reports reports' text old new verdict.NotInOrder also more j = absurd j

-- the verdict on a report is one on the reports of which it is
pub judged_one : (reports : Report → Type 0) (report : Report) (text : Report → List ℕ) (old new : Option (List ℕ)) (v : Verdict) → reports report
    → Judged (λ why. ⊥) (λ r. r ≡ report) text old new v → Judged (λ why. ⊥) reports text old new v
judged_one reports report text old new v is j =
    judged_more (λ why. ⊥) (λ why. ⊥) (λ r. r ≡ report) reports text old new v (λ why no. no)
    (λ r same. let P : Report → Type 0 = λ q. reports q in subst P (sym same) is) j
