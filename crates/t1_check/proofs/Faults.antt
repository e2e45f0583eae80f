-- What is found by positions is what the verdict says, and a fault is a failure of its axiom.
use Rattle.std.proofs.Common.{◌≡◌, ℕ, List, length, Option, Some, None, Result, Ok, Err, refl, inl, inr, arith}
use Rattle.std.specs.Option.{MatchOption}
use Rattle.std.specs.Result.{IfOk, MatchResult}
use Rattle.t1_event.specs.declared.item.Item.{Item}
use Rattle.t1_event.specs.declared.report.Place.{Place}
use Rattle.t1_event.specs.Order.{IsListing, Value, ObeysTso}
use Rattle.t1_check.specs.declared.rules.Rule.{Rule}
use Rattle.t1_check.specs.declared.rules.Rule.TheVariants as rule
use Rattle.t1_check.specs.declared.verdict.Axiom.{Axiom}
use Rattle.t1_check.specs.declared.verdict.Axiom.TheVariants as law
use Rattle.t1_check.specs.declared.verdict.Verdict.{Verdict}
use Rattle.t1_check.specs.declared.verdict.Verdict.TheVariants.{Holds, Broken}
use Rattle.t1_check.specs.Places.{IsUnlisted}
use Rattle.t1_check.specs.Positions.{IsTold}
use Rattle.t1_check.specs.Rules.{AreObeyed, IsFaultAt}
use Rattle.t1_check.specs.Wrong.{AreRight, IsWrongLine}
use Rattle.t1_check.specs.Verdicts.{RuleHolds, IsFirstCrossed, IsFirstWrong, IsBroken, Judges, HoldsExactly}
use Rattle.t1_check.proofs.Standing.{listing, rule_holds, first_crossed}
use Rattle.t1_check.proofs.Reading.{value_holds, first_wrong}

pub listed_means : {E A : Type 0} (traces : List (List Item)) (order : List Place) (table : A → List (List ℕ)) (x : Result (Result A Place) E)
    → IfOk x (λ r. MatchResult r (λ t. IsTold traces order (table t)) (λ p. IsUnlisted traces order p))
    → IfOk x (λ r. MatchResult r (λ t. IsTold traces order (table t) × IsListing traces order) (λ p. IsUnlisted traces order p))
listed_means traces order table (Err e) h = tt
listed_means traces order table (Ok (Err p)) h = h
listed_means traces order table (Ok (Ok a)) h = (h, listing traces order (table a) h)

pub rule_means : {E : Type 0} (traces : List (List Item)) (order : List Place) (table : List (List ℕ)) (t : IsTold traces order table) (r : Rule) (x : Result (Option (Place × Place)) E)
    → IfOk x (λ o. MatchOption o (AreObeyed r traces table (length traces)) (λ f. IsFaultAt r traces table f.0 f.1))
    → IfOk x (λ o. MatchOption o (RuleHolds r traces order) (λ f. IsFirstCrossed r traces order f.0 f.1))
rule_means traces order table t r (Err e) h = tt
rule_means traces order table t r (Ok None) h = rule_holds traces order table t r h
rule_means traces order table t r (Ok (Some f)) h = first_crossed traces order table t r f.0 f.1 h

pub value_means : {E : Type 0} (image : List ℕ) (traces : List (List Item)) (order : List Place) (table : List (List ℕ)) (t : IsTold traces order table) (x : Result (Option (Place × Option Place)) E)
    → IfOk x (λ o. MatchOption o (AreRight image traces order table (length order)) (λ f. IsWrongLine image traces order table f.0 f.1))
    → IfOk x (λ o. MatchOption o (Value image traces order) (λ f. IsFirstWrong image traces order f.0 f.1))
value_means image traces order table t (Err e) h = tt
value_means image traces order table t (Ok None) h = value_holds image traces order table t h
value_means image traces order table t (Ok (Some f)) h = first_wrong image traces order table t f.0 f.1 h

-- ---- faults are failures

unlisted_fails : (traces : List (List Item)) (order : List Place) (p : Place) → IsUnlisted traces order p → IsListing traces order → ⊥
unlisted_fails traces order p (inl f) l =
    elim f.bad.bad [
      | inl n ↦ n (l.only f.line f.bad.place f.bad.is)
      | inr j ↦ let e = l.once j.0 f.line f.bad.place j.2 f.bad.is in omega (arith, e, j.1)
    ]
unlisted_fails traces order p (inr q) l = let at = l.all q.1.act q.1.missing.access in q.1.missing.nowhere at.0 at.1

crossed_fails : (r : Rule) (traces : List (List Item)) (order : List Place) (p q : Place) → IsFirstCrossed r traces order p q → RuleHolds r traces order → ⊥
crossed_fails rule.LoadOp traces order p q f h = f.crossed.3 (h f.x f.y f.crossed.0 f.crossed.1 f.crossed.2)
crossed_fails rule.StoreStore traces order p q f h = f.crossed.3 (h f.x f.y f.crossed.0 f.crossed.1 f.crossed.2)
crossed_fails rule.Barrier traces order p q f h =
    let w = f.crossed.3 in
    w.3 (h w.0 f.x f.y w.1 f.crossed.0 w.2 f.crossed.1 f.crossed.2)

wrong_fails : (image : List ℕ) (traces : List (List Item)) (order : List Place) (p : Place) (q : Option Place) → IsFirstWrong image traces order p q → Value image traces order → ⊥
wrong_fails image traces order p q f v =
    elim f.wrong [
      | inl w ↦ w.wrong (v.memory f.read w.addr f.reads w.within w.covers)
      | inr w ↦ w.wrong (v.io f.read f.reads w.io)
    ]

broken_fails : (image : List ℕ) (traces : List (List Item)) (order : List Place) (which : Axiom) (first : Place) (second : Option Place)
    → IsBroken which image traces order first second → IsListing traces order → ObeysTso image traces order → ⊥
broken_fails image traces order law.Listing first second b l t = unlisted_fails traces order first b.0 l
broken_fails image traces order law.LoadOp first None b l t = absurd b.1
broken_fails image traces order law.LoadOp first (Some second) b l t = crossed_fails rule.LoadOp traces order first second b.1 t.load_op
broken_fails image traces order law.StoreStore first None b l t = absurd b.2
broken_fails image traces order law.StoreStore first (Some second) b l t = crossed_fails rule.StoreStore traces order first second b.2 t.store_store
broken_fails image traces order law.Value first second b l t = wrong_fails image traces order first second b.3 t.value
broken_fails image traces order law.Barrier first None b l t = absurd b.4
broken_fails image traces order law.Barrier first (Some second) b l t = crossed_fails rule.Barrier traces order first second b.4 t.barrier

pub exactly : {E : Type 0} (image : List ℕ) (traces : List (List Item)) (order : List Place) (x : Result Verdict E)
    → IfOk x (λ v. Judges v image traces order) → IfOk x (λ v. HoldsExactly v image traces order)
exactly image traces order (Err e) h = tt
exactly image traces order (Ok Holds) h = (λ _. h, λ _ _. refl)
exactly image traces order (Ok (Broken which first second)) h =
    (λ e. (let bad : ◌≡◌ {A = Verdict} (Broken which first second) Holds = e in absurd cc), λ l t. absurd (broken_fails image traces order which first second h l t))
