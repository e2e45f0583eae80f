-- The start of the merge: of each strand the first access that hit or was forwarded.
use Rattle.std.proofs.Common.{◌≡◌, ℕ, ◌+◌, ◌<◌, ◌≤◌, List, [], length, get_or, set, replicate, Option, None, sym, ap, ◌∙◌, subst, inl, inr, arith}
use Rattle.std.proofs.lemmas.Bool.{cases_lt}
use Rattle.std.proofs.lemmas.Option.{none-some}
use Rattle.std.proofs.lemmas.List.{get_or_past, get_or-set_same, get_or-set_other, get_or-replicate, length-replicate, length-set}
use Rattle.t1_event.specs.declared.item.Item.{Item}
use Rattle.t1_event.specs.declared.item.How.{How}
use Rattle.t1_event.specs.declared.item.How.TheVariants.{Unplaced, Forward, Hit, Commit}
use Rattle.t1_event.specs.Times.{IsPlaced}
use Rattle.t1_order.specs.declared.merge.Rest.{Rest}
use Rattle.t1_order.specs.Next.{IsNext, NoneBetween}
use Rattle.t1_order.specs.Merge.{IsListedAt, IsRest, IsNoneListed}
use Rattle.t1_order.proofs.Steps.{placing, same_or_not}

-- the strands below a number have their first, and the others nothing
pub record IsStarted (traces : List (List Item)) (count : ℕ) (numbers : List ℕ) (times : List (Option ℕ)) : Type 0 where
  pub strands : (length numbers ≡ 64) × (length times ≡ 64)
  pub next : (strand : ℕ) → strand < count → IsNext (get_or traces strand []) (get_or numbers strand 0) (get_or times strand None)
  pub first : (strand : ℕ) → strand < count → NoneBetween (get_or traces strand []) 0 (get_or numbers strand 0)
  pub later : (strand : ℕ) → count ≤ strand → (get_or numbers strand 0 ≡ 0) × (get_or times strand None ≡ None)

all_same : {A : Type 0} (count strand : ℕ) (x : A) → get_or (replicate count x) strand x ≡ x
all_same count strand x =
    elim (cases_lt strand count) [
      | inl within ↦ get_or-replicate count strand x x within
      | inr past ↦ get_or_past (replicate count x) strand x (let e = length-replicate count x in omega (arith, e))
    ]

pub none_started : (traces : List (List Item)) (count : ℕ) (times : List (Option ℕ)) → count ≡ 64 → times ≡ replicate count None
    → IsStarted traces 0 (replicate count 0) times
none_started traces count times e none = record {
  strands = (length-replicate count 0 ∙ e, ap length none ∙ length-replicate count None ∙ e);
  next = λ strand low. absurd (omega (arith, low));
  first = λ strand low. absurd (omega (arith, low));
  later = λ strand high. (all_same count strand 0, ap (λ ts. get_or ts strand None) none ∙ all_same count strand None);
}

pub one_strand : (traces : List (List Item)) (count : ℕ) (numbers : List ℕ) (times : List (Option ℕ)) (items : List Item) (number : ℕ) (time : Option ℕ)
    → IsStarted traces count numbers times → count < 64 → items ≡ get_or traces count [] → IsNext items number time → NoneBetween items 0 number
    → IsStarted traces (count + 1) (set numbers count number) (set times count time)
one_strand traces count numbers times items number time s small e next first = record {
  strands = (length-set numbers count number ∙ s.strands.0, length-set times count time ∙ s.strands.1);
  next = λ strand low. elim (same_or_not strand count) [
    | inr differs ↦
        rw (get_or-set_other numbers count strand number 0 differs, get_or-set_other times count strand time None differs) (s.next strand (omega (arith, low, differs)))
    | inl same ↦
        subst (λ n. IsNext (get_or traces n []) (get_or (set numbers count number) n 0) (get_or (set times count time) n None)) (sym same)
        (rw (get_or-set_same numbers count number 0 within, get_or-set_same times count time None within') (subst (λ xs. IsNext xs number time) e next))
  ];
  first = λ strand low. elim (same_or_not strand count) [
    | inr differs ↦
        subst (λ n. NoneBetween (get_or traces strand []) 0 n) (sym (get_or-set_other numbers count strand number 0 differs)) (s.first strand (omega (arith, low, differs)))
    | inl same ↦
        subst (λ n. NoneBetween (get_or traces n []) 0 (get_or (set numbers count number) n 0)) (sym same)
        (subst (λ n. NoneBetween (get_or traces count []) 0 n) (sym (get_or-set_same numbers count number 0 within)) (subst (λ xs. NoneBetween xs 0 number) e first))
  ];
  later = λ strand high.
      let old = s.later strand (omega (arith, high)) in (
        get_or-set_other numbers count strand number 0 (omega (arith, high)) ∙ old.0,
        get_or-set_other times count strand time None (omega (arith, high)) ∙ old.1,
      );
}
  where
    within : count < length numbers
    within = omega (arith, small, s.strands.0)

    within' : count < length times
    within' = omega (arith, small, s.strands.1)

-- once all strands have their first
pub all_started : (traces : List (List Item)) (numbers : List ℕ) (times : List (Option ℕ)) (rest : Rest) → rest.numbers ≡ numbers → rest.times ≡ times
    → IsStarted traces (length traces) numbers times → IsRest traces rest
all_started traces numbers times rest d e s = record {
  strands = (ap length d ∙ s.strands.0, ap length e ∙ s.strands.1);
  next = λ strand. subst (λ n. IsNext (get_or traces strand []) n (get_or rest.times strand None)) (sym (ap (λ ns. get_or ns strand 0) d))
      (subst (λ t. IsNext (get_or traces strand []) (get_or numbers strand 0) t) (sym (ap (λ ts. get_or ts strand None) e)) (by strand));
}
  where
    by : (strand : ℕ) → IsNext (get_or traces strand []) (get_or numbers strand 0) (get_or times strand None)
    by strand =
        elim (cases_lt strand (length traces)) [
          | inl within ↦ s.next strand within
          | inr past ↦
              subst (λ t. IsNext (get_or traces strand []) (get_or numbers strand 0) t) (sym (s.later strand past).1)
              (let none = ap length (get_or_past traces strand [] past) in omega (arith, none))
        ]

placed_if_listed : (rest : Rest) (strand number : ℕ) (how : How) → IsListedAt rest strand number how → IsPlaced how
placed_if_listed rest strand number Unplaced l = absurd l
placed_if_listed rest strand number (Forward time) l = tt
placed_if_listed rest strand number (Hit time) l = tt
placed_if_listed rest strand number (Commit index seen) l = tt

pub none_listed : (traces : List (List Item)) (numbers : List ℕ) (times : List (Option ℕ)) (rest : Rest) → rest.numbers ≡ numbers → rest.commits ≡ 0
    → IsStarted traces (length traces) numbers times → IsNoneListed traces rest
none_listed traces numbers times rest d none s = λ x access listed.
    elim (placing x access (placed_if_listed rest x.strand x.number x.item.how listed)) [
      | inr p ↦ let low = p.1.to rest listed in absurd (omega (arith, low, none))
      | inl p ↦
          let low = p.1.to rest listed in
          let n : get_or rest.numbers x.strand 0 ≡ get_or numbers x.strand 0 = ap (λ ns. get_or ns x.strand 0) d in
          elim (cases_lt x.strand (length traces)) [
            | inl within ↦
                let timeless = s.first x.strand within x.number x.item (omega arith) (omega (arith, low, n)) x.stands in
                absurd (none-some p.0 (sym timeless ∙ p.1.timed))
            | inr past ↦ let zero_is = (s.later x.strand past).0 in absurd (omega (arith, low, n, zero_is))
          ]
    ]
