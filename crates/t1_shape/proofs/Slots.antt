-- Look-ups among the slots of a cache.
use Rattle.std.proofs.Common.{cond, is_none, ◌-◌, ◌/◌, ◌*◌, ◌≡◌, ℕ, zero, suc, ◌+◌, ◌%◌, ◌<◌, ◌≤◌, true, false, eqb, List, get_or, Option, Some, None, refl, ap, sym, ◌∙◌, subst, inl, inr, arith}
use Rattle.std.specs.Option.{option_eq, is_some}
use Rattle.std.proofs.lemmas.Nat.{div-add-mod', div-mul-add}
use Rattle.std.proofs.lemmas.Bool.{cases_eq, cases_Bool, cond-true, cond-false, eq-eqb, eqb-true}
use Rattle.t1_shape.specs.Slots.{Layout, set_of, first_slot, InSet, holds, scan, slot_of, empty_way, way_or, victim_of}

-- ---- a set's slots

-- a way of a line's set is one of its slots
pub way_in_set : (g : Layout) (line way : ℕ) → way < g.ways → InSet g line (first_slot g line + way)
way_in_set g line way l = record { above = omega arith; below = omega (arith, l) }

-- a slot's set and way name it
pub slot_split : (g : Layout) (k : ℕ) → g.ways * (k / g.ways) + k % g.ways ≡ k
slot_split g k = omega (arith, div-add-mod' k g.ways)

-- the set of a slot
pub set_of_slot : (g : Layout) (s j : ℕ) → g.ways * s ≤ j → j < g.ways * s + g.ways → j / g.ways ≡ s
set_of_slot g s j a b =
    let e : j ≡ s * g.ways + (j - g.ways * s) = omega arith in
    ap (λ (n : ℕ). n / g.ways) e ∙ div-mul-add s g.ways (j - g.ways * s) (omega arith)

-- ---- the slot of a line

pub holds-true : (o : Option ℕ) (line : ℕ) → holds o line ≡ true → o ≡ Some line
holds-true None line e = cc
holds-true (Some x) line e = ap (λ (n : ℕ). Some n) (eqb-true x line e)

pub holds-same : (o : Option ℕ) (line : ℕ) → o ≡ Some line → holds o line ≡ true
holds-same o line e = subst (λ (p : Option ℕ). holds p line ≡ true) (sym e) (eq-eqb line line refl)

-- what `==` against `Some(line)` tests
pub option_eq-holds : (o : Option ℕ) (line : ℕ) → option_eq eqb o (Some line) ≡ holds o line
option_eq-holds None line = refl
option_eq-holds (Some x) line = refl

-- slot j, one of n from k on, holds the line
pub record Found (tags : List (Option ℕ)) (line k n j : ℕ) : Type 0 where
  pub above : k ≤ j
  pub below : j < k + n
  pub is : get_or tags j None ≡ Some line

pub scan_some : (tags : List (Option ℕ)) (line k n j : ℕ) → scan tags line k n ≡ Some j → Found tags line k n j
scan_some tags line k zero j e = cc
scan_some tags line k (suc n) j e =
    elim (cases_Bool (holds (get_or tags k None) line)) [
      | inl t ↦
          let f : Some k ≡ Some j = sym (cond-true (holds (get_or tags k None) line) (Some k) (scan tags line (suc k) n) t) ∙ e in
          let same : k ≡ j = cc in
          record { above = omega arith; below = omega arith; is = subst (λ (i : ℕ). get_or tags i None ≡ Some line) same (holds-true (get_or tags k None) line t) }
      | inr t ↦
          let f : scan tags line (suc k) n ≡ Some j = sym (cond-false (holds (get_or tags k None) line) (Some k) (scan tags line (suc k) n) t) ∙ e in
          let r = scan_some tags line (suc k) n j f in
          record { above = omega (arith, r.above); below = omega (arith, r.below); is = r.is }
    ]

pub scan_none : (tags : List (Option ℕ)) (line k n j : ℕ) → scan tags line k n ≡ None → k ≤ j → j < k + n → get_or tags j None ≡ Some line → ⊥
scan_none tags line k zero j e above below is = omega arith
scan_none tags line k (suc n) j e above below is =
    elim (cases_Bool (holds (get_or tags k None) line)) [
      | inl t ↦
          let f : Some k ≡ None = sym (cond-true (holds (get_or tags k None) line) (Some k) (scan tags line (suc k) n) t) ∙ e in cc
      | inr t ↦
          let f : scan tags line (suc k) n ≡ None = sym (cond-false (holds (get_or tags k None) line) (Some k) (scan tags line (suc k) n) t) ∙ e in
          elim (cases_eq j k) [
            | inl same ↦
                let here : holds (get_or tags k None) line ≡ true = holds-same (get_or tags k None) line (subst (λ (i : ℕ). get_or tags i None ≡ Some line) same is) in cc
            | inr apart ↦ scan_none tags line (suc k) n j f (omega arith) (omega arith) is
          ]
    ]

pub slot_some : (g : Layout) (tags : List (Option ℕ)) (line j : ℕ) → slot_of g tags line ≡ Some j → Found tags line (first_slot g line) g.ways j
unfolding slot_of
slot_some g tags line j e = scan_some tags line (first_slot g line) g.ways j e

pub slot_none : (g : Layout) (tags : List (Option ℕ)) (line j : ℕ) → slot_of g tags line ≡ None → InSet g line j → get_or tags j None ≡ Some line → ⊥
unfolding slot_of
slot_none g tags line j e set is = scan_none tags line (first_slot g line) g.ways j e set.above set.below is

-- where no two slots hold one line, a slot that holds it is the slot of it
pub slot_only : (g : Layout) (tags : List (Option ℕ)) (line j : ℕ) → ((i k l : ℕ) → get_or tags i None ≡ Some l → get_or tags k None ≡ Some l → i ≡ k)
    → InSet g line j → get_or tags j None ≡ Some line → slot_of g tags line ≡ Some j
slot_only g tags line j once set is = go (slot_of g tags line) refl
  where
    go : (o : Option ℕ) → slot_of g tags line ≡ o → slot_of g tags line ≡ Some j
    go None e = absurd (slot_none g tags line j e set is)
    go (Some i) e = e ∙ ap (λ (n : ℕ). Some n) (once i j line (slot_some g tags line i e).is is)

pub slot_is_scan : (g : Layout) (tags : List (Option ℕ)) (line : ℕ) → slot_of g tags line ≡ scan tags line (first_slot g line) g.ways
unfolding slot_of
slot_is_scan g tags line = refl

-- one slot of the scan
pub scan_here : (tags : List (Option ℕ)) (line k n : ℕ) → 0 < n → get_or tags k None ≡ Some line → scan tags line k n ≡ Some k
scan_here tags line k zero l e = absurd (omega (arith, l))
scan_here tags line k (suc m) l e = cond-true (holds (get_or tags k None) line) (Some k) (scan tags line (suc k) m) (holds-same (get_or tags k None) line e)

pub scan_next : (tags : List (Option ℕ)) (line k n m : ℕ) → n ≡ suc m → (get_or tags k None ≡ Some line → ⊥) → scan tags line k n ≡ scan tags line (suc k) m
scan_next tags line k n m e ne =
    let off : holds (get_or tags k None) line ≡ false = elim (cases_Bool (holds (get_or tags k None) line)) [
      | inl t ↦ absurd (ne (holds-true (get_or tags k None) line t))
      | inr f ↦ f
    ] in
    ap (λ (i : ℕ). scan tags line k i) e ∙ cond-false (holds (get_or tags k None) line) (Some k) (scan tags line (suc k) m) off

-- ---- an empty slot

-- this way, one of n from a way on, has an empty slot
pub record Empty {A : Type 0} (slots : List (Option A)) (first way n found : ℕ) : Type 0 where
  pub above : way ≤ found
  pub below : found < way + n
  pub is : get_or slots (first + found) None ≡ None

empty_cases : {A : Type 0} (slots : List (Option A)) (first way n found : ℕ) → (empty_way slots first (suc way) n ≡ Some found → Empty slots first (suc way) n found)
    → (o : Option A) → get_or slots (first + way) None ≡ o → cond (is_none o) (Some way) (empty_way slots first (suc way) n) ≡ Some found → Empty slots first way (suc n) found
empty_cases slots first way n found more None f e =
    let same : way ≡ found = cc in
    record { above = omega arith; below = omega arith; is = subst (λ (i : ℕ). get_or slots (first + i) None ≡ None) same f }
empty_cases slots first way n found more (Some x) f e = let r = more e in record { above = omega (arith, r.above); below = omega (arith, r.below); is = r.is }

pub empty_some : {A : Type 0} (slots : List (Option A)) (first way n found : ℕ) → empty_way slots first way n ≡ Some found → Empty slots first way n found
empty_some slots first way zero found e = cc
empty_some slots first way (suc n) found e =
    empty_cases slots first way n found (λ f. empty_some slots first (suc way) n found f) (get_or slots (first + way) None) refl e

empty_by : {A : Type 0} (slots : List (Option A)) (first way n m : ℕ) → n ≡ suc m → (o : Option A) → get_or slots (first + way) None ≡ o
    → empty_way slots first way n ≡ cond (is_none o) (Some way) (empty_way slots first (suc way) m)
empty_by slots first way n m e o f =
    ap (λ (i : ℕ). empty_way slots first way i) e ∙ ap (λ o. cond (is_none o) (Some way) (empty_way slots first (suc way) m)) f

-- an empty slot ends the search, a full one does not
pub empty_stop : {A : Type 0} (slots : List (Option A)) (first way n m : ℕ) → n ≡ suc m → (o : Option A) → get_or slots (first + way) None ≡ o → is_some o ≡ false
    → empty_way slots first way n ≡ Some way
empty_stop slots first way n m e None f t = empty_by slots first way n m e None f
empty_stop slots first way n m e (Some x) f t = cc

pub empty_full : {A : Type 0} (slots : List (Option A)) (first way n m : ℕ) → n ≡ suc m → (o : Option A) → get_or slots (first + way) None ≡ o → is_some o ≡ true
    → empty_way slots first way n ≡ empty_way slots first (suc way) m
empty_full slots first way n m e None f t = cc
empty_full slots first way n m e (Some x) f t = empty_by slots first way n m e (Some x) f

-- ---- the way of a fill

pub victim_is : {A : Type 0} (g : Layout) (slots : List (Option A)) (pointers : List ℕ) (line : ℕ)
    → victim_of g slots pointers line ≡ way_or (empty_way slots (first_slot g line) 0 g.ways) (get_or pointers (set_of g line) 0)
unfolding victim_of
victim_is g slots pointers line = refl

-- it is a way of the cache
pub victim_below : {A : Type 0} (g : Layout) (slots : List (Option A)) (pointers : List ℕ) (line : ℕ) → get_or pointers (set_of g line) 0 < g.ways
    → victim_of g slots pointers line < g.ways
unfolding victim_of
victim_below g slots pointers line low = go (empty_way slots (first_slot g line) 0 g.ways) refl
  where
    go : (o : Option ℕ) → empty_way slots (first_slot g line) 0 g.ways ≡ o → way_or o (get_or pointers (set_of g line) 0) < g.ways
    go None e = low
    go (Some way) e = let r = empty_some slots (first_slot g line) 0 g.ways way e in omega (arith, r.below)
