-- Rows of tables, and written cells.
use Rattle.std.proofs.Common.{◌≡◌, ℕ, zero, suc, ◌<◌, ◌≤◌, List, [], ◌∷◌, ◌++◌, length, get_or, set, replicate, refl, sym, ap, ◌∙◌, inl, inr, ◌⊎◌, arith}
use Rattle.std.proofs.lemmas.Bool.{cases_eq}
use Rattle.std.proofs.lemmas.List.{get_or-set_same, get_or-set_other, length-set, get_or_past, get_or-map, length-map}
use Rattle.t1_event.specs.declared.trace.Trace.{Trace}
use Rattle.t1_event.specs.Items.{items_of}
use Rattle.t1_check.specs.Table.{cell}

-- a cell of a table in which one was written
pub cell_set : (t : List (List ℕ)) (s i v a b : ℕ) → s < length t → i < length (get_or t s [])
    → ((a ≡ s) × (b ≡ i) × (cell (set t s (set (get_or t s []) i v)) a b ≡ v))
    ⊎ (((a ≡ s) × (b ≡ i) → ⊥) × (cell (set t s (set (get_or t s []) i v)) a b ≡ cell t a b))
cell_set t s i v a b hs hi =
    elim (cases_eq a s) [
      | inl e ↦
          let row : get_or (set t s (set (get_or t s []) i v)) a [] ≡ set (get_or t s []) i v = rw e (get_or-set_same t s (set (get_or t s []) i v) [] hs) in
          elim (cases_eq b i) [
            | inl f ↦ inl (e, f, ap (λ (r : List ℕ). get_or r b 0) row ∙ rw f (get_or-set_same (get_or t s []) i v 0 hi))
            | inr f ↦ inr (λ p. f p.1, ap (λ (r : List ℕ). get_or r b 0) row ∙ (get_or-set_other (get_or t s []) i b v 0 f ∙ ap (λ (n : ℕ). get_or (get_or t n []) b 0) (sym e)))
          ]
      | inr e ↦ inr (λ p. e p.0, ap (λ (r : List ℕ). get_or r b 0) (get_or-set_other t s a (set (get_or t s []) i v) [] e))
    ]

pub row_length : (t : List (List ℕ)) (s i v a : ℕ) → s < length t → length (get_or (set t s (set (get_or t s []) i v)) a []) ≡ length (get_or t a [])
row_length t s i v a hs =
    elim (cases_eq a s) [
      | inl e ↦ rw (e, get_or-set_same t s (set (get_or t s []) i v) [] hs) (length-set (get_or t s []) i v)
      | inr e ↦ ap length (get_or-set_other t s a (set (get_or t s []) i v) [] e)
    ]

-- a row of a table to which one was appended
pub row_kept : {A : Type 0} (t : List (List A)) (r : List A) (s : ℕ) → s < length t → get_or (t ++ r ∷ []) s [] ≡ get_or t s []
row_kept [] r s h = absurd (omega (arith, h))
row_kept (x ∷ t) r zero h = refl
row_kept (x ∷ t) r (suc s) h = row_kept t r s (omega (arith, h))

pub row_new : {A : Type 0} (t : List (List A)) (r : List A) (s : ℕ) → s ≡ length t → get_or (t ++ r ∷ []) s [] ≡ r
row_new [] r zero h = refl
row_new [] r (suc s) h = absurd (omega (arith, h))
row_new (x ∷ t) r zero h = absurd (omega (arith, h))
row_new (x ∷ t) r (suc s) h = row_new t r s (omega (arith, h))

pub zeros_at : (n i : ℕ) → get_or {A = ℕ} (replicate n 0) i 0 ≡ 0
zeros_at zero i = refl
zeros_at (suc n) zero = refl
zeros_at (suc n) (suc i) = zeros_at n i

pub zeros_length : (n : ℕ) → length {A = ℕ} (replicate n 0) ≡ n
zeros_length zero = refl
zeros_length (suc n) = ap (λ (k : ℕ). suc k) (zeros_length n)

-- the items of a strand that there is
pub strand_items : (traces : List Trace) (s : ℕ) (d : Trace) → s < length traces → get_or (items_of traces) s [] ≡ (get_or traces s d).items
strand_items traces s d h = get_or-map (λ (t : Trace). t.items) traces s d [] h

-- and of one that there is not
pub no_items : (traces : List Trace) (s : ℕ) → length traces ≤ s → get_or (items_of traces) s [] ≡ []
no_items traces s h = get_or_past (items_of traces) s [] (let l : length (items_of traces) ≡ length traces = length-map traces (λ (t : Trace). t.items) in omega (arith, l, h))
