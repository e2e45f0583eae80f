-- Line feeds of a text.
use Rattle.std.proofs.Common.{◌≡◌, ℕ, ◌+◌, ◌<◌, ◌≤◌, min, eqb, List, [], ◌∷◌, ◌++◌, length, take, drop, get_or, refl, sym, ap, ◌∙◌, inl, inr, arith}
use Rattle.std.proofs.lemmas.Bool.{cases_Bool, cases_lt, eqb-true, eq-eqb}
use Rattle.std.proofs.lemmas.List.{take_more, take_all, drop_all}
use Rattle.t1_read.specs.Faults.{feeds}

feeds_last : (xs : List ℕ) (byte : ℕ) → feeds (xs ++ byte ∷ []) ≡ feeds (byte ∷ []) + feeds xs
feeds_last [] byte = omega arith
feeds_last (x ∷ xs) byte =
    elim (cases_Bool (eqb x 10)) [
      | inl e ↦ rw e (let n = feeds_last xs byte in omega (arith, n))
      | inr e ↦ rw e (feeds_last xs byte)
    ]

pub feeds_few : (xs : List ℕ) → feeds xs ≤ length xs
feeds_few [] = omega arith
feeds_few (x ∷ xs) =
    elim (cases_Bool (eqb x 10)) [
      | inl e ↦ rw e (let n = feeds_few xs in omega (arith, n))
      | inr e ↦ rw e (let n = feeds_few xs in omega (arith, n))
    ]

-- one byte more
pub feeds_more : (text : List ℕ) (at : ℕ) → at < length text → feeds (take (at + 1) text) ≡ feeds (get_or text at 0 ∷ []) + feeds (take at text)
feeds_more text at l = ap feeds (take_more text at 0 l) ∙ feeds_last (take at text) (get_or text at 0)

pub one_feed : (byte : ℕ) → byte ≡ 10 → feeds (byte ∷ []) ≡ 1
one_feed byte e = rw (eq-eqb byte 10 e) refl

pub no_feed : (byte : ℕ) → (byte ≡ 10 → ⊥) → feeds (byte ∷ []) ≡ 0
no_feed byte other =
    elim (cases_Bool (eqb byte 10)) [
      | inl e ↦ absurd (other (eqb-true byte 10 e))
      | inr e ↦ rw e refl
    ]

-- a text cut at a place, or at its end where the place lies past it
pub cut_front : (text : List ℕ) (at : ℕ) → take (min at (length text)) text ≡ take at text
cut_front text at =
    elim (cases_lt at (length text)) [
      | inl l ↦ (let m : min at (length text) ≡ at = omega (arith, l) in ap (λ (n : ℕ). take n text) m)
      | inr l ↦
          let m : min at (length text) ≡ length text = omega (arith, l) in
          ap (λ (n : ℕ). take n text) m ∙ (take_all (length text) text (omega arith) ∙ sym (take_all at text l))
    ]

pub cut_back : (text : List ℕ) (at : ℕ) → drop (min at (length text)) text ≡ drop at text
cut_back text at =
    elim (cases_lt at (length text)) [
      | inl l ↦ (let m : min at (length text) ≡ at = omega (arith, l) in ap (λ (n : ℕ). drop n text) m)
      | inr l ↦
          let m : min at (length text) ≡ length text = omega (arith, l) in
          ap (λ (n : ℕ). drop n text) m ∙ (drop_all (length text) text (omega arith) ∙ sym (drop_all at text l))
    ]
