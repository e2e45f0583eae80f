-- The first of a list and what follows it; a list that is short enough is kept whole.
use Rattle.std.proofs.Common.{◌≡◌, ℕ, ◌-◌, ◌<◌, List, [], ◌∷◌, ◌++◌, length, drop, Option, Some, None, refl, ap, sym, arith, length-append}
use Rattle.std.specs.List.{slice_get}
use Rattle.circular_buffer.specs.Buffer.{keep_last}

pub first_rest : {A : Type 0} (xs : List A) (x : A) → Some x ≡ slice_get xs 0 → xs ≡ x ∷ drop 1 xs
first_rest {A} [] x e = let clash : ◌≡◌ {A = Option A} (Some x) None = e in cc
first_rest (y ∷ ys) x e = let same : x ≡ y = cc in ap (λ z. z ∷ ys) (sym same)

pub first_none : {A : Type 0} (xs : List A) → None ≡ slice_get xs 0 → xs ≡ []
first_none [] e = refl
first_none {A} (y ∷ ys) e = let clash : ◌≡◌ {A = Option A} None (Some y) = e in cc

pub keep_all : {A : Type 0} (n : ℕ) (xs : List A) (x : A) → length xs < n → keep_last n (xs ++ x ∷ []) ≡ xs ++ x ∷ []
keep_all n xs x below =
    let none : length (xs ++ x ∷ []) - n ≡ 0 = omega (arith, length-append xs (x ∷ []), below) in
    ap (λ (k : ℕ). drop k (xs ++ x ∷ [])) none
