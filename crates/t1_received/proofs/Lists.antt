-- Membership, and lists of which another is the first part.
use Rattle.std.proofs.Common.{◌≡◌, ◌⊎◌, Bool, true, List, [], ◌∷◌, ◌++◌, refl, ap, sym, ◌∙◌, subst, inl, inr}
use Rattle.std.specs.List.{filter}
use Rattle.std.proofs.lemmas.Bool.{cases_Bool}
use Rattle.t1_joint.specs.Lists.{IsIn, IsPrefix}

pub in_more : {A : Type 0} (x : A) (xs ys : List A) → IsIn x (xs ++ ys) → IsIn x xs ⊎ IsIn x ys
in_more x [] ys h = inr h
in_more x (z ∷ zs) ys (inl e) = inl (inl e)
in_more x (z ∷ zs) ys (inr h) = elim (in_more x zs ys h) [ inl p ↦ inl (inr p) | inr p ↦ inr p ]

pub in_left : {A : Type 0} (x : A) (xs ys : List A) → IsIn x xs → IsIn x (xs ++ ys)
in_left x [] ys h = absurd h
in_left x (z ∷ zs) ys (inl e) = inl e
in_left x (z ∷ zs) ys (inr h) = inr (in_left x zs ys h)

pub in_right : {A : Type 0} (x : A) (xs ys : List A) → IsIn x ys → IsIn x (xs ++ ys)
in_right x [] ys h = h
in_right x (z ∷ zs) ys h = inr (in_right x zs ys h)

pub in_last : {A : Type 0} (x : A) (xs : List A) → IsIn x (xs ++ x ∷ [])
in_last x xs = in_right x xs (x ∷ []) (inl refl)

pub in_filter : {A : Type 0} (f : A → Bool) (r : A) (xs : List A) → IsIn r xs → f r ≡ true → IsIn r (filter f xs)
in_filter f r [] h e = h
in_filter {A} f r (x ∷ xs) (inl same) e =
    let g : f x ≡ true = subst (λ (q : A). f q ≡ true) same e in rw g (inl same)
in_filter f r (x ∷ xs) (inr h) e =
    let more = in_filter f r xs h e in
    elim (cases_Bool (f x)) [ inl g ↦ rw g (inr more) | inr g ↦ rw g more ]

pub filter_in : {A : Type 0} (f : A → Bool) (r : A) (xs : List A) → IsIn r (filter f xs) → IsIn r xs × (f r ≡ true)
filter_in f r [] h = absurd h
filter_in {A} f r (x ∷ xs) h =
    elim (cases_Bool (f x)) [
      | inl g ↦ elim (let h' : (r ≡ x) ⊎ IsIn r (filter f xs) = rw g at h in h') [
        | inl e ↦ (inl e, subst (λ (q : A). f q ≡ true) (sym e) g)
        | inr m ↦ (let p = filter_in f r xs m in (inr p.0, p.1))
      ]
      | inr g ↦ (let h' : IsIn r (filter f xs) = rw g at h in let p = filter_in f r xs h' in (inr p.0, p.1))
    ]

no_front : {A : Type 0} (us vs : List A) → us ++ vs ≡ [] → us ≡ []
no_front [] vs e = refl
no_front {A} (u ∷ us) vs e = let clash : ◌≡◌ {A = List A} (u ∷ (us ++ vs)) [] = e in cc

-- the first part of a list and one more is one of the list, or all
pub prefix_last : {A : Type 0} (xs ys : List A) (r : A) → IsPrefix xs (ys ++ r ∷ []) → IsPrefix xs ys ⊎ (xs ≡ ys ++ r ∷ [])
prefix_last [] ys r p = inl (ys, refl)
prefix_last {A} (x ∷ xs) [] r p =
    let e : x ∷ (xs ++ p.0) ≡ r ∷ [] = p.1 in
    let head : x ≡ r = cc (e) in
    let none : xs ++ p.0 ≡ [] = cc (e) in
    inr (ap (λ (z : A). z ∷ xs) head ∙ ap (λ (zs : List A). r ∷ zs) (no_front xs p.0 none))
prefix_last {A} (x ∷ xs) (y ∷ ys) r p =
    let e : x ∷ (xs ++ p.0) ≡ y ∷ (ys ++ r ∷ []) = p.1 in
    let head : x ≡ y = cc (e) in
    let tail : xs ++ p.0 ≡ ys ++ r ∷ [] = cc (e) in
    elim (prefix_last xs ys r (p.0, tail)) [
      | inl q ↦ inl (q.0, ap (λ (z : A). z ∷ (xs ++ q.0)) head ∙ ap (λ (zs : List A). y ∷ zs) q.1)
      | inr q ↦ inr (ap (λ (z : A). z ∷ xs) head ∙ ap (λ (zs : List A). y ∷ zs) q)
    ]
