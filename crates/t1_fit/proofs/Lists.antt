-- Lists: what stands in them, fronts of them, and one element more.
use Rattle.std.proofs.Common.{◌≡◌, ℕ, zero, suc, ◌≤◌, ◌⊎◌, inl, inr, Bool, List, [], ◌∷◌, ◌++◌, length, take, drop, Option, Some, None, refl, ap, sym, ◌∙◌, subst, arith, length-append}
use Rattle.std.specs.List.{slice_get, filter}
use Rattle.std.proofs.lemmas.List.Elements.{filter-append}
use Rattle.std.proofs.lemmas.List.{append_assoc, map-append}
use Rattle.t1_packet.specs.declared.served.Served.{Served}
use Rattle.t1_joint.specs.Lists.{IsIn, IsPrefix}
use Rattle.t1_joint.specs.Parts.{requests_of}

-- ---- what stands in a list

pub in_left : {A : Type 0} (r : A) (xs ys : List A) → IsIn r xs → IsIn r (xs ++ ys)
in_left r [] ys h = absurd h
in_left r (x ∷ xs) ys (inl e) = inl e
in_left r (x ∷ xs) ys (inr h) = inr (in_left r xs ys h)

pub in_right : {A : Type 0} (r : A) (xs ys : List A) → IsIn r ys → IsIn r (xs ++ ys)
in_right r [] ys h = h
in_right r (x ∷ xs) ys h = inr (in_right r xs ys h)

pub in_append : {A : Type 0} (r : A) (xs ys : List A) → IsIn r (xs ++ ys) → IsIn r xs ⊎ IsIn r ys
in_append r [] ys h = inr h
in_append r (x ∷ xs) ys (inl e) = inl (inl e)
in_append r (x ∷ xs) ys (inr h) = elim (in_append r xs ys h) [ inl p ↦ inl (inr p) | inr p ↦ inr p ]

pub in_prefix : {A : Type 0} (r : A) (xs ys : List A) → IsPrefix xs ys → IsIn r xs → IsIn r ys
in_prefix {A} r xs ys p h = subst (λ (l : List A). IsIn r l) p.1 (in_left r xs p.0 h)

-- ---- fronts

pub prefix_trans : {A : Type 0} (xs ys zs : List A) → IsPrefix xs ys → IsPrefix ys zs → IsPrefix xs zs
prefix_trans {A} xs ys zs p q = (p.0 ++ q.0, sym (append_assoc xs p.0 q.0) ∙ (ap (λ (l : List A). l ++ q.0) p.1 ∙ q.1))

pub prefix_filter : {A : Type 0} (f : A → Bool) (xs ys : List A) → IsPrefix xs ys → IsPrefix (filter f xs) (filter f ys)
prefix_filter {A} f xs ys p = (filter f p.0, sym (filter-append f xs p.0) ∙ ap (λ (l : List A). filter f l) p.1)

pub prefix_requests : (xs ys : List Served) → IsPrefix xs ys → IsPrefix (requests_of xs) (requests_of ys)
prefix_requests xs ys p = (requests_of p.0, sym (map-append (λ (a : Served). a.request) xs p.0) ∙ ap (λ (l : List Served). requests_of l) p.1)

pub prefix_length : {A : Type 0} (xs ys : List A) → IsPrefix xs ys → length xs ≤ length ys
prefix_length {A} xs ys p = omega (arith, length-append xs p.0, ap (λ (l : List A). length l) p.1)

pub slice_front : {A : Type 0} (xs ys : List A) (i : ℕ) (a : A) → slice_get xs i ≡ Some a → slice_get (xs ++ ys) i ≡ Some a
slice_front {A} [] ys i a e = let clash : ◌≡◌ {A = Option A} None (Some a) = e in cc
slice_front (x ∷ xs) ys zero a e = e
slice_front (x ∷ xs) ys (suc i) a e = slice_front xs ys i a e

-- ---- one more

pub take_next : {A : Type 0} (all : List A) (n : ℕ) (a : A) → slice_get all n ≡ Some a → take (suc n) all ≡ take n all ++ a ∷ []
take_next {A} [] n a e = let clash : ◌≡◌ {A = Option A} None (Some a) = e in cc
take_next {A} (b ∷ all) zero a e = let q : b ≡ a = cc (e) in ap (λ (v : A). v ∷ []) q
take_next {A} (b ∷ all) (suc n) a e = ap (λ (l : List A). b ∷ l) (take_next all n a e)

pub take_past : {A : Type 0} (all : List A) (n : ℕ) → slice_get all n ≡ None → take (suc n) all ≡ take n all
take_past [] zero e = refl
take_past [] (suc n) e = refl
take_past {A} (b ∷ all) zero e = let clash : ◌≡◌ {A = Option A} (Some b) None = e in cc
take_past {A} (b ∷ all) (suc n) e = ap (λ (l : List A). b ∷ l) (take_past all n e)

pub split_at : {A : Type 0} (all : List A) (n : ℕ) (a : A) → slice_get all n ≡ Some a → all ≡ take n all ++ a ∷ drop (suc n) all
split_at {A} [] n a e = let clash : ◌≡◌ {A = Option A} None (Some a) = e in cc
split_at {A} (b ∷ all) zero a e = let q : b ≡ a = cc (e) in ap (λ (v : A). v ∷ all) q
split_at {A} (b ∷ all) (suc n) a e = ap (λ (l : List A). b ∷ l) (split_at all n a e)
