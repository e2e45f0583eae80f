-- Lists: reads after a write, a push, or in one of two parts.
use Rattle.std.proofs.Common.{◌≡◌, ◌≢◌, ℕ, zero, suc, ◌+◌, ◌<◌, List, [], ◌∷◌, ◌++◌, length, set, get_or, drop, replicate, Option, Some, None, refl, ap, ◌∙◌, inl, inr, ◌⊎◌, arith}
use Rattle.std.specs.List.{slice_get}

pub slice_push : {A : Type 0} (xs : List A) (v : A) (n : ℕ) (x : A) → slice_get (xs ++ v ∷ []) n ≡ Some x → (slice_get xs n ≡ Some x) ⊎ ((n ≡ length xs) × (v ≡ x))
slice_push [] v zero x e = inr (refl, (let q : v ≡ x = cc (e) in q))
slice_push {A} [] v (suc n) x e = let clash : ◌≡◌ {A = Option A} None (Some x) = e in cc
slice_push (y ∷ ys) v zero x e = inl e
slice_push (y ∷ ys) v (suc n) x e = elim (slice_push ys v n x e) [ inl p ↦ inl p | inr p ↦ inr (omega (arith, p.0), p.1) ]

-- a read after a write at place i
pub slice_cases : {A : Type 0} (P : Option A → Type 0) (xs : List A) (i : ℕ) (v : A) (k : ℕ) → i < length xs → (k ≡ i → P (Some v)) → (k ≢ i → P (slice_get xs k)) → P (slice_get (set xs i v) k)
slice_cases P [] i v k l here there = absurd (omega (arith, l))
slice_cases P (x ∷ xs) zero v zero l here there = here refl
slice_cases P (x ∷ xs) zero v (suc k) l here there = there (λ e. omega (arith, e))
slice_cases P (x ∷ xs) (suc i) v zero l here there = there (λ e. omega (arith, e))
slice_cases P (x ∷ xs) (suc i) v (suc k) l here there = slice_cases P xs i v k (omega (arith, l)) (λ e. here (omega (arith, e))) (λ ne. there (λ e. ne (omega (arith, e))))

pub slice_there : {A : Type 0} (xs : List A) (i : ℕ) → i < length xs → (x : A) × (slice_get xs i ≡ Some x)
slice_there [] i l = absurd (omega (arith, l))
slice_there (y ∷ ys) zero l = (y, refl)
slice_there (y ∷ ys) (suc i) l = slice_there ys i (omega (arith, l))

pub slice_behind : {A : Type 0} (xs ys : List A) (a : A) → slice_get (xs ++ a ∷ ys) (length xs) ≡ Some a
slice_behind [] ys a = refl
slice_behind (x ∷ xs) ys a = slice_behind xs ys a

pub slice_right : {A : Type 0} (xs ys : List A) (i : ℕ) (a : A) → slice_get ys i ≡ Some a → slice_get (xs ++ ys) (length xs + i) ≡ Some a
slice_right [] ys i a e = ap (λ (k : ℕ). slice_get ys k) (let z : 0 + i ≡ i = omega arith in z) ∙ e
slice_right (x ∷ xs) ys i a e = ap (λ (k : ℕ). slice_get (x ∷ (xs ++ ys)) k) (let z : suc (length xs) + i ≡ suc (length xs + i) = omega arith in z) ∙ slice_right xs ys i a e

pub slice_parts : {A : Type 0} (xs ys : List A) (n : ℕ) (a : A) → slice_get (xs ++ ys) n ≡ Some a → slice_get xs n ≡ Some a ⊎ ((i : ℕ) × (slice_get ys i ≡ Some a))
slice_parts [] ys n a e = inr (n, e)
slice_parts (x ∷ xs) ys zero a e = inl e
slice_parts (x ∷ xs) ys (suc n) a e = slice_parts xs ys n a e

pub or_replicate : {A : Type 0} (n : ℕ) (v : A) (k : ℕ) → get_or (replicate n v) k v ≡ v
or_replicate zero v k = refl
or_replicate (suc n) v zero = refl
or_replicate (suc n) v (suc k) = or_replicate n v k

pub drop_front : {A : Type 0} (xs ys : List A) → drop (length xs) (xs ++ ys) ≡ ys
drop_front [] ys = refl
drop_front (x ∷ xs) ys = drop_front xs ys
