-- Sums over lists of which one place changes, rings that get or lose one, and products.
use Rattle.std.proofs.Common.{◌≡◌, ◌≤◌, ◌+◌, ◌*◌, ℕ, zero, suc, List, [], ◌∷◌, ◌++◌, length, set, get_or, replicate, Option, Some, None, refl, ap, arith, length-append}
use Rattle.std.specs.List.{slice_get, All}
use Rattle.std.proofs.lemmas.List.Elements.{All-head, All-tail}
use Rattle.std.proofs.Math.Nat.{mul-le-mul_left}
use Rattle.t1_bound.specs.Weights.{total, lengths}

-- ---- sums

-- the sum after one place is changed
pub total_set : {A : Type 0} (f : A → ℕ) (xs : List A) (i : ℕ) (x y : A) → slice_get xs i ≡ Some x → total f (set xs i y) + f x ≡ total f xs + f y
total_set {A} f [] i x y e = let clash : ◌≡◌ {A = Option A} None (Some x) = e in cc
total_set f (z ∷ zs) zero x y e = let same : z ≡ x = cc in let r : f z ≡ f x = ap f same in omega (arith, r)
total_set f (z ∷ zs) (suc i) x y e = let r = total_set f zs i x y e in omega (arith, r)

pub all_at : {A : Type 0} (P : A → Type 0) (xs : List A) (i : ℕ) (x : A) → slice_get xs i ≡ Some x → All P xs → P x
all_at {A} P [] i x e a = let clash : ◌≡◌ {A = Option A} None (Some x) = e in cc
all_at P (y ∷ ys) zero x e a = let same : y ≡ x = cc in rw (← same) (All-head P y ys a)
all_at P (y ∷ ys) (suc i) x e a = all_at P ys i x e (All-tail P y ys a)

-- ---- rings

pub push_length : {A : Type 0} (rings : List (List A)) (i : ℕ) (x : A) → lengths (set rings i (get_or rings i [] ++ x ∷ [])) ≤ lengths rings + 1
push_length [] i x = omega arith
push_length (r ∷ rs) zero x = let k = length-append r (x ∷ []) in omega (arith, k)
push_length (r ∷ rs) (suc i) x = let k = push_length rs i x in omega (arith, k)

pub pop_length : {A : Type 0} (rings : List (List A)) (i : ℕ) (x : A) (rest : List A) → get_or rings i [] ≡ x ∷ rest → lengths (set rings i rest) + 1 ≤ lengths rings
pop_length {A} [] i x rest e = let clash : ◌≡◌ {A = List A} [] (x ∷ rest) = e in cc
pop_length (r ∷ rs) zero x rest e = let k = ap (λ ring. length ring) e in omega (arith, k)
pop_length (r ∷ rs) (suc i) x rest e = let k = pop_length rs i x rest e in omega (arith, k)

pub empty_lengths : (A : Type 0) (n : ℕ) → lengths {A = A} (replicate {A = List A} n []) ≡ 0
empty_lengths A zero = refl
empty_lengths A (suc n) = let k = empty_lengths A n in omega (arith, k)

-- ---- products

pub times_more : (a k m : ℕ) → k ≤ m + 1 → a * k ≤ a * m + a
times_more a k m h =
    let p : a * (m + 1) ≡ a * m + a = grind arith in
    let q : a * k ≤ a * (m + 1) = mul-le-mul_left a h in
    omega (arith, p, q)

pub times_less : (a k m : ℕ) → k + 1 ≤ m → a * k + a ≤ a * m
times_less a k m h =
    let p : a * (k + 1) ≡ a * k + a = grind arith in
    let q : a * (k + 1) ≤ a * m = mul-le-mul_left a h in
    omega (arith, p, q)

pub times_eight : (a k m n : ℕ) → k ≤ m + n → n ≤ 8 → a * k ≤ a * m + 8 * a
times_eight a k m n h few =
    let p : a * (m + 8) ≡ a * m + 8 * a = grind arith in
    let q : a * k ≤ a * (m + 8) = mul-le-mul_left a (omega arith) in
    omega (arith, p, q)

pub times_moved : (a k l m n : ℕ) → k + l ≡ m + n → a * k + a * l ≡ a * m + a * n
times_moved a k l m n e =
    let p : a * (k + l) ≡ a * k + a * l = grind arith in
    let q : a * (m + n) ≡ a * m + a * n = grind arith in
    let r : a * (k + l) ≡ a * (m + n) = ap (λ (j : ℕ). a * j) e in
    omega (arith, p, q, r)

pub times_next : (a k : ℕ) → a * (k + 1) ≡ a * k + a
times_next a k = grind arith
