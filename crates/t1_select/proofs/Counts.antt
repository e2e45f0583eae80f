-- Numbers counted up.
use Rattle.std.proofs.Common.{◌≡◌, ◌+◌, ◌-◌, ◌<◌, ◌≤◌, ℕ, zero, suc, List, [], ◌∷◌, ◌++◌, length, get_or, refl, ap, sym, ◌∙◌, subst, arith, append_assoc, append-nil}
use Rattle.t1_select.specs.Queue.{counted, IsQueue}

pub counted_more : (k n : ℕ) (xs : List ℕ) → k < n → (xs ++ k ∷ []) ++ counted (k + 1) (n - (k + 1)) ≡ xs ++ counted k (n - k)
unfolding counted
counted_more k n xs h =
    let s : n - k ≡ suc (n - (k + 1)) = omega arith in
    append_assoc xs (k ∷ []) (counted (k + 1) (n - (k + 1))) ∙ ap (λ (m : ℕ). xs ++ counted k m) (sym s)

pub counted_done : (k n : ℕ) (xs : List ℕ) → n ≤ k → xs ++ counted k (n - k) ≡ xs
unfolding counted
counted_done k n xs h =
    let none : n - k ≡ 0 = omega arith in
    ap (λ (m : ℕ). xs ++ counted k m) none ∙ append-nil xs

pub length-counted : (k n : ℕ) → length (counted k n) ≡ n
unfolding counted
length-counted k zero = refl
length-counted k (suc n) = ap suc (length-counted (k + 1) n)

pub get_or-counted : (k n i d : ℕ) → i < n → get_or (counted k n) i d ≡ k + i
unfolding counted
get_or-counted k zero i d h = absurd (omega arith)
get_or-counted k (suc n) zero d h = omega arith
get_or-counted k (suc n) (suc i) d h =
    let rest : get_or (counted (k + 1) n) i d ≡ (k + 1) + i = get_or-counted (k + 1) n i d (omega arith) in
    rest ∙ (let e : (k + 1) + i ≡ k + suc i = omega arith in e)

-- the queue of the first n numbers
pub queue_counted : (n : ℕ) (turns : List ℕ) → turns ≡ counted 0 n → n ≤ 8 → IsQueue turns
queue_counted n turns e h =
    let size : length (counted 0 n) ≡ n = length-counted 0 n in
    let queue : IsQueue (counted 0 n) = record {
      few = omega arith;
      below = λ k l. let at : get_or (counted 0 n) k 0 ≡ 0 + k = get_or-counted 0 n k 0 (omega arith) in omega arith;
      all = λ s l. (s, l, (let at : get_or (counted 0 n) s s ≡ 0 + s = get_or-counted 0 n s s (omega arith) in omega (arith, at)));
    } in
    subst IsQueue (sym e) queue
