-- The place of the first strand that is ready.
use Rattle.std.proofs.Common.{◌≡◌, ◌+◌, ◌<◌, ℕ, zero, suc, Bool, true, false, List, [], ◌∷◌, length, get_or, Option, Some, None, refl, ap, ◌∙◌, arith, add-one, if◌then◌else◌}
use Rattle.t1_select.specs.Queue.{first_ready, one_further}

-- none before it is ready, and it is
pub first_ready_is : (ready : ℕ → Bool) (turns : List ℕ) (i : ℕ) → i < length turns
    → ((k : ℕ) → k < i → ready (get_or turns k 0) ≡ false) → ready (get_or turns i 0) ≡ true → first_ready ready turns ≡ Some i
unfolding first_ready
first_ready_is ready [] i within none here = absurd (omega arith)
first_ready_is ready (s ∷ ss) zero within none here = rw here refl
first_ready_is ready (s ∷ ss) (suc i) within none here =
    let not : ready s ≡ false = none 0 (omega arith) in
    let rest : first_ready ready ss ≡ Some i = first_ready_is ready ss i (omega arith) (λ k h. none (suc k) (omega arith)) here in
    rw (not, rest, add-one i) refl

-- none is ready
pub first_ready_none : (ready : ℕ → Bool) (turns : List ℕ) → ((k : ℕ) → k < length turns → ready (get_or turns k 0) ≡ false) → first_ready ready turns ≡ None
unfolding first_ready
first_ready_none ready [] none = refl
first_ready_none ready (s ∷ ss) none =
    let not : ready s ≡ false = none 0 (omega arith) in
    let rest : first_ready ready ss ≡ None = first_ready_none ready ss (λ k h. none (suc k) (omega arith)) in
    rw (not, rest) refl

-- what a place of the first ready strand says of the places up to it
pub record IsFirst (ready : ℕ → Bool) (turns : List ℕ) (i : ℕ) : Type 0 where
  pub within : i < length turns
  pub here : ready (get_or turns i 0) ≡ true
  pub before : (k : ℕ) → k < i → ready (get_or turns k 0) ≡ false

first_more : (ready : ℕ → Bool) (s : ℕ) (ss : List ℕ) (i : ℕ) → ready s ≡ false → IsFirst ready ss i → IsFirst ready (s ∷ ss) (i + 1)
first_more ready s ss i not f =
    let below : i < length ss = f.within in
    record {
      within = omega arith;
      here = rw (add-one i) f.here;
      before = λ k. elim k as (λ (k : ℕ). k < i + 1 → ready (get_or (s ∷ ss) k 0) ≡ false) [ zero ↦ λ h. not | suc j ↦ λ h. f.before j (omega arith) ];
    }

test_first : (b : Bool) (ready : ℕ → Bool) (s : ℕ) (ss : List ℕ) (o : Option ℕ) (i : ℕ) → ready s ≡ b → ((j : ℕ) → o ≡ Some j → IsFirst ready ss j)
    → (if b then Some 0 else one_further o) ≡ Some i → IsFirst ready (s ∷ ss) i
test_first true ready s ss o i t f e =
    let same : 0 ≡ i = cc in
    let first : IsFirst ready (s ∷ ss) 0 = record { within = omega arith; here = t; before = λ k h. absurd (omega arith) } in
    rw (← same) first
test_first false ready s ss None i t f e = let clash : ◌≡◌ {A = Option ℕ} None (Some i) = e in cc
test_first false ready s ss (Some j) i t f e =
    let same : j + 1 ≡ i = cc in
    rw (← same) (first_more ready s ss j t (f j refl))

-- the converse
pub is_first : (ready : ℕ → Bool) (turns : List ℕ) (i : ℕ) → first_ready ready turns ≡ Some i → IsFirst ready turns i
unfolding first_ready
is_first ready [] i e = let clash : ◌≡◌ {A = Option ℕ} None (Some i) = e in cc
is_first ready (s ∷ ss) i e = test_first (ready s) ready s ss (first_ready ready ss) i refl (λ j h. is_first ready ss j h) e

test_none : (b : Bool) (ready : ℕ → Bool) (s : ℕ) (ss : List ℕ) (o : Option ℕ) → ready s ≡ b → (o ≡ None → (k : ℕ) → k < length ss → ready (get_or ss k 0) ≡ false)
    → (if b then Some 0 else one_further o) ≡ None → (k : ℕ) → k < suc (length ss) → ready (get_or (s ∷ ss) k 0) ≡ false
test_none true ready s ss o t f e k h = let clash : ◌≡◌ {A = Option ℕ} (Some 0) None = e in cc
test_none false ready s ss (Some j) t f e k h = let clash : ◌≡◌ {A = Option ℕ} (Some (j + 1)) None = e in cc
test_none false ready s ss None t f e zero h = t
test_none false ready s ss None t f e (suc k) h = f refl k (omega arith)

pub none_first : (ready : ℕ → Bool) (turns : List ℕ) → first_ready ready turns ≡ None → (k : ℕ) → k < length turns → ready (get_or turns k 0) ≡ false
unfolding first_ready
none_first ready [] e k h = absurd (omega arith)
none_first ready (s ∷ ss) e k h = test_none (ready s) ready s ss (first_ready ready ss) refl (λ g. none_first ready ss g) e k h
