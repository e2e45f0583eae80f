-- A strand that goes to the end of the queue.
use Rattle.std.proofs.Common.{◌≡◌, ◌+◌, ◌-◌, ◌<◌, ◌≤◌, ◌⊎◌, inl, inr, ℕ, zero, suc, List, [], ◌∷◌, ◌++◌, length, get_or, refl, ap, sym, ◌∙◌, subst, arith, add-one, length-append}
use Rattle.std.specs.List.{Contains, remove}
use Rattle.std.proofs.lemmas.Bool.{cases_eq, cases_lt}
use Rattle.std.proofs.lemmas.List.{get_or_append_left, get_or_push, get_or_default}
use Rattle.std.proofs.lemmas.List.Edits.{length-remove, get_or-remove_below, get_or-remove_above}
use Rattle.t1_select.specs.Queue.{moved_last, IsQueue}

pub length-moved_last : (turns : List ℕ) (i : ℕ) → i < length turns → length (moved_last turns i) ≡ length turns
length-moved_last turns i h =
    let cut : length (remove turns i) + 1 ≡ length turns = length-remove turns i h in
    length-append (remove turns i) (get_or turns i 0 ∷ []) ∙ cut

pub moved_below : (turns : List ℕ) (i k : ℕ) → k < i → i < length turns → get_or (moved_last turns i) k 0 ≡ get_or turns k 0
moved_below turns i k l h =
    let cut : length (remove turns i) + 1 ≡ length turns = length-remove turns i h in
    get_or_append_left (remove turns i) (get_or turns i 0 ∷ []) 0 k (omega arith) ∙ get_or-remove_below turns i 0 k l h

pub moved_above : (turns : List ℕ) (i k : ℕ) → i ≤ k → k + 1 < length turns → get_or (moved_last turns i) k 0 ≡ get_or turns (k + 1) 0
moved_above turns i k l h =
    let cut : length (remove turns i) + 1 ≡ length turns = length-remove turns i (omega arith) in
    get_or_append_left (remove turns i) (get_or turns i 0 ∷ []) 0 k (omega arith) ∙ get_or-remove_above turns i 0 k l (omega arith)

pub moved_to_end : (turns : List ℕ) (i k : ℕ) → i < length turns → k + 1 ≡ length turns → get_or (moved_last turns i) k 0 ≡ get_or turns i 0
moved_to_end turns i k h e =
    let cut : length (remove turns i) + 1 ≡ length turns = length-remove turns i h in
    get_or_push (remove turns i) (get_or turns i 0) 0 k (omega arith)

-- the last one stays where it is
pub last_stays : (turns : List ℕ) (i : ℕ) → i + 1 ≡ length turns → moved_last turns i ≡ turns
last_stays [] i e = absurd (omega arith)
last_stays (s ∷ []) zero e = refl
last_stays (s ∷ []) (suc i) e = absurd (omega arith)
last_stays (s ∷ t ∷ ts) zero e = absurd (omega arith)
last_stays (s ∷ t ∷ ts) (suc i) e = ap (λ (xs : List ℕ). s ∷ xs) (last_stays (t ∷ ts) i (omega arith))

-- where a place of the queue comes from
came_from : (turns : List ℕ) (i k : ℕ) → i < length turns → k < length turns → (j : ℕ) × (j < length turns) × (get_or (moved_last turns i) k 0 ≡ get_or turns j 0)
came_from turns i k h l =
    elim (cases_lt k i) [
      | inl below ↦ (k, l, moved_below turns i k below h)
      | inr above ↦ elim (cases_eq (k + 1) (length turns)) [
        | inl last ↦ (i, h, moved_to_end turns i k h last)
        | inr not ↦ let more : k + 1 < length turns = omega (arith, not) in (k + 1, more, moved_above turns i k above more)
      ]
    ]

-- where it goes
goes_to : (turns : List ℕ) (i j : ℕ) → i < length turns → j < length turns → (k : ℕ) × (k < length turns) × (get_or (moved_last turns i) k 0 ≡ get_or turns j 0)
goes_to turns i j h l =
    elim (cases_lt j i) [
      | inl below ↦ (j, l, moved_below turns i j below h)
      | inr above ↦ elim (cases_eq j i) [
        | inl same ↦
            let k : ℕ = length turns - 1 in
            let last : k + 1 ≡ length turns = omega arith in
            (k, (let b : k < length turns = omega arith in b), moved_to_end turns i k h last ∙ ap (λ (n : ℕ). get_or turns n 0) (sym same))
        | inr not ↦
            let k : ℕ = j - 1 in
            let up : k + 1 ≡ j = omega (arith, not) in
            (k, (let b : k < length turns = omega (arith, up) in b), moved_above turns i k (omega (arith, not)) (omega (arith, up)) ∙ ap (λ (n : ℕ). get_or turns n 0) up)
      ]
    ]

contains_at : (xs : List ℕ) (k s : ℕ) → k < length xs → get_or xs k 0 ≡ s → Contains xs s
contains_at xs k s l e = (k, l, get_or_default xs k s 0 l ∙ e)

pub queue_moved : (turns : List ℕ) (i : ℕ) → IsQueue turns → i < length turns → IsQueue (moved_last turns i)
queue_moved turns i q h =
    let size : length (moved_last turns i) ≡ length turns = length-moved_last turns i h in
    let few : length turns ≤ 8 = q.few in
    record {
      few = omega arith;
      below = λ k l.
          let from : (j : ℕ) × (j < length turns) × (get_or (moved_last turns i) k 0 ≡ get_or turns j 0) = came_from turns i k h (omega arith) in
          let value : get_or (moved_last turns i) k 0 ≡ get_or turns from.0 0 = from.2 in
          let low : get_or turns from.0 0 < length turns = q.below from.0 from.1 in
          omega arith;
      all = λ s l.
          let at : Contains turns s = q.all s (omega arith) in
          let here : get_or turns at.0 0 ≡ s = get_or_default turns at.0 0 s at.1 ∙ at.2 in
          let to : (k : ℕ) × (k < length turns) × (get_or (moved_last turns i) k 0 ≡ get_or turns at.0 0) = goes_to turns i at.0 h at.1 in
          let low : to.0 < length turns = to.1 in
          contains_at (moved_last turns i) to.0 s (omega arith) (to.2 ∙ here);
    }
