-- A ready strand is picked in time.
use Rattle.std.proofs.Common.{◌≡◌, ◌+◌, ◌-◌, ◌<◌, ◌≤◌, ◌⊎◌, inl, inr, ℕ, zero, suc, Bool, true, false, List, [], ◌∷◌, length, get_or, Option, Some, None, refl, ap, sym, ◌∙◌, subst, arith, add-one}
use Rattle.std.specs.Prelude.{IsTrue, IsNone, ◌↔◌}
use Rattle.std.specs.List.{Contains, All, slice_get}
use Rattle.std.proofs.lemmas.Bool.{cases_lt, cases_eq}
use Rattle.std.proofs.lemmas.Option.{slice_get-get_or, slice_get_within, get_or_from_slice_get}
use Rattle.std.proofs.lemmas.List.Elements.{All-from_get_or}
use Rattle.t1_select.specs.Queue.{is_ready, first_ready, turns_after, picked_of, turns_from, strand_at, moved_last}
use Rattle.t1_select.specs.Laws.{NoneIsReady, ReadyComesNearer, ReadyIsPicked, picks}
use Rattle.t1_select.proofs.Places.{IsFirst, is_first, none_first, first_ready_none}
use Rattle.t1_select.proofs.Moves.{moved_above, length-moved_last}

-- by the place of the first ready strand
nearer_from : (turns : List ℕ) (word strand place : ℕ) (o : Option ℕ) → first_ready (is_ready word) turns ≡ o
    → place < length turns → get_or turns place 0 ≡ strand → is_ready word strand ≡ true
    → (strand_at turns o ≡ Some strand) ⊎ ((nearer : ℕ) × (nearer + 1 ≡ place) × (slice_get (turns_from turns o) nearer ≡ Some strand))
nearer_from turns word strand place None e within here ready =
    let not : is_ready word (get_or turns place 0) ≡ false = none_first (is_ready word) turns e place within in
    let yes : is_ready word (get_or turns place 0) ≡ true = rw here ready in
    absurd (let clash : true ≡ false = sym yes ∙ not in cc)
nearer_from turns word strand place (Some i) e within here ready =
    let f : IsFirst (is_ready word) turns i = is_first (is_ready word) turns i e in
    let low : i < length turns = f.within in
    elim (cases_eq i place) [
      | inl same ↦ inl (ap (λ (s : ℕ). Some s) (ap (λ (n : ℕ). get_or turns n 0) same ∙ here))
      | inr not ↦ elim (cases_lt place i) [
        | inl before ↦
            let off : is_ready word (get_or turns place 0) ≡ false = f.before place before in
            let yes : is_ready word (get_or turns place 0) ≡ true = rw here ready in
            absurd (let clash : true ≡ false = sym yes ∙ off in cc)
        | inr after ↦
            let k : ℕ = place - 1 in
            let up : k + 1 ≡ place = omega (arith, not) in
            let first : i ≤ k = omega (arith, not) in
            let at : get_or (moved_last turns i) k 0 ≡ strand = moved_above turns i k first (omega (arith, up)) ∙ (ap (λ (n : ℕ). get_or turns n 0) up ∙ here) in
            let size : length (moved_last turns i) ≡ length turns = length-moved_last turns i low in
            inr (k, up, slice_get-get_or (moved_last turns i) k 0 (omega (arith, up, size)) ∙ ap (λ (s : ℕ). Some s) at)
      ]
    ]

pub comes_nearer : ReadyComesNearer
unfolding turns_after picked_of
comes_nearer turns word strand place at ready =
    nearer_from turns word strand place (first_ready (is_ready word) turns) refl (slice_get_within turns place strand at) (get_or_from_slice_get turns place strand 0 at) ready

contains_first : (x : Option ℕ) (xs : List (Option ℕ)) (s : Option ℕ) → x ≡ s → Contains (x ∷ xs) s
contains_first x xs s e = (0, (let l : 0 < suc (length xs) = omega arith in l), e)

contains_later : (x : Option ℕ) (xs : List (Option ℕ)) (s : Option ℕ) → Contains xs s → Contains (x ∷ xs) s
contains_later x xs s c = (suc c.0, (let b : c.0 < length xs = c.1 in let l : suc c.0 < suc (length xs) = omega (arith, b) in l), c.2)

-- a strand at a place is picked in as many picks as there are places up to it
picked_in : (words turns : List ℕ) (strand place : ℕ) → slice_get turns place ≡ Some strand → place < length words
    → ((k : ℕ) → k < length words → is_ready (get_or words k 0) strand ≡ true) → Contains (picks turns words) (Some strand)
unfolding picks
picked_in [] turns strand place at enough ready = absurd (omega arith)
picked_in (word ∷ words) turns strand place at enough ready =
    elim (comes_nearer turns word strand place at (ready 0 (omega arith))) [
      | inl now ↦ contains_first (picked_of turns word) (picks (turns_after turns word) words) (Some strand) now
      | inr later ↦
          let up : later.0 + 1 ≡ place = later.1 in
          contains_later (picked_of turns word) (picks (turns_after turns word) words) (Some strand)
          (picked_in words (turns_after turns word) strand later.0 later.2 (omega (arith, up)) (λ k l. ready (suc k) (omega arith)))
    ]

pub picked_in_time : ReadyIsPicked
picked_in_time turns words strand at size all =
    let low : at.0 < length turns = at.1 in
    let here : slice_get turns at.0 ≡ Some strand = slice_get-get_or turns at.0 strand low ∙ ap (λ (s : ℕ). Some s) at.2 in
    picked_in words turns strand at.0 here (omega (arith, low, size)) (λ k l. all k 0 l)

none_from : (turns : List ℕ) (word : ℕ) (o : Option ℕ) → first_ready (is_ready word) turns ≡ o → IsNone (strand_at turns o)
    → (k : ℕ) → k < length turns → is_ready word (get_or turns k 0) ≡ false
none_from turns word None e n k l = none_first (is_ready word) turns e k l
none_from turns word (Some i) e n k l = absurd (let clash : true ≡ false = n in cc)

pub none_ready : NoneIsReady
unfolding picked_of
none_ready turns word = (
  λ n. All-from_get_or (λ (s : ℕ). is_ready word s ≡ false) turns 0 (none_from turns word (first_ready (is_ready word) turns) refl n),
  λ all.
      let none : first_ready (is_ready word) turns ≡ None = first_ready_none (is_ready word) turns (λ k l. all k 0 l) in
      rw none refl,
)
