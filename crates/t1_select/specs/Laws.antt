-- Laws of selection.
use Rattle.std.specs.Prelude.{ℕ, ◌≡◌, ◌+◌, ◌<◌, ◌⊎◌, ◌↔◌, List, [], ◌∷◌, length, All, false, Contains, slice_get, IsTrue, IsNone, Option, Some, None}
use Rattle.t1_select.specs.Queue.{is_ready, turns_after, picked_of}

-- none is picked exactly where no strand of the queue is ready
abbrev pub NoneIsReady : Type 0
NoneIsReady = (turns : List ℕ) (word : ℕ) → IsNone (picked_of turns word) ↔ All (λ strand. is_ready word strand ≡ false) turns

-- a ready strand is picked, or comes one place nearer to the front
abbrev pub ReadyComesNearer : Type 0
ReadyComesNearer = (turns : List ℕ) (word strand place : ℕ) → slice_get turns place ≡ Some strand → IsTrue (is_ready word strand)
    → (picked_of turns word ≡ Some strand) ⊎ ((nearer : ℕ) × (nearer + 1 ≡ place) × (slice_get (turns_after turns word) nearer ≡ Some strand))

-- who is picked in successive picks, with a word of who is ready in each
unfoldable pub picks : List ℕ → List ℕ → List (Option ℕ)
picks turns [] = []
picks turns (word ∷ words) = picked_of turns word ∷ picks (turns_after turns word) words

-- a strand that is ready in as many successive picks as there are strands is picked in one of them
abbrev pub ReadyIsPicked : Type 0
ReadyIsPicked = (turns words : List ℕ) (strand : ℕ) → Contains turns strand → length words ≡ length turns
    → All (λ word. IsTrue (is_ready word strand)) words → Contains (picks turns words) (Some strand)
