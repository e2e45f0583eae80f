-- The queue of the strands of a core, the least recently picked first.
use Rattle.std.specs.Prelude.{ℕ, zero, suc, ◌+◌, ◌/◌, ◌%◌, ◌^◌, ◌==◌, ◌<◌, ◌≤◌, Bool, List, [], ◌∷◌, ◌++◌, length, remove, Contains, slice_index, Option, Some, None, if◌then◌else◌}

-- so many numbers from a first one on
unfoldable pub counted : ℕ → ℕ → List ℕ
counted first zero = []
counted first (suc n) = first ∷ counted (first + 1) n

-- n strands, at most 8, each of which stands in the queue
pub record IsQueue (turns : List ℕ) : Type 0 where
  pub few : length turns ≤ 8
  pub below : (k : ℕ) → k < length turns → slice_index turns k < length turns
  pub all : (strand : ℕ) → strand < length turns → Contains turns strand

-- the bit of a strand in a word
abbrev pub is_ready : ℕ → ℕ → Bool
is_ready word strand = word / 2 ^ strand % 2 == 1

abbrev pub one_further : Option ℕ → Option ℕ
one_further None = None
one_further (Some place) = Some (place + 1)

-- the place of the first strand that is ready
unfoldable pub first_ready : (ℕ → Bool) → List ℕ → Option ℕ
first_ready ready [] = None
first_ready ready (strand ∷ turns) = if ready strand then Some 0 else one_further (first_ready ready turns)

-- the strand at a place goes to the end
abbrev pub moved_last : List ℕ → ℕ → List ℕ
moved_last turns place = remove turns place ++ slice_index turns place ∷ []

abbrev pub turns_from : List ℕ → Option ℕ → List ℕ
turns_from turns None = turns
turns_from turns (Some place) = moved_last turns place

abbrev pub strand_at : List ℕ → Option ℕ → Option ℕ
strand_at turns None = None
strand_at turns (Some place) = Some (slice_index turns place)

-- the queue after a pick among the strands whose bits are set
unfoldable pub turns_after : List ℕ → ℕ → List ℕ
turns_after turns word = turns_from turns (first_ready (is_ready word) turns)

-- the strand that is picked
unfoldable pub picked_of : List ℕ → ℕ → Option ℕ
picked_of turns word = strand_at turns (first_ready (is_ready word) turns)
