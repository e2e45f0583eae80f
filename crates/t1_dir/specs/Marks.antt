-- Marks: the low bits of the lines that a set shows, those of all cores side by side, so that one look
-- over a row tells that no core shows a line. A mark may be old: only what it rules out is certain.
use Rattle.std.specs.Prelude.{ℕ, ◌+◌, ◌*◌, ◌/◌, ◌%◌, ◌^◌, ◌<◌, ◌≤◌, ◌≡◌, ◌⊎◌, List, [], length, get_or, set, Option, Some, None}
use Rattle.t1_shape.specs.Slots.{Layout, InSet}

abbrev pub mark_of : ℕ → ℕ
mark_of line = line % 2 ^ 32

-- where a row has the mark of a core's slot: four slots to a core
abbrev pub mark_index : ℕ → ℕ → ℕ
mark_index core slot = 4 * core + slot % 4

abbrev pub mark_at : List (List ℕ) → ℕ → ℕ → ℕ
mark_at marks core slot = get_or (get_or marks (slot / 4) []) (mark_index core slot) 0

-- the marks with one more
abbrev pub marked_with : List (List ℕ) → ℕ → ℕ → ℕ → List (List ℕ)
marked_with marks core slot line = set marks (slot / 4) (set (get_or marks (slot / 4) []) (mark_index core slot) (mark_of line))

-- no place of a row has the mark, or none of a core but one
abbrev pub IsFreeRow : List (List ℕ) → ℕ → ℕ → Type 0
IsFreeRow marks row mark = (i : ℕ) → i < 32 → get_or (get_or marks row []) i 0 ≡ mark → ⊥

abbrev pub IsFreeRowBut : List (List ℕ) → ℕ → ℕ → ℕ → Type 0
IsFreeRowBut marks row own mark = (core way : ℕ) → core < 8 → way < 4 → (core ≡ own → ⊥) → get_or (get_or marks row []) (4 * core + way) 0 ≡ mark → ⊥

-- the slots of a set stand in one row, or in two
abbrev pub AreRows : ℕ → ℕ → Type 0
AreRows ways sets = ((ways ≡ 4) × (sets ≡ 128)) ⊎ ((ways ≡ 8) × (sets ≡ 64))

-- where a line's mark would stand there is another: for each slot of its set, and each core, or each but one
abbrev pub IsUnmarked : Layout → List (List ℕ) → ℕ → Type 0
IsUnmarked g marks line = (core slot : ℕ) → core < 8 → InSet g line slot → mark_at marks core slot ≡ mark_of line → ⊥

abbrev pub IsUnmarkedBut : Layout → List (List ℕ) → ℕ → ℕ → Type 0
IsUnmarkedBut g marks own line =
    (core slot : ℕ) → core < 8 → InSet g line slot → (core ≡ own → ⊥) → mark_at marks core slot ≡ mark_of line → ⊥

-- each line that is shown has its mark
pub record AreMarked (tags : List (List (Option ℕ))) (marks : List (List ℕ)) : Type 0 where
  pub few : length tags ≤ 8
  pub sets : length marks ≡ 128
  pub marked : (core slot line : ℕ) → get_or (get_or tags core []) slot None ≡ Some line → mark_at marks core slot ≡ mark_of line
