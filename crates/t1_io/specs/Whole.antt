-- How many bytes came from a source, by the bytes that it had left before and after, where it tells them.
use Rattle.std.specs.Prelude.{◌≡◌, ◌+◌, ◌<◌, ◌≤◌, ℕ, List, length, take, drop, Option, Result, MatchResult}
use Rattle.std.specs.Io.KnownBytes.{Consumes, IsAtEnd, Keeps}

-- more than this many came
abbrev pub GaveMore : Option (List ℕ) → Option (List ℕ) → ℕ → Type 0
GaveMore old new most = (bytes : List ℕ) × Consumes old new bytes × (most < length bytes)

-- no more than this many came
abbrev pub GaveAtMost : Option (List ℕ) → Option (List ℕ) → ℕ → Type 0
GaveAtMost old new most = (bytes : List ℕ) × Consumes old new bytes × (length bytes ≤ most)

-- a read into a list from a place on: what stands before the place stays, `Ok(n)` puts the n bytes that came there,
-- none only at the end, and an error takes none
abbrev pub ReadsAt : {E : Type 0} → Option (List ℕ) → Option (List ℕ) → Result ℕ E → ℕ → List ℕ → List ℕ → Type 0
ReadsAt old new result at before after =
    (length after ≡ length before) × (take at after ≡ take at before)
    × MatchResult result (λ n. (at + n ≤ length after) × Consumes old new (take n (drop at after)) × (n ≡ 0 → IsAtEnd new)) (λ _. Keeps old new)
