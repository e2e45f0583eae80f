-- What a write does to the bytes that a sink holds, where they are told. A sink may stop telling them, and never begins to.
use Rattle.std.specs.Prelude.{◌≡◌, ℕ, List, [], ◌++◌, take, ⊤, Option, None, Some, Result, MatchResult}

-- where bytes are told afterwards, they were told before and grew by these
abbrev pub Grew : Option (List ℕ) → Option (List ℕ) → List ℕ → Type 0
Grew old None bytes = ⊤
Grew None (Some new) bytes = ⊥
Grew (Some old) (Some new) bytes = new ≡ old ++ bytes

-- they grew by a front of these
abbrev pub GrewPart : Option (List ℕ) → Option (List ℕ) → List ℕ → Type 0
GrewPart old new bytes = (front : List ℕ) × (rest : List ℕ) × (bytes ≡ front ++ rest) × Grew old new front

-- a write appended the n first bytes of its piece at `Ok(n)`, and nothing at an error
abbrev pub WriteGrew : {E : Type 0} → Option (List ℕ) → Option (List ℕ) → Result ℕ E → List ℕ → Type 0
WriteGrew old new result piece = MatchResult result (λ n. Grew old new (take n piece)) (λ _. Grew old new [])
