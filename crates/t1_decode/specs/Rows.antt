-- Tables by number.
use Rattle.std.specs.Prelude.{ℕ, ◌+◌, ◌==◌, if◌then◌else◌, List, [], ◌∷◌, Option, Some, None}

-- what stands at a number
abbrev pub row_of : {A : Type 0} → ℕ → List (ℕ × A) → Option A
row_of n [] = None
row_of n (row ∷ rows) = if n == row.0 then Some row.1 else row_of n rows

-- the same rows at numbers that are greater by k
abbrev pub moved : {A : Type 0} → ℕ → List (ℕ × A) → List (ℕ × A)
moved k [] = []
moved k (row ∷ rows) = (k + row.0, row.1) ∷ moved k rows

-- what f makes of a row, or what another table gives where there is none
abbrev pub or_else : {A B : Type 0} → Option A → (A → B) → B → B
or_else None f other = other
or_else (Some row) f other = f row
