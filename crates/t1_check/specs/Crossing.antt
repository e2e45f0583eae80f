-- Bounds that lie above later goals.
use Rattle.std.specs.Prelude.{ℕ, suc, ◌<◌, ◌≤◌, ◌-◌, ◌+◌, ◌^◌, drop, min, List, [], ◌∷◌, length, Option, Some, None, nat_lt, if◌then◌else◌}
use Rattle.std.proofs.Common.{get_or}

-- the least number of a list, or the greatest that there is
abbrev pub least : List ℕ → ℕ
least [] = 2 ^ 64 - 1
least (goal ∷ goals) = min (least goals) goal

-- the first place, counted from a number on, whose bound lies above a later goal
abbrev pub crossed_from : ℕ → List ℕ → List ℕ → Option ℕ
crossed_from at [] goals = None
crossed_from at (bound ∷ bounds) [] = None
crossed_from at (bound ∷ bounds) (goal ∷ goals) = if nat_lt (least goals) bound then Some at else crossed_from (suc at) bounds goals

abbrev pub IsUncrossed : List ℕ → List ℕ → Type 0
IsUncrossed bounds goals = (i j : ℕ) → i < j → j < length goals → get_or bounds i 0 ≤ get_or goals j 0

-- the first place whose bound lies above a later goal
pub record IsCrossedAt (bounds goals : List ℕ) (at : ℕ) : Type 0 where
  pub within : at < length goals
  pub low : least (drop (at + 1) goals) < get_or bounds at 0
  pub first : (i j : ℕ) → i < at → i < j → j < length goals → get_or bounds i 0 ≤ get_or goals j 0

-- the first place from there on whose goal lies below a bound
pub record IsFirstBelow (goals : List ℕ) (start bound at : ℕ) : Type 0 where
  pub after : start ≤ at
  pub within : at < length goals
  pub below : get_or goals at 0 < bound
  pub first : (j : ℕ) → start ≤ j → j < at → bound ≤ get_or goals j 0

-- the first place whose bound lies above a later goal, and the first such goal
pub record IsFirstCrossing (bounds goals : List ℕ) (first second : ℕ) : Type 0 where
  pub goal : IsFirstBelow goals (first + 1) (get_or bounds first 0) second
  pub least : (i j : ℕ) → i < first → i < j → j < length goals → get_or bounds i 0 ≤ get_or goals j 0
