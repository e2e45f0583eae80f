-- What stands between two places of a text.
use Rattle.std.specs.Prelude.{ℕ, ◌≡◌, ◌++◌, false, List, [], ◌∷◌, drop, IsTrue}
use Rattle.std.specs.Char.{is_ascii_digit}
use Rattle.t1_take.specs.declared.cursor.Cursor.{Cursor}

-- a text reads so from a place on, up to another
abbrev pub Reads : List ℕ → ℕ → ℕ → List ℕ → Type 0
Reads text start end piece = drop start text ≡ piece ++ drop end text

-- what was taken so far is good: of its form and in its ranges
abbrev pub IsGood : Cursor → Type 0
IsGood cursor = IsTrue cursor.good

-- where a line is good after a field was taken, it was so before, and the field stands there
pub record Takes (text : List ℕ) (old new : Cursor) (field : List ℕ) : Type 0 where
  pub before : IsGood new → IsGood old
  pub reads : IsGood new → Reads text old.at new.at field

-- ---- the other way: what stands in a text is taken

-- no digit stands next
abbrev pub EndsDigits : List ℕ → Type 0
EndsDigits [] = Unit {0}
EndsDigits (byte ∷ bytes) = is_ascii_digit byte ≡ false

-- this is left of the text, and a line that was good is good
pub record Leaves (text : List ℕ) (old new : Cursor) (rest : List ℕ) : Type 0 where
  pub good : IsGood old → IsGood new
  pub rest_is : drop new.at text ≡ rest

-- where a field stands next, it is taken
abbrev pub Finds : List ℕ → Cursor → Cursor → List ℕ → Type 0
Finds text old new field = (rest : List ℕ) → drop old.at text ≡ field ++ rest → Leaves text old new rest
