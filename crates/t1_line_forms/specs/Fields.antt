-- Fields of a line, one after another.
use Rattle.std.specs.Prelude.{ℕ, ◌≡◌, ◌*◌, ◌⊎◌, List, [], ◌∷◌, ◌++◌, codes}
use Rattle.t1_line_forms.specs.Digits.{IsDecimal, EndsDecimal, number_of, IsHex}

-- a field: a word, a decimal number, so many hexadecimal digits, how many bytes the values of this line
-- have, a value, the letter of a cache
pub data Field : Type 0 where
  Word : List ℕ → Field
  Number : Field
  Hex : ℕ → Field
  Size : Field
  Value : Field
  Cache : Field

-- this text is the field, in a line whose size has these digits: a value has two digits for each byte, and so a
-- size of 0, or of more bytes than the line has digits for, has no form
abbrev pub IsField : List ℕ → Field → List ℕ → Type 0
IsField size (Word word) text = text ≡ word
IsField size Number text = IsDecimal text
IsField size (Hex count) text = IsHex count text
IsField size Size text = IsDecimal text
IsField size Value text = IsHex (2 * number_of size) text
IsField size Cache text = (text ≡ codes "d") ⊎ (text ≡ codes "i")

-- a decimal number goes on to the last digit that stands there
abbrev pub EndsField : Field → List ℕ → Type 0
EndsField (Word word) rest = Unit {0}
EndsField Number rest = EndsDecimal rest
EndsField (Hex count) rest = Unit {0}
EndsField Size rest = EndsDecimal rest
EndsField Value rest = Unit {0}
EndsField Cache rest = Unit {0}

-- a text is a field and this rest
abbrev pub Begins : List ℕ → Field → List ℕ → List ℕ → List ℕ → Type 0
Begins size field text piece rest = (text ≡ piece ++ rest) × IsField size field piece × EndsField field rest

-- the digits of the size, behind a field
abbrev pub size_after : List ℕ → Field → List ℕ → List ℕ
size_after size (Word word) piece = size
size_after size Number piece = size
size_after size (Hex count) piece = size
size_after size Size piece = piece
size_after size Value piece = size
size_after size Cache piece = size

-- a text is these fields, one after another, and this rest
abbrev pub Leads : List ℕ → List Field → List ℕ → List ℕ → Type 0
Leads size [] text rest = text ≡ rest
Leads size (field ∷ fields) text rest =
    (piece : List ℕ) × (more : List ℕ) × Begins size field text piece more × Leads (size_after size field piece) fields more rest

-- a text is these fields, and then ends
abbrev pub HasFields : List Field → List ℕ → Type 0
HasFields fields text = Leads [] fields text []
