-- Reads that got what their sources give, and those that did not.
use Rattle.std.specs.Prelude.{ℕ, suc, zero, ◌≡◌, ◌<◌, ◌+◌, ◌⊎◌, List, length, Option, Some, None}
use Rattle.std.proofs.Common.{get_or}
use Rattle.t1_num.specs.Memory.{byte_of}
use Rattle.t1_event.specs.declared.item.Item.{Item}
use Rattle.t1_event.specs.declared.report.Place.{Place}
use Rattle.t1_event.specs.Kinds.{IsRead}
use Rattle.t1_event.specs.Items.{IsIo}
use Rattle.t1_check.specs.Positions.{no_place, item_in}
use Rattle.t1_check.specs.Sources.{source_at, byte_from}

-- the byte of the read on a line that has this offset is that of its source, or lies outside the image
abbrev pub IsRightByteAt : List ℕ → List (List Item) → List Place → List (List ℕ) → ℕ → ℕ → Type 0
IsRightByteAt image traces order table line offset =
    (item_in traces order line).addr + offset < length image
    → byte_of (item_in traces order line).got (item_in traces order line).size offset
    ≡ byte_from image traces order (source_at traces order table line ((item_in traces order line).addr + offset)) ((item_in traces order line).addr + offset)

abbrev pub AreRightBytes : List ℕ → List (List Item) → List Place → List (List ℕ) → ℕ → ℕ → Type 0
AreRightBytes image traces order table line n = (offset : ℕ) → offset < n → IsRightByteAt image traces order table line offset

-- what stands on a line is no read, or got what it should
pub record IsRightAt (image : List ℕ) (traces : List (List Item)) (order : List Place) (table : List (List ℕ)) (line : ℕ) : Type 0 where
  pub memory : IsRead (item_in traces order line).kind → AreRightBytes image traces order table line (item_in traces order line).size
  pub io : IsRead (item_in traces order line).kind → IsIo (item_in traces order line).addr → (item_in traces order line).got ≡ 0

abbrev pub AreRight : List ℕ → List (List Item) → List Place → List (List ℕ) → ℕ → Type 0
AreRight image traces order table n = (line : ℕ) → line < n → IsRightAt image traces order table line

-- the lowest wrong byte of the read on a line, and its source
pub record IsWrongByteAt (image : List ℕ) (traces : List (List Item)) (order : List Place) (table : List (List ℕ)) (line source : ℕ) : Type 0 where
  pub offset : ℕ
  pub within : offset < (item_in traces order line).size
  pub wrong : IsRightByteAt image traces order table line offset → ⊥
  pub memory : (item_in traces order line).addr + offset < length image
  pub source_is : source_at traces order table line ((item_in traces order line).addr + offset) ≡ source
  pub lowest : AreRightBytes image traces order table line offset

-- a read of I/O that got something else than 0, whose bytes of memory are right
pub record IsWrongIoAt (image : List ℕ) (traces : List (List Item)) (order : List Place) (table : List (List ℕ)) (line source : ℕ) : Type 0 where
  pub io : IsIo (item_in traces order line).addr
  pub wrong : (item_in traces order line).got ≡ 0 → ⊥
  pub right : AreRightBytes image traces order table line (item_in traces order line).size
  pub image_is : source ≡ 0

-- what stands on a line is a read that did not get what it should
abbrev pub IsWrongAt : List ℕ → List (List Item) → List Place → List (List ℕ) → ℕ → ℕ → Type 0
IsWrongAt image traces order table line source =
    IsRead (item_in traces order line).kind × (IsWrongByteAt image traces order table line source ⊎ IsWrongIoAt image traces order table line source)

-- the place of the write at a position, none for the image
abbrev pub place_of_source : List Place → ℕ → Option Place
place_of_source order zero = None
place_of_source order (suc line) = Some (get_or order line no_place)

-- the first wrong read, and its source
pub record IsWrongLine (image : List ℕ) (traces : List (List Item)) (order : List Place) (table : List (List ℕ)) (first : Place) (second : Option Place) : Type 0 where
  pub line : ℕ
  pub source : ℕ
  pub within : line < length order
  pub first_is : first ≡ get_or order line no_place
  pub second_is : second ≡ place_of_source order source
  pub before : AreRight image traces order table line
  pub wrong : IsWrongAt image traces order table line source
