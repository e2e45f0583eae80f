-- Positions of items in an order, counted from 1.
use Rattle.std.specs.Prelude.{ℕ, suc, ◌≡◌, ◌<◌, List, [], length, replicate, Some}
use Rattle.std.specs.List.{slice_get}
use Rattle.std.proofs.Common.{get_or}
use Rattle.t1_event.specs.declared.item.Item.{Item}
use Rattle.t1_event.specs.declared.item.ItemKind.TheVariants.{Fetch}
use Rattle.t1_event.specs.declared.item.How.TheVariants.{Unplaced}
use Rattle.t1_event.specs.declared.report.Place.{Place}
use Rattle.t1_event.specs.Kinds.{IsAccess}
use Rattle.t1_check.specs.Places.{NamesAccess}
use Rattle.t1_check.specs.Table.{cell}

-- what stands past the end of a list
abbrev pub no_place : Place
no_place = record { strand = 0; item = 0 }

abbrev pub no_item : Item
no_item = record { kind = Fetch; addr = 0; size = 0; got = 0; put = 0; how = Unplaced }

abbrev pub item_of : List Item → ℕ → Item
item_of items number = get_or items number no_item

-- the item that a line of the order names
abbrev pub item_in : List (List Item) → List Place → ℕ → Item
item_in traces order line = item_of (get_or traces (get_or order line no_place).strand []) (get_or order line no_place).item

-- a number for each item of each strand
pub record HasCells (traces : List (List Item)) (table : List (List ℕ)) : Type 0 where
  pub rows : length table ≡ length traces
  pub cells : (strand : ℕ) → length (get_or table strand []) ≡ length (get_or traces strand [])

-- for the first n strands a 0 for each item
pub record IsBlank (traces : List (List Item)) (table : List (List ℕ)) (n : ℕ) : Type 0 where
  pub rows : length table ≡ n
  pub zeros : (strand : ℕ) → strand < n → get_or table strand [] ≡ replicate (length (get_or traces strand [])) 0

-- the positions of the first lines of an order, and 0 where none of them stands
pub record IsMarked (traces : List (List Item)) (order : List Place) (lines : ℕ) (table : List (List ℕ)) : Type 0 where
  pub has : HasCells traces table
  pub found : (strand item line : ℕ) → cell table strand item ≡ suc line → (line < lines) × (slice_get order line ≡ Some (record { strand = strand; item = item }))
  pub kept : (line : ℕ) (p : Place) → line < lines → slice_get order line ≡ Some p → cell table p.strand p.item ≡ suc line
  pub access : (line : ℕ) (p : Place) → line < lines → slice_get order line ≡ Some p → NamesAccess traces p

-- the accesses among the first items of a strand have positions
abbrev pub ArePlaced : List Item → List ℕ → ℕ → Type 0
ArePlaced items row n = (number : ℕ) (item : Item) → number < n → slice_get items number ≡ Some item → IsAccess item.kind → get_or row number 0 ≡ 0 → ⊥

-- the first access of a strand without a position
pub record IsFirstUnplaced (items : List Item) (row : List ℕ) (number : ℕ) : Type 0 where
  pub item : Item
  pub is : slice_get items number ≡ Some item
  pub access : IsAccess item.kind
  pub none : get_or row number 0 ≡ 0
  pub first : ArePlaced items row number

abbrev pub AllPlaced : List (List Item) → List (List ℕ) → ℕ → Type 0
AllPlaced traces table n = (strand : ℕ) → strand < n → ArePlaced (get_or traces strand []) (get_or table strand []) (length (get_or traces strand []))

-- the least access without a position
pub record IsFirstMissing (traces : List (List Item)) (table : List (List ℕ)) (p : Place) : Type 0 where
  pub here : IsFirstUnplaced (get_or traces p.strand []) (get_or table p.strand []) p.item
  pub before : AllPlaced traces table p.strand

-- an order that lists each access, with its positions
pub record IsTold (traces : List (List Item)) (order : List Place) (table : List (List ℕ)) : Type 0 where
  pub marked : IsMarked traces order (length order) table
  pub placed : AllPlaced traces table (length traces)
