-- Which reports can be checked.
use Rattle.std.specs.Prelude.{ℕ, ◌≡◌, ◌+◌, ◌%◌, ◌^◌, ◌≤◌, List, [], length, Some}
use Rattle.std.specs.List.{slice_get}
use Rattle.std.proofs.Common.{get_or}
use Rattle.t1_event.specs.declared.item.Item.{Item}
use Rattle.t1_event.specs.declared.report.Report.{Report}
use Rattle.t1_event.specs.Kinds.{IsAccess}
use Rattle.t1_event.specs.Items.{items_of}

-- an access lies in one word of eight bytes
abbrev pub LiesInWord : Item → Type 0
LiesInWord item = IsAccess item.kind → item.addr % 8 + item.size ≤ 8

abbrev pub AreInWord : List Item → Type 0
AreInWord items = (number : ℕ) (item : Item) → slice_get items number ≡ Some item → LiesInWord item

abbrev pub AreInWords : List (List Item) → Type 0
AreInWords traces = (strand : ℕ) → AreInWord (get_or traces strand [])

-- each place has a number of a strand of 8 bits, and a number of an item of 32
pub record AreCounted (traces : List (List Item)) : Type 0 where
  pub strands : length traces ≤ 256
  pub items : (strand : ℕ) → length (get_or traces strand []) ≤ 2 ^ 32

pub record CanBeChecked (report : Report) : Type 0 where
  pub counted : AreCounted (items_of report.traces)
  pub words : AreInWords (items_of report.traces)
