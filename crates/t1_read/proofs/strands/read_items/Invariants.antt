use Rattle.std.proofs.Common.{◌≡◌, ◌^◌, ◌≤◌, ◌++◌, ℕ, List, drop, length, All}
use Rattle.t1_event.specs.declared.item.Item.{Item}
use Rattle.t1_log.specs.Texts.{lines_from}
use Rattle.t1_log.specs.Log.{item_line_of}
use Rattle.t1_take.specs.Taken.{Reads}
use Rattle.t1_take.specs.Items.{IsGoodItem}
use Rattle.t1_read.specs.Exact.{NextIsNot}
use Rattle.t1_take.proofs.Leaving.{IsLeft}
use Rattle.t1_read.proofs.strands.read_items.Given as goal

abbrev pub invariant-loop-number : goal.invariant-loop-number
invariant-loop-number l = record {
  good : All (IsGoodItem l.ram) l.items;
  count : length l.items ≡ l.number;
  forward : l.number ≤ l.lines.at;
  reads : Reads l.text l.initial.lines.at l.lines.at (lines_from (item_line_of l.strand) 0 l.items);
  finds : (all : List Item) (rest : List ℕ) → l.ram ≤ 2 ^ 40 → All (IsGoodItem l.ram) all → NextIsNot 105 rest → drop l.initial.lines.at l.text ≡ lines_from (item_line_of l.strand) 0 all ++ rest
      → IsLeft (item_line_of l.strand) l.text l.lines.at l.items all rest;
}
