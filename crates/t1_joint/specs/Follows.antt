-- Traces that follow the instruction table.
use Rattle.std.specs.Prelude.{ℕ, ◌≡◌, ◌^◌, ◌==◌, nat_lt, true, false, List, [], ◌∷◌, ◌++◌, map, Option, Some, None}
use Rattle.t1_state.specs.declared.strand.Strand.{Strand}
use Rattle.t1_state.specs.Interrupts.{due_of}
use Rattle.t1_event.specs.declared.item.Item.{Item}
use Rattle.t1_event.specs.declared.trace.Ending.{Ending}
use Rattle.t1_event.specs.declared.trace.Trace.{Trace}
use Rattle.t1_event.specs.Items.{fetch_item, reads_of, unplaced}
use Rattle.t1_joint.specs.Replay.{End, Running, Starved, Done, Replay, Bounds, units, started, is_fetchable}

-- a replay that has stopped
abbrev pub IsStopped : End → Type 0
IsStopped Running = ⊥
IsStopped Starved = Unit {0}
IsStopped (Done e) = Unit {0}

-- how a replay that has stopped ended: one that lacks a value has no ending
abbrev pub ending_of : End → Option Ending
ending_of Running = None
ending_of Starved = None
ending_of (Done e) = Some e

-- a trace is what a replay came to: the same items, but for their places, and all values were read
pub record IsTraceOf (trace : Trace) (r : Replay) : Type 0 where
  pub stopped : IsStopped r.end
  pub items : r.items ≡ map unplaced trace.items
  pub units : r.strand.units ≡ trace.units
  pub pc : r.strand.pc ≡ trace.pc
  pub ending : ending_of r.end ≡ trace.ending
  pub used : r.reads ≡ []

-- a trace follows the table: it is the replay of its own reads from the start state
pub record Follows (b : Bounds) (from : Strand) (trace : Trace) : Type 0 where
  pub count : ℕ
  pub is : IsTraceOf trace (units b count (started from (reads_of trace.items)))

-- the replay so far: after some units it stands here, and no value is left
pub record StandsAt (b : Bounds) (from s : Strand) (reads : List ℕ) (items : List Item) (end : End) : Type 0 where
  pub count : ℕ
  pub is : units b count (started from reads) ≡ record { strand = s; items = items; reads = []; end = end }

-- in the midst of a unit: its word came, and nothing since
pub record HasBegun (b : Bounds) (from s : Strand) (items : List Item) (word : ℕ) : Type 0 where
  pub before : List Item
  pub stands : StandsAt b from s (reads_of before) before Running
  pub items_are : items ≡ before ++ fetch_item s.pc word ∷ []
  pub unspent : (s.units == b.budget) ≡ false
  pub not_due : due_of s ≡ None
  pub in_ram : is_fetchable b.ram s.pc ≡ true
  pub fits : nat_lt word (2 ^ 32) ≡ true
