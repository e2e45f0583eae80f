-- The shape of items: sizes, alignment, and where an access may lie.
use Rattle.std.specs.Prelude.{ℕ, ◌≡◌, ◌+◌, ◌%◌, ◌≤◌, ◌⊎◌, Some}
use Rattle.std.specs.List.{slice_get}
use Rattle.t1_state.specs.declared.strand.Strand.{Strand}
use Rattle.t1_num.specs.Memory.{IsSize}
use Rattle.t1_event.specs.declared.item.Item.{Item}
use Rattle.t1_event.specs.declared.item.ItemKind.{ItemKind}
use Rattle.t1_event.specs.declared.item.ItemKind.TheVariants.{Fetch, Load, Store, Atomic, Membar, Flush}
use Rattle.t1_event.specs.declared.trace.Trace.{Trace}
use Rattle.t1_event.specs.Kinds.{IsAccess}
use Rattle.t1_event.specs.Items.{IsIo}
use Rattle.t1_joint.specs.Replay.{Bounds}
use Rattle.t1_joint.specs.Follows.{Follows}

-- all of its bytes lie in RAM
abbrev pub IsInRam : ℕ → Item → Type 0
IsInRam ram item = item.addr + item.size ≤ ram

-- fetches and atomics lie in RAM, loads and stores in RAM or I/O space
abbrev pub LiesRightly : ℕ → Item → ItemKind → Type 0
LiesRightly ram item Fetch = (item.size ≡ 4) × IsInRam ram item
LiesRightly ram item Load = IsInRam ram item ⊎ IsIo item.addr
LiesRightly ram item Store = IsInRam ram item ⊎ IsIo item.addr
LiesRightly ram item (Atomic wrote) = IsInRam ram item
LiesRightly ram item Membar = Unit {0}
LiesRightly ram item Flush = Unit {0}

-- an access of a size that there is, aligned, where it may lie
pub record IsShaped (ram : ℕ) (item : Item) : Type 0 where
  pub size : IsSize item.size
  pub aligned : item.addr % item.size ≡ 0
  pub lies : LiesRightly ram item item.kind

-- each access of a trace that follows the table is shaped
abbrev pub ItemsAreShaped : Type 0
ItemsAreShaped =
    (b : Bounds) (from : Strand) (trace : Trace) (number : ℕ) (item : Item) → b.ram % 65536 ≡ 0 → Follows b from trace
    → slice_get trace.items number ≡ Some item → IsAccess item.kind → IsShaped b.ram item
