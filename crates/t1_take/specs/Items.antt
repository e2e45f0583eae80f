-- The items and the ends of strands that a log can have.
use Rattle.std.specs.Prelude.{ℕ, ◌≡◌, ◌*◌, ◌%◌, ◌^◌, ◌<◌, ◌≤◌, ◌⊎◌, Bool, true, false, IsTrue, length, All, Option, Some, None}
use Rattle.t1_num.specs.Memory.{IsSize}
use Rattle.t1_event.specs.declared.item.Item.{Item}
use Rattle.t1_event.specs.declared.item.ItemKind.{ItemKind}
use Rattle.t1_event.specs.declared.item.ItemKind.TheVariants.{Fetch, Load, Store, Atomic, Membar, Flush}
use Rattle.t1_event.specs.declared.item.How.{How}
use Rattle.t1_event.specs.declared.item.How.TheVariants as how
use Rattle.t1_event.specs.declared.trace.Trace.{Trace}
use Rattle.t1_event.specs.declared.trace.Ending.{Ending}
use Rattle.t1_event.specs.declared.trace.Ending.TheVariants.{Halted, Fault, Spent}
use Rattle.t1_event.specs.Kinds.{is_read, is_access, is_changing}
use Rattle.t1_event.specs.Items.{IsIo}
use Rattle.t1_event.specs.Printable.{FitsDigits}

-- the size of an access of this kind; of a membar its mask
abbrev pub IsSizeOf : ItemKind → ℕ → Type 0
IsSizeOf Fetch size = size ≡ 4
IsSizeOf Load size = IsSize size
IsSizeOf Store size = IsSize size
IsSizeOf (Atomic wrote) size = IsSize size
IsSizeOf Membar mask = mask ≤ 0x7f
IsSizeOf Flush size = size ≡ 0

-- an address that an access of this kind can have: fetches and atomics reach RAM alone
abbrev pub IsReached : ℕ → ItemKind → ℕ → Type 0
IsReached ram Fetch addr = addr < ram
IsReached ram (Atomic wrote) addr = addr < ram
IsReached ram Load addr = (addr < ram) ⊎ IsIo addr
IsReached ram Store addr = (addr < ram) ⊎ IsIo addr
IsReached ram Membar addr = addr ≡ 0
IsReached ram Flush addr = addr ≡ 0

-- a value of so many bytes where the kind has one, and else 0
abbrev pub IsValueOf : Bool → ℕ → ℕ → Type 0
IsValueOf true size value = FitsDigits (2 * size) value
IsValueOf false size value = value ≡ 0

-- an access has a place, whose numbers have 32 bits, and a barrier has none
abbrev pub IsPlaceOf : Bool → How → Type 0
IsPlaceOf true how.Unplaced = ⊥
IsPlaceOf true (how.Forward time) = time < 2 ^ 32
IsPlaceOf true (how.Hit time) = time < 2 ^ 32
IsPlaceOf true (how.Commit index seen) = (index < 2 ^ 32) × (seen < 2 ^ 32)
IsPlaceOf false place = place ≡ how.Unplaced

pub record IsGoodItem (ram : ℕ) (item : Item) : Type 0 where
  pub size : IsSizeOf item.kind item.size
  pub aligned : IsTrue (is_access item.kind) → item.addr % item.size ≡ 0
  pub reached : IsReached ram item.kind item.addr
  pub got : IsValueOf (is_read item.kind) item.size item.got
  pub put : IsValueOf (is_changing item.kind) item.size item.put
  pub place : IsPlaceOf (is_access item.kind) item.how

-- a strand has ended, by a trap of a type up to 1ff if by one
abbrev pub IsGoodEnd : Option Ending → Type 0
IsGoodEnd None = ⊥
IsGoodEnd (Some Halted) = Unit {0}
IsGoodEnd (Some Spent) = Unit {0}
IsGoodEnd (Some (Fault number)) = number ≤ 0x1ff

pub record IsGoodTrace (ram : ℕ) (trace : Trace) : Type 0 where
  pub items : All (IsGoodItem ram) trace.items
  pub count : length trace.items ≤ 2 ^ 32
  pub units : trace.units < 2 ^ 32
  pub pc : trace.pc < 2 ^ 64
  pub ended : IsGoodEnd trace.ending
