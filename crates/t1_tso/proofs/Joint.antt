-- What the laws of the memory order use of a joint history, over its run.
use Rattle.std.proofs.Common.{◌≡◌, ℕ, ◌+◌, ◌*◌, ◌%◌, ◌^◌, ◌<◌, ◌≤◌, ◌⊎◌, inl, inr, length, Some, refl, sym, subst, arith}
use Rattle.std.specs.List.{slice_get}
use Rattle.t1_shape.specs.Slots.{slot_of}
use Rattle.t1_shape.proofs.Once.{FillsAt}
use Rattle.t1_packet.specs.declared.cache.Cache.{Cache}
use Rattle.t1_packet.specs.Ops.{op_addr}
use Rattle.t1_packet.specs.Caches.{layout, filled_line}
use Rattle.t1_event.specs.declared.item.Item.{Item}
use Rattle.t1_event.specs.declared.item.ItemKind.{ItemKind}
use Rattle.t1_event.specs.declared.item.ItemKind.TheVariants as kind
use Rattle.t1_event.specs.declared.commit.Commit.{Commit}
use Rattle.t1_event.specs.Kinds.{IsRead, IsWrite, IsAccess}
use Rattle.t1_event.specs.Order.{Act}
use Rattle.t1_event.specs.Log.{core_of}
use Rattle.t1_event.specs.Records.{op_of}
use Rattle.t1_event.specs.Kills.{kills_below}
use Rattle.t1_event.specs.Places.{Run, IsRam, Row}
use Rattle.t1_joint.specs.Shaped.{IsShaped, LiesRightly}
use Rattle.t1_joint.specs.JointHistory.{Names, Naming, ProgramOrder, shown_at}

-- ---- kinds

pub read_access : (k : ItemKind) → IsRead k → IsAccess k
read_access kind.Fetch r = refl
read_access kind.Load r = refl
read_access (kind.Atomic wrote) r = refl
read_access kind.Store r = cc
read_access kind.Membar r = cc
read_access kind.Flush r = cc

pub write_access : (k : ItemKind) → IsWrite k → IsAccess k
write_access kind.Store w = refl
write_access (kind.Atomic wrote) w = refl
write_access kind.Fetch w = cc
write_access kind.Load w = cc
write_access kind.Membar w = cc
write_access kind.Flush w = cc

-- a write is a store, or a read too
pub write_cases : (k : ItemKind) → IsWrite k → (k ≡ kind.Store) ⊎ IsRead k
write_cases kind.Store w = inl refl
write_cases (kind.Atomic wrote) w = inr refl
write_cases kind.Fetch w = cc
write_cases kind.Load w = cc
write_cases kind.Membar w = cc
write_cases kind.Flush w = cc

pub store_access : (k : ItemKind) → k ≡ kind.Store → IsAccess k
store_access k e = subst (λ (q : ItemKind). IsAccess q) (sym e) refl

-- ---- facts

pub record Joint (h : Run) : Type 0 where
  pub strands : 0 < h.strands
  pub traces : length h.traces ≡ h.cores * h.strands
  pub blocks : length h.image % 65536 ≡ 0
  pub small : length h.image < 2 ^ 39
  pub naming : Naming h
  pub seen : (n : ℕ) (c : Commit) → slice_get h.log n ≡ Some c → c.seen ≤ n
  pub program : ProgramOrder h
  pub rows : (x : Act h.traces) → IsAccess x.item.kind → Row h x x.item.kind
  -- of the commits: the plain op of the item; only an access to RAM fills; the kills that the directories ask
  -- for; and a fill goes where the directory shows the line, else to a way of the cache
  pub op : (n : ℕ) (c : Commit) (x : Act h.traces) → slice_get h.log n ≡ Some c → Names c n x → c.op ≡ op_of x.item c.way x.item.kind
  pub ram : (n : ℕ) (c : Commit) (way : ℕ) → slice_get h.log n ≡ Some c → c.way ≡ Some way → op_addr c.op < length h.image
  pub kills : (n : ℕ) (c : Commit) → slice_get h.log n ≡ Some c → c.kills ≡ kills_below h.shape (shown_at h n) (core_of h.strands c) c.evicted c.op h.cores
  pub fill : (n : ℕ) (c : Commit) (cache : Cache) (line way : ℕ) → slice_get h.log n ≡ Some c → filled_line cache c.op ≡ Some line → c.way ≡ Some way
      → FillsAt (layout h.shape cache) (slot_of (layout h.shape cache) (shown_at h n (core_of h.strands c) cache) line) line way
  pub shaped : (x : Act h.traces) → IsAccess x.item.kind → IsShaped (length h.image) x.item

-- an access that begins in RAM ends there
ends_there : (ram : ℕ) (x : Item) (k : ItemKind) → IsAccess k → ram < 2 ^ 39 → LiesRightly ram x k → x.addr < ram → x.addr + x.size ≤ ram
ends_there ram x kind.Fetch a small l below = l.1
ends_there ram x kind.Load a small (inl l) below = l
ends_there ram x kind.Load a small (inr io) below = absurd (omega (arith, io.0, small, below))
ends_there ram x kind.Store a small (inl l) below = l
ends_there ram x kind.Store a small (inr io) below = absurd (omega (arith, io.0, small, below))
ends_there ram x (kind.Atomic wrote) a small l below = l
ends_there ram x kind.Membar a small l below = cc
ends_there ram x kind.Flush a small l below = cc

pub ram_ends : (h : Run) → Joint h → (x : Act h.traces) → IsAccess x.item.kind → IsRam h x.item → x.item.addr + x.item.size ≤ length h.image
ram_ends h j x a below = ends_there (length h.image) x.item x.item.kind a j.small (j.shaped x a).lies below
