-- Memory orders and total store order (SPARC V8, appendix K; SPARC V9, 8.4 and appendix D).
use Rattle.std.specs.Prelude.{ℕ, ◌≡◌, ◌<◌, ◌⊎◌, List, [], length, Some, slice_index}
use Rattle.std.specs.List.{slice_get}
use Rattle.std.proofs.Common.{get_or}
use Rattle.t1_event.specs.declared.item.Item.{Item}
use Rattle.t1_event.specs.declared.item.ItemKind.TheVariants.{Fetch}
use Rattle.t1_event.specs.declared.report.Place.{Place}
use Rattle.t1_event.specs.Kinds.{IsRead, IsWrite, IsAccess, IsChanging}
use Rattle.t1_event.specs.Items.{Covers, byte_got, byte_put, IsIo, IsBarrier}

-- an item that stands in the traces, at a number of a strand's program order
pub record Act (traces : List (List Item)) : Type 0 where
  pub strand : ℕ
  pub number : ℕ
  pub item : Item
  pub stands : slice_get (get_or traces strand []) number ≡ Some item

abbrev pub place_of : {traces : List (List Item)} → Act traces → Place
place_of x = record { strand = x.strand; item = x.number }

-- program order: x is earlier than y in one strand
pub record Earlier {traces : List (List Item)} (x y : Act traces) : Type 0 where
  pub strand : x.strand ≡ y.strand
  pub number : x.number < y.number

-- memory order: x stands before y in the list
pub record Before {traces : List (List Item)} (order : List Place) (x y : Act traces) : Type 0 where
  pub first : ℕ
  pub second : ℕ
  pub ascends : first < second
  pub at_first : slice_get order first ≡ Some (place_of x)
  pub at_second : slice_get order second ≡ Some (place_of y)

-- a memory order: it names each access once, and nothing else
pub record IsListing (traces : List (List Item)) (order : List Place) : Type 0 where
  pub all : (x : Act traces) → IsAccess x.item.kind → (k : ℕ) × (slice_get order k ≡ Some (place_of x))
  pub only : (k : ℕ) (p : Place) → slice_get order k ≡ Some p → (x : Act traces) × IsAccess x.item.kind × (place_of x ≡ p)
  pub once : (j k : ℕ) (p : Place) → slice_get order j ≡ Some p → slice_get order k ≡ Some p → j ≡ k

-- a read stands before each later access of its strand
abbrev pub LoadOp : List (List Item) → List Place → Type 0
LoadOp traces order = (x y : Act traces) → Earlier x y → IsRead x.item.kind → IsAccess y.item.kind → Before order x y

-- a write stands before each later write of its strand
abbrev pub StoreStore : List (List Item) → List Place → Type 0
StoreStore traces order = (x y : Act traces) → Earlier x y → IsWrite x.item.kind → IsWrite y.item.kind → Before order x y

-- a write before a barrier stands before each read after it
abbrev pub Barrier : List (List Item) → List Place → Type 0
Barrier traces order =
    (x b y : Act traces) → Earlier x b → Earlier b y → IsWrite x.item.kind → IsBarrier b.item → IsRead y.item.kind → Before order x y

-- a write of a byte that a read may see: it stands before the read, or, for a load or an atomic,
-- it is earlier in the read's own strand
pub record IsCandidate {traces : List (List Item)} (order : List Place) (read : Act traces) (addr : ℕ) (write : Act traces) : Type 0 where
  pub changes : IsChanging write.item.kind
  pub covers : Covers write.item addr
  pub seen : Before order write read ⊎ ((read.item.kind ≡ Fetch → ⊥) × Earlier write read)

-- the candidate that stands last in the memory order
pub record IsLastWrite {traces : List (List Item)} (order : List Place) (read : Act traces) (addr : ℕ) (write : Act traces) : Type 0 where
  pub candidate : IsCandidate order read addr write
  pub last : (other : Act traces) → IsCandidate order read addr other → (place_of other ≡ place_of write) ⊎ Before order other write

-- each byte of RAM that a read got is that of its last write, or, with no such write, the image's;
-- a read of I/O got 0
pub record Value (image : List ℕ) (traces : List (List Item)) (order : List Place) : Type 0 where
  pub memory : (read : Act traces) (addr : ℕ) → IsRead read.item.kind → addr < length image → Covers read.item addr
      → ((write : Act traces) × IsLastWrite order read addr write × (byte_got read.item addr ≡ byte_put write.item addr))
      ⊎ (((write : Act traces) → IsCandidate order read addr write → ⊥) × (byte_got read.item addr ≡ slice_index image addr))
  pub io : (read : Act traces) → IsRead read.item.kind → IsIo read.item.addr → read.item.got ≡ 0

-- the memory order obeys total store order over these traces, from this image on
pub record ObeysTso (image : List ℕ) (traces : List (List Item)) (order : List Place) : Type 0 where
  pub load_op : LoadOp traces order
  pub store_store : StoreStore traces order
  pub value : Value image traces order
  pub barrier : Barrier traces order
