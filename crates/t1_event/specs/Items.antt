-- Items: the accesses and barriers of a trace, their bytes, and the values that a trace read.
use Rattle.std.specs.Prelude.{ℕ, ◌≡◌, ◌+◌, ◌-◌, ◌^◌, ◌<◌, ◌≤◌, ◌⊎◌, bit_and, List, [], ◌∷◌, ◌++◌, map, if◌then◌else◌}
use Rattle.t1_num.specs.Memory.{byte_of}
use Rattle.t1_event.specs.declared.item.Item.{Item}
use Rattle.t1_event.specs.declared.item.ItemKind.{ItemKind}
use Rattle.t1_event.specs.declared.item.ItemKind.TheVariants.{Fetch, Load, Store, Membar, Flush}
use Rattle.t1_event.specs.declared.item.How.TheVariants.{Unplaced}
use Rattle.t1_event.specs.declared.trace.Trace.{Trace}
use Rattle.t1_event.specs.Kinds.{is_read}

-- an access that has no place yet: its kind, address, size, the value got, the value put
abbrev pub access_item : ItemKind → ℕ → ℕ → ℕ → ℕ → Item
access_item kind addr size got put = record { kind = kind; addr = addr; size = size; got = got; put = put; how = Unplaced }

-- the fetch of a word at an address
abbrev pub fetch_item : ℕ → ℕ → Item
fetch_item pc word = access_item Fetch pc 4 word 0

abbrev pub load_item : ℕ → ℕ → ℕ → Item
load_item addr size got = access_item Load addr size got 0

abbrev pub store_item : ℕ → ℕ → ℕ → Item
store_item addr size put = access_item Store addr size 0 put

-- a membar, which keeps its mask in the size
abbrev pub membar_item : ℕ → Item
membar_item mask = access_item Membar 0 mask 0 0

abbrev pub flush_item : Item
flush_item = access_item Flush 0 0 0 0

-- an item without its place
abbrev pub unplaced : Item → Item
unplaced item = record item { how = Unplaced }

-- the values that the reads among these items got, in order
unfoldable pub reads_of : List Item → List ℕ
reads_of [] = []
reads_of (item ∷ items) = (if is_read item.kind then item.got ∷ [] else []) ++ reads_of items

-- the items of each strand
abbrev pub items_of : List Trace → List (List Item)
items_of traces = map (λ trace. trace.items) traces

-- a byte of memory that an access covers
abbrev pub Covers : Item → ℕ → Type 0
Covers item addr = (item.addr ≤ addr) × (addr < item.addr + item.size)

-- the byte that an access got at an address, and the one that it put there
abbrev pub byte_got : Item → ℕ → ℕ
byte_got item addr = byte_of item.got item.size (addr - item.addr)

abbrev pub byte_put : Item → ℕ → ℕ
byte_put item addr = byte_of item.put item.size (addr - item.addr)

-- an address of I/O space: bit 39 is set, and no higher one
abbrev pub IsIo : ℕ → Type 0
IsIo addr = (2 ^ 39 ≤ addr) × (addr < 2 ^ 40)

-- a flush, or a membar whose mask has StoreLoad, MemIssue or Sync
abbrev pub IsBarrier : Item → Type 0
IsBarrier item = (item.kind ≡ Flush) ⊎ ((item.kind ≡ Membar) × (bit_and item.size 0x62 ≡ 0 → ⊥))
