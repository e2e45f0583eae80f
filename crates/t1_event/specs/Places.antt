-- Where each access of a run may be placed: as a commit, as a hit of its core's L1, or as forwarded
-- from its own store buffer.
use Rattle.std.specs.Prelude.{ℕ, ◌≡◌, ◌+◌, ◌/◌, ◌%◌, ◌<◌, ◌≤◌, ◌⊎◌, List, length, slice_index, Option, Some, None}
use Rattle.std.specs.List.{Contains}
use Rattle.t1_shape.specs.Shapes.{Shape}
use Rattle.t1_shape.specs.Slots.{Line, line_in}
use Rattle.t1_packet.specs.declared.cache.Cache.{Cache}
use Rattle.t1_packet.specs.declared.cache.Cache.TheVariants.{Dcache, Icache}
use Rattle.t1_packet.specs.Caches.{layout, width, line_of, filled_line}
use Rattle.t1_event.specs.declared.item.Item.{Item}
use Rattle.t1_event.specs.declared.item.ItemKind.{ItemKind}
use Rattle.t1_event.specs.declared.item.ItemKind.TheVariants as kind
use Rattle.t1_event.specs.declared.item.How.{How}
use Rattle.t1_event.specs.declared.item.How.TheVariants as how
use Rattle.t1_event.specs.declared.commit.Commit.{Commit}
use Rattle.t1_event.specs.Kinds.{IsRead}
use Rattle.t1_event.specs.Items.{Covers, byte_got, byte_put, IsIo}
use Rattle.t1_event.specs.Order.{Act, Earlier}
use Rattle.t1_event.specs.Times.{at_of, done_of, IsCommit}
use Rattle.t1_event.specs.Log.{core_of, memory_at}
use Rattle.t1_event.specs.Shadow.{directory_at}
use Rattle.t1_event.specs.Posts.{l1_at, victim_at}
use Rattle.t1_event.specs.Kills.{fill_way_in}

-- a run: the chip, its cores and the strands of each, the sets of an L2 bank, what memory held at first,
-- the items of each strand, and the log
pub record Run : Type 0 where
  pub shape : Shape
  pub cores : ℕ
  pub strands : ℕ
  pub sets : ℕ
  pub image : List ℕ
  pub traces : List (List Item)
  pub log : List Commit

-- the core of an item's strand
abbrev pub home : (h : Run) → Act h.traces → ℕ
home h x = x.strand / h.strands

-- a cache of a core after the posts of the first t commits
abbrev pub cache_at : (h : Run) → ℕ → Cache → ℕ → List (Option Line)
cache_at h core cache t = l1_at h.shape h.strands h.image h.log core cache t

-- memory before commit n
abbrev pub memory_before : Run → ℕ → List ℕ
memory_before h n = memory_at h.image h.log n

abbrev pub IsRam : Run → Item → Type 0
IsRam h item = item.addr < length h.image

-- ---- what a read got

-- its bytes of memory
abbrev pub GotMemory : List ℕ → Item → Type 0
GotMemory memory item = (a : ℕ) → Covers item a → byte_got item a ≡ slice_index memory a

-- its bytes of a line that the cache holds
pub record GotLine (shape : Shape) (cache : Cache) (slots : List (Option Line)) (item : Item) : Type 0 where
  pub line : Line
  pub present : line_in (layout shape cache) slots (line_of cache item.addr) ≡ Some line
  pub bytes : (a : ℕ) → Covers item a → byte_got item a ≡ slice_index line.bytes (a % width cache)

-- the cache does not hold its line
abbrev pub IsMissing : Shape → Cache → List (Option Line) → Item → Type 0
IsMissing shape cache slots item = line_in (layout shape cache) slots (line_of cache item.addr) ≡ None

-- ---- stores that are held: earlier ones of the strand that the core had not yet seen commit

pub record IsHeld {traces : List (List Item)} (x store : Act traces) : Type 0 where
  pub earlier : Earlier store x
  pub kind : store.item.kind ≡ kind.Store
  pub late : at_of x.item.how < done_of store.item.how

abbrev pub Overlaps : Item → Item → Type 0
Overlaps x y = (x.addr < y.addr + y.size) × (y.addr < x.addr + x.size)

abbrev pub NoneHeld : {traces : List (List Item)} → Act traces → Type 0
NoneHeld {traces} x = (store : Act traces) → IsHeld x store → ⊥

abbrev pub NoneOverlaps : {traces : List (List Item)} → Act traces → Type 0
NoneOverlaps {traces} x = (store : Act traces) → IsHeld x store → Overlaps store.item x.item → ⊥

-- the last held store that overlaps holds all the bytes, and these were got
pub record IsForwarded {traces : List (List Item)} (x : Act traces) : Type 0 where
  pub from : Act traces
  pub held : IsHeld x from
  pub last : (store : Act traces) → IsHeld x store → Overlaps store.item x.item → store.number ≤ from.number
  pub covers : (a : ℕ) → Covers x.item a → Covers from.item a
  pub bytes : (a : ℕ) → Covers x.item a → byte_got x.item a ≡ byte_put from.item a

-- a store buffer has room for eight
pub record FewAreHeld {traces : List (List Item)} (x : Act traces) : Type 0 where
  pub numbers : List ℕ
  pub few : length numbers ≤ 8
  pub all : (store : Act traces) → IsHeld x store → Contains numbers store.number

-- ---- the table of places

-- a fetch hits or commits; it looks at no store
abbrev pub FetchPlaced : (h : Run) → Act h.traces → How → Type 0
FetchPlaced h x how.Unplaced = ⊥
FetchPlaced h x (how.Forward time) = ⊥
FetchPlaced h x (how.Hit time) = GotLine h.shape Icache (cache_at h (home h x) Icache time) x.item
FetchPlaced h x (how.Commit index seen) =
    IsMissing h.shape Icache (cache_at h (home h x) Icache seen) x.item × GotMemory (memory_before h index) x.item

-- a load from RAM is forwarded, hits or commits; one from I/O commits, after all earlier stores, and got 0
abbrev pub LoadPlaced : (h : Run) → Act h.traces → How → Type 0
LoadPlaced h x how.Unplaced = ⊥
LoadPlaced h x (how.Forward time) = IsRam h x.item × IsForwarded x
LoadPlaced h x (how.Hit time) = IsRam h x.item × NoneOverlaps x × GotLine h.shape Dcache (cache_at h (home h x) Dcache time) x.item
LoadPlaced h x (how.Commit index seen) =
    (IsRam h x.item × NoneOverlaps x × IsMissing h.shape Dcache (cache_at h (home h x) Dcache seen) x.item × GotMemory (memory_before h index) x.item)
    ⊎ (IsIo x.item.addr × NoneHeld x × (x.item.got ≡ 0))

-- an atomic commits, after all earlier stores
abbrev pub AtomicPlaced : (h : Run) → Act h.traces → How → Type 0
AtomicPlaced h x how.Unplaced = ⊥
AtomicPlaced h x (how.Forward time) = ⊥
AtomicPlaced h x (how.Hit time) = ⊥
AtomicPlaced h x (how.Commit index seen) = NoneHeld x × GotMemory (memory_before h index) x.item

-- the row of the table for an access of this kind
abbrev pub Row : (h : Run) → Act h.traces → ItemKind → Type 0
Row h x kind.Fetch = IsRam h x.item × FetchPlaced h x x.item.how
Row h x kind.Load = LoadPlaced h x x.item.how
Row h x kind.Store = IsCommit x.item.how
Row h x (kind.Atomic wrote) = IsRam h x.item × AtomicPlaced h x x.item.how
Row h x kind.Membar = Unit {0}
Row h x kind.Flush = Unit {0}

pub record IsPlacedRightly (h : Run) (x : Act h.traces) : Type 0 where
  pub row : Row h x x.item.kind
  pub few : IsRead x.item.kind → FewAreHeld x

-- a commit's fill takes the way in which the directory shows the line, else the victim of its core's
-- cache when the request was sent
abbrev pub IsFilledRightly : Run → ℕ → Commit → Type 0
IsFilledRightly h n commit =
    (cache : Cache) (line way : ℕ) → filled_line cache commit.op ≡ Some line → commit.way ≡ Some way
    → way ≡ fill_way_in h.shape cache (directory_at h.shape h.strands h.log (core_of h.strands commit) cache n) line
    (victim_at h.shape h.strands h.image h.log (core_of h.strands commit) cache commit.seen line)
