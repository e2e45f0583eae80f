-- The table of places over the items of one strand and any caches by time, while stores may have no
-- place yet. What a commit got is said of its reply, not here.
use Rattle.std.specs.Prelude.{ℕ, ◌≡◌, ◌<◌, ◌≤◌, ◌⊎◌, List, length, Option}
use Rattle.std.specs.List.{Contains}
use Rattle.t1_shape.specs.Shapes.{Shape}
use Rattle.t1_shape.specs.Slots.{Line}
use Rattle.t1_packet.specs.declared.cache.Cache.{Cache}
use Rattle.t1_packet.specs.declared.cache.Cache.TheVariants.{Dcache, Icache}
use Rattle.t1_event.specs.declared.item.Item.{Item}
use Rattle.t1_event.specs.declared.item.ItemKind.{ItemKind}
use Rattle.t1_event.specs.declared.item.ItemKind.TheVariants as kind
use Rattle.t1_event.specs.declared.item.How.{How}
use Rattle.t1_event.specs.declared.item.How.TheVariants.{Unplaced, Forward, Hit, Commit}
use Rattle.t1_event.specs.Items.{Covers, byte_got, byte_put, IsIo}
use Rattle.t1_event.specs.Places.{Overlaps, GotLine, IsMissing}
use Rattle.t1_joint.specs.Waits.{IsHeldIn}

-- the caches of a core by time
abbrev pub Caches : Type 0
Caches = ℕ → Cache → List (Option Line)

abbrev pub NoneHeldIn : List Item → ℕ → ℕ → Type 0
NoneHeldIn items j t = (i : ℕ) (store : Item) → IsHeldIn items j t i store → ⊥

abbrev pub NoneOverlapsIn : List Item → ℕ → ℕ → Item → Type 0
NoneOverlapsIn items j t x = (i : ℕ) (store : Item) → IsHeldIn items j t i store → Overlaps store x → ⊥

-- the last held store that overlaps holds all the bytes, and these were got
pub record IsForwardedIn (items : List Item) (j t : ℕ) (x : Item) : Type 0 where
  pub number : ℕ
  pub from : Item
  pub held : IsHeldIn items j t number from
  pub last : (i : ℕ) (store : Item) → IsHeldIn items j t i store → Overlaps store x → i ≤ number
  pub covers : (a : ℕ) → Covers x a → Covers from a
  pub bytes : (a : ℕ) → Covers x a → byte_got x a ≡ byte_put from a

-- at most eight stores are held
pub record FewAreHeldIn (items : List Item) (j t : ℕ) : Type 0 where
  pub numbers : List ℕ
  pub few : length numbers ≤ 8
  pub all : (i : ℕ) (store : Item) → IsHeldIn items j t i store → Contains numbers i

abbrev pub FetchRow : Shape → Caches → Item → How → Type 0
FetchRow shape caches x Unplaced = ⊥
FetchRow shape caches x (Forward time) = ⊥
FetchRow shape caches x (Hit time) = GotLine shape Icache (caches time Icache) x
FetchRow shape caches x (Commit index seen) = IsMissing shape Icache (caches seen Icache) x

abbrev pub LoadRow : Shape → ℕ → Caches → List Item → ℕ → Item → How → Type 0
LoadRow shape ram caches items j x Unplaced = ⊥
LoadRow shape ram caches items j x (Forward time) = (x.addr < ram) × IsForwardedIn items j time x
LoadRow shape ram caches items j x (Hit time) = (x.addr < ram) × NoneOverlapsIn items j time x × GotLine shape Dcache (caches time Dcache) x
LoadRow shape ram caches items j x (Commit index seen) =
    ((x.addr < ram) × NoneOverlapsIn items j seen x × IsMissing shape Dcache (caches seen Dcache) x)
    ⊎ (IsIo x.addr × NoneHeldIn items j seen)

abbrev pub AtomicRow : List Item → ℕ → How → Type 0
AtomicRow items j Unplaced = ⊥
AtomicRow items j (Forward time) = ⊥
AtomicRow items j (Hit time) = ⊥
AtomicRow items j (Commit index seen) = NoneHeldIn items j seen

abbrev pub StoreRow : How → Type 0
StoreRow Unplaced = Unit {0}
StoreRow (Forward time) = ⊥
StoreRow (Hit time) = ⊥
StoreRow (Commit index seen) = Unit {0}

-- the row for an access of this kind, item j of its strand
abbrev pub RowIn : Shape → ℕ → Caches → List Item → ℕ → Item → ItemKind → Type 0
RowIn shape ram caches items j x kind.Fetch = (x.addr < ram) × FetchRow shape caches x x.how
RowIn shape ram caches items j x kind.Load = LoadRow shape ram caches items j x x.how
RowIn shape ram caches items j x kind.Store = StoreRow x.how
RowIn shape ram caches items j x (kind.Atomic wrote) = (x.addr < ram) × AtomicRow items j x.how
RowIn shape ram caches items j x kind.Membar = Unit {0}
RowIn shape ram caches items j x kind.Flush = Unit {0}
