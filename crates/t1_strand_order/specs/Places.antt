-- Places of a strand's accesses, by the table of places, while its history goes on; the caches by time
-- are any.
use Rattle.std.specs.Prelude.{ℕ, ◌≡◌, ◌≤◌, List, length, Option, Some, None}
use Rattle.t1_shape.specs.Shapes.{Shape}
use Rattle.t1_event.specs.declared.item.Item.{Item}
use Rattle.t1_event.specs.declared.item.How.TheVariants.{Commit}
use Rattle.t1_event.specs.Kinds.{IsAccess}
use Rattle.t1_joint.specs.Waits.{HasItem, IsHeldIn}
use Rattle.t1_joint.specs.Rows.{Caches, RowIn}
use Rattle.t1_strand_order.specs.Tracks.{Asked, Track, Event, Read, Fence, Push, Ask, Send, Answer, Acknowledge, Pass}

-- ---- held stores

-- the same store, but for its place
pub record IsSame (x y : Item) : Type 0 where
  pub addr : x.addr ≡ y.addr
  pub size : x.size ≡ y.size
  pub put : x.put ≡ y.put

-- the same stores are held at an access at j of time t
pub record SameAreHeld (old new : List Item) (j t : ℕ) : Type 0 where
  pub there : (i : ℕ) (x : Item) → IsHeldIn old j t i x → (y : Item) × IsHeldIn new j t i y × IsSame x y
  pub back : (i : ℕ) (y : Item) → IsHeldIn new j t i y → (x : Item) × IsHeldIn old j t i x × IsSame x y

-- ---- rows

abbrev pub AreInRows : Shape → ℕ → Caches → List Item → Type 0
AreInRows shape ram caches items =
    (j : ℕ) (x : Item) → HasItem items j x → IsAccess x.kind → RowIn shape ram caches items j x x.kind

-- the row of a read that is sent at this time: no row of a commit says at which index
abbrev pub AskedRow : Shape → ℕ → Caches → List Item → Item → ℕ → Type 0
AskedRow shape ram caches items x t = RowIn shape ram caches items (length items) (record x { how = Commit 0 t }) x.kind

abbrev pub OutRow : Shape → ℕ → Caches → List Item → Option Asked → Type 0
OutRow shape ram caches items None = Unit {0}
OutRow shape ram caches items (Some asked) = AskedRow shape ram caches items asked.item asked.seen

-- each access of the strand is placed rightly, and so will be what is out
pub record ArePlacedRightly (shape : Shape) (ram : ℕ) (caches : Caches) (s : Track) : Type 0 where
  pub items : AreInRows shape ram caches s.items
  pub out : OutRow shape ram caches s.items s.out

-- what an event has to show of the read that it makes or sends
abbrev pub IsPlacedNow : Shape → ℕ → Caches → Track → Event → Type 0
IsPlacedNow shape ram caches s (Read x) = RowIn shape ram caches s.items (length s.items) x x.kind
IsPlacedNow shape ram caches s (Ask x) = AskedRow shape ram caches s.items x s.clock
IsPlacedNow shape ram caches s (Fence x) = Unit {0}
IsPlacedNow shape ram caches s (Push x) = Unit {0}
IsPlacedNow shape ram caches s Send = Unit {0}
IsPlacedNow shape ram caches s (Answer index x) = Unit {0}
IsPlacedNow shape ram caches s (Acknowledge index) = Unit {0}
IsPlacedNow shape ram caches s (Pass time) = Unit {0}

-- caches that are as they were up to a time
abbrev pub AreUpTo : ℕ → Caches → Caches → Type 0
AreUpTo clock caches later = (t : ℕ) → t ≤ clock → later t ≡ caches t
