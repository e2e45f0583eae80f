-- Program order of one strand: which accesses wait for which, while stores may have no place yet.
use Rattle.std.specs.Prelude.{ℕ, ◌≡◌, ◌<◌, ◌≤◌, ◌⊎◌, List, Some}
use Rattle.std.specs.List.{slice_get}
use Rattle.t1_shape.specs.Shapes.{Shape}
use Rattle.t1_packet.specs.Ops.{dest_of}
use Rattle.t1_event.specs.declared.item.Item.{Item}
use Rattle.t1_event.specs.declared.item.ItemKind.{ItemKind}
use Rattle.t1_event.specs.declared.item.ItemKind.TheVariants as kind
use Rattle.t1_event.specs.declared.item.How.{How}
use Rattle.t1_event.specs.declared.item.How.TheVariants.{Unplaced, Forward, Hit, Commit}
use Rattle.t1_event.specs.Kinds.{IsRead, IsWrite, IsAccess}
use Rattle.t1_event.specs.Items.{IsBarrier}
use Rattle.t1_event.specs.Times.{at_of, index_of, IsPlaced}

abbrev pub HasItem : List Item → ℕ → Item → Type 0
HasItem items i x = slice_get items i ≡ Some x

-- it has a place, and was done by t
abbrev pub IsDoneBy : ℕ → How → Type 0
IsDoneBy t Unplaced = ⊥
IsDoneBy t (Forward time) = time ≤ t
IsDoneBy t (Hit time) = time ≤ t
IsDoneBy t (Commit index seen) = index < t

-- it comes at t or later, or has no place yet
abbrev pub IsLate : ℕ → How → Type 0
IsLate t Unplaced = Unit {0}
IsLate t (Forward time) = ⊥
IsLate t (Hit time) = ⊥
IsLate t (Commit index seen) = t ≤ index

-- a barrier stands between two items
pub record HasBarrier (items : List Item) (i j : ℕ) : Type 0 where
  pub number : ℕ
  pub item : Item
  pub after : i < number
  pub before : number < j
  pub has : HasItem items number item
  pub barrier : IsBarrier item

-- an access of kind y at j waits for one of kind x at i: each access for earlier reads, an atomic for
-- earlier stores, and what is behind a barrier for the stores before it
abbrev pub WaitsFor : List Item → ℕ → ItemKind → ℕ → ItemKind → Type 0
WaitsFor items i x j y =
    (IsRead x × IsAccess y)
    ⊎ (((x ≡ kind.Store) × IsRead y × IsWrite y)
    ⊎ ((x ≡ kind.Store) × HasBarrier items i j × IsAccess y))

-- what an access that has a place waits for was done at its time
abbrev pub IsInOrder : List Item → Type 0
IsInOrder items =
    (i j : ℕ) (x y : Item) → i < j → HasItem items i x → HasItem items j y → IsPlaced y.how → WaitsFor items i x.kind j y.kind
    → IsDoneBy (at_of y.how) x.how

-- an earlier store of the strand lets a store go out to a destination at t: it goes there too, or was done
abbrev pub LetsSend : Shape → ℕ → ℕ → Item → Type 0
LetsSend shape dest t x = (dest_of shape x.addr ≡ dest) ⊎ IsDoneBy t x.how

-- two stores of a strand, the second of which has a place: the first has the lower index, and, where they
-- go to two destinations, was done when the second was sent
pub record AreStoresInOrder (shape : Shape) (x y : Item) : Type 0 where
  pub index : IsDoneBy (index_of y.how) x.how
  pub sent : LetsSend shape (dest_of shape y.addr) (at_of y.how) x

-- a store that is held at an access at j of time t: an earlier one that comes at t or later
pub record IsHeldIn (items : List Item) (j t i : ℕ) (store : Item) : Type 0 where
  pub earlier : i < j
  pub has : HasItem items i store
  pub kind_is : store.kind ≡ kind.Store
  pub late : IsLate t store.how
