-- What each event of a strand keeps: program order, times, and which stores have a place.
use Rattle.std.specs.Prelude.{ℕ, suc, ◌≡◌, ◌<◌, ◌≤◌, ◌⊎◌, Bool, true, List, [], ◌∷◌, length, Option, Some, None}
use Rattle.t1_event.specs.declared.item.Item.{Item}
use Rattle.t1_event.specs.declared.item.ItemKind.{ItemKind}
use Rattle.t1_event.specs.declared.item.ItemKind.TheVariants as kind
use Rattle.t1_event.specs.declared.item.How.TheVariants.{Unplaced}
use Rattle.t1_event.specs.Kinds.{IsRead}
use Rattle.t1_event.specs.Times.{at_of, index_of, IsPlaced}
use Rattle.t1_joint.specs.Lists.{IsIn}
use Rattle.t1_joint.specs.Waits.{HasItem, IsDoneBy, HasBarrier, WaitsFor, IsInOrder}
use Rattle.t1_joint.specs.Rows.{FewAreHeldIn}
use Rattle.t1_strand_order.specs.Tracks.{Asked, Track}

-- ascending, from a bound on
abbrev pub Ascends : ℕ → List ℕ → Type 0
Ascends low [] = Unit {0}
Ascends low (number ∷ numbers) = (low ≤ number) × Ascends (suc number) numbers

-- what an access of this kind at j waits for was done by t; how a store waits for a store is said apart
abbrev pub IsReady : List Item → ℕ → ItemKind → ℕ → Type 0
IsReady items j y t = (i : ℕ) (x : Item) → i < j → HasItem items i x → WaitsFor items i x.kind j y → IsDoneBy t x.how

-- the earlier stores that may not be out with the one at j were done by t
abbrev pub IsAlone : (ℕ → ℕ → Bool) → List Item → ℕ → ℕ → Type 0
IsAlone apart items j t =
    (i : ℕ) (x y : Item) → i < j → HasItem items i x → HasItem items j y → x.kind ≡ kind.Store → apart x.addr y.addr ≡ true → IsDoneBy t x.how

-- of two stores the later has the higher index, and, where they may not be out at once, was sent when
-- the earlier was done
pub record Follow (apart : ℕ → ℕ → Bool) (x y : Item) : Type 0 where
  pub index : IsDoneBy (index_of y.how) x.how
  pub sent : apart x.addr y.addr ≡ true → IsDoneBy (at_of y.how) x.how

-- a store that was sent at t
pub record IsSentWell (apart : ℕ → ℕ → Bool) (items : List Item) (clock number t : ℕ) : Type 0 where
  pub past : t ≤ clock
  pub ready : IsReady items number kind.Store t
  pub alone : IsAlone apart items number t

-- the oldest stores of the buffer were sent at these times
abbrev pub AreSentWell : (ℕ → ℕ → Bool) → List Item → ℕ → List ℕ → List ℕ → Type 0
AreSentWell apart items clock numbers [] = Unit {0}
AreSentWell apart items clock [] (t ∷ times) = ⊥
AreSentWell apart items clock (number ∷ numbers) (t ∷ times) =
    IsSentWell apart items clock number t × AreSentWell apart items clock numbers times

-- a read that was sent at its `seen`
pub record IsAskedWell (items : List Item) (clock : ℕ) (asked : Asked) : Type 0 where
  pub read : IsRead asked.item.kind
  pub past : asked.seen ≤ clock
  pub ready : IsReady items (length items) asked.item.kind asked.seen
  pub few : FewAreHeldIn items (length items) asked.seen

abbrev pub IsOutWell : List Item → ℕ → Option Asked → Type 0
IsOutWell items clock None = Unit {0}
IsOutWell items clock (Some asked) = IsAskedWell items clock asked

pub record IsOrderly (apart : ℕ → ℕ → Bool) (items : List Item) (waiting : List ℕ) (clock : ℕ) : Type 0 where
  -- program order
  pub order : IsInOrder items
  pub stores : (i j : ℕ) (x y : Item) → i < j → HasItem items i x → HasItem items j y → x.kind ≡ kind.Store → y.kind ≡ kind.Store → IsPlaced y.how → Follow apart x y
  pub behind : (i : ℕ) (x : Item) → HasItem items i x → x.kind ≡ kind.Store → HasBarrier items i (length items) → IsDoneBy clock x.how
  -- times, and what has none
  pub times : (i : ℕ) (x : Item) → HasItem items i x → at_of x.how ≤ clock
  pub reads : (i : ℕ) (x : Item) → HasItem items i x → IsRead x.kind → IsDoneBy clock x.how
  pub waits : (i : ℕ) (x : Item) → HasItem items i x → x.kind ≡ kind.Store → IsDoneBy clock x.how ⊎ IsIn i waiting
  -- the buffer
  pub held : (i : ℕ) → IsIn i waiting → (x : Item) × HasItem items i x × (x.kind ≡ kind.Store) × (x.how ≡ Unplaced)
  pub ascend : Ascends 0 waiting
  pub room : length waiting ≤ 8
  pub few : (i : ℕ) (x : Item) → HasItem items i x → IsRead x.kind → FewAreHeldIn items i (at_of x.how)

pub record IsKept (apart : ℕ → ℕ → Bool) (s : Track) : Type 0 where
  pub orderly : IsOrderly apart s.items s.waiting s.clock
  pub sent : AreSentWell apart s.items s.clock s.waiting s.sent
  pub out : IsOutWell s.items s.clock s.out
