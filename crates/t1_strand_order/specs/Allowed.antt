-- Which events a strand allows. `apart` says of the addresses of two stores that they may not be out
-- at once.
use Rattle.std.specs.Prelude.{ℕ, ◌≡◌, ◌<◌, ◌≤◌, ◌⊎◌, Bool, false, List, [], ◌∷◌, ◌++◌, length, Some, None}
use Rattle.t1_event.specs.declared.item.Item.{Item}
use Rattle.t1_event.specs.declared.item.ItemKind.{ItemKind}
use Rattle.t1_event.specs.declared.item.ItemKind.TheVariants as kind
use Rattle.t1_event.specs.declared.item.How.TheVariants.{Unplaced, Forward, Hit, Commit}
use Rattle.t1_event.specs.Kinds.{IsRead, IsWrite}
use Rattle.t1_event.specs.Items.{IsBarrier}
use Rattle.t1_joint.specs.Lists.{IsIn}
use Rattle.t1_joint.specs.Waits.{HasItem}
use Rattle.t1_strand_order.specs.Tracks.{Asked, Track, Event, Read, Fence, Push, Ask, Send, Answer, Acknowledge, Pass, after}

-- a fetch or load that an L1 cache or the buffer answers now, with nothing out
pub record IsReadNow (s : Track) (x : Item) : Type 0 where
  pub read : IsRead x.kind
  pub keeps : IsWrite x.kind → ⊥
  pub how : (x.how ≡ Hit s.clock) ⊎ (x.how ≡ Forward s.clock)
  pub free : s.out ≡ None

-- a membar or flush; one that is a barrier finds the buffer empty
pub record IsFence (s : Track) (x : Item) : Type 0 where
  pub kind : (x.kind ≡ kind.Membar) ⊎ (x.kind ≡ kind.Flush)
  pub how : x.how ≡ Unplaced
  pub empty : IsBarrier x → s.waiting ≡ []
  pub free : s.out ≡ None

-- a store, for which the buffer has room
pub record IsPush (s : Track) (x : Item) : Type 0 where
  pub kind : x.kind ≡ kind.Store
  pub how : x.how ≡ Unplaced
  pub room : length s.waiting < 8
  pub free : s.out ≡ None

-- a fetch or load, or, with an empty buffer, an atomic
pub record IsAsk (s : Track) (x : Item) : Type 0 where
  pub read : IsRead x.kind
  pub empty : (IsWrite x.kind → ⊥) ⊎ (s.waiting ≡ [])

-- the oldest store that is not sent; none that is out may not be out with it
pub record IsSend (apart : ℕ → ℕ → Bool) (s : Track) : Type 0 where
  pub out : List ℕ
  pub number : ℕ
  pub behind : List ℕ
  pub are : s.waiting ≡ out ++ number ∷ behind
  pub sent : length s.sent ≡ length out
  pub together : (i : ℕ) (x y : Item) → IsIn i out → HasItem s.items i x → HasItem s.items number y → apart x.addr y.addr ≡ false

-- whether an atomic writes shows when it is answered
abbrev pub IsLike : ItemKind → ItemKind → Type 0
IsLike (kind.Atomic wrote) (kind.Atomic writes) = Unit {0}
IsLike (kind.Atomic wrote) kind.Fetch = ⊥
IsLike (kind.Atomic wrote) kind.Load = ⊥
IsLike (kind.Atomic wrote) kind.Store = ⊥
IsLike (kind.Atomic wrote) kind.Membar = ⊥
IsLike (kind.Atomic wrote) kind.Flush = ⊥
IsLike kind.Fetch other = other ≡ kind.Fetch
IsLike kind.Load other = other ≡ kind.Load
IsLike kind.Store other = ⊥
IsLike kind.Membar other = ⊥
IsLike kind.Flush other = ⊥

-- the access that was asked for, in a packet that is no older than the clock
pub record IsAnswer (s : Track) (index : ℕ) (x : Item) : Type 0 where
  pub asked : Asked
  pub is : s.out ≡ Some asked
  pub kind : IsLike x.kind asked.item.kind
  pub addr : x.addr ≡ asked.item.addr
  pub size : x.size ≡ asked.item.size
  pub how : x.how ≡ Commit index asked.seen
  pub late : s.clock ≤ index

-- the oldest store is out, and the packet is no older than the clock
pub record IsAcknowledged (s : Track) (index : ℕ) : Type 0 where
  pub number : ℕ
  pub waiting : List ℕ
  pub seen : ℕ
  pub sent : List ℕ
  pub waits : s.waiting ≡ number ∷ waiting
  pub times : s.sent ≡ seen ∷ sent
  pub late : s.clock ≤ index

abbrev pub IsAllowed : (ℕ → ℕ → Bool) → Track → Event → Type 0
IsAllowed apart s (Read x) = IsReadNow s x
IsAllowed apart s (Fence x) = IsFence s x
IsAllowed apart s (Push x) = IsPush s x
IsAllowed apart s (Ask x) = IsAsk s x
IsAllowed apart s Send = IsSend apart s
IsAllowed apart s (Answer index x) = IsAnswer s index x
IsAllowed apart s (Acknowledge index) = IsAcknowledged s index
IsAllowed apart s (Pass time) = s.clock ≤ time

abbrev pub AreAllowed : (ℕ → ℕ → Bool) → Track → List Event → Type 0
AreAllowed apart s [] = Unit {0}
AreAllowed apart s (event ∷ events) = IsAllowed apart s event × AreAllowed apart (after s event) events
