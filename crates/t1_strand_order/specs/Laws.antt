-- The laws of a strand's order.
use Rattle.std.specs.Prelude.{ℕ, ◌≡◌, ◌<◌, not, ◌==◌, Bool, List}
use Rattle.t1_shape.specs.Shapes.{Shape}
use Rattle.t1_num.specs.declared.chip.ChipKind.TheVariants.{T1, T2}
use Rattle.t1_packet.specs.Ops.{dest_of}
use Rattle.t1_event.specs.declared.item.Item.{Item}
use Rattle.t1_event.specs.declared.item.ItemKind.TheVariants as kind
use Rattle.t1_event.specs.Times.{IsPlaced}
use Rattle.t1_joint.specs.Waits.{HasItem, LetsSend, AreStoresInOrder}
use Rattle.t1_joint.specs.Rows.{Caches}
use Rattle.t1_strand_order.specs.Tracks.{Track, Event, begun, after, after_all}
use Rattle.t1_strand_order.specs.Allowed.{IsAllowed, AreAllowed}
use Rattle.t1_strand_order.specs.Kept.{IsSentWell, IsKept}
use Rattle.t1_strand_order.specs.Example.{example, two_stores}
use Rattle.t1_strand_order.specs.Places.{IsPlacedNow, ArePlacedRightly, AreUpTo}

-- ---- which stores of a strand may not be out at once

-- those that go to two destinations
abbrev pub one_destination : Shape → ℕ → ℕ → Bool
one_destination shape a b = not (dest_of shape a == dest_of shape b)

-- ---- laws

-- each event that is allowed keeps the order of a strand, whichever stores may not be out at once
abbrev pub EventsKeepOrder : Type 0
EventsKeepOrder = (apart : ℕ → ℕ → Bool) (s : Track) (event : Event) → IsAllowed apart s event → IsKept apart s → IsKept apart (after s event)

-- so does each history, from the begin on
abbrev pub HistoriesKeepOrder : Type 0
HistoriesKeepOrder =
    (apart : ℕ → ℕ → Bool) (clock : ℕ) (events : List Event) → AreAllowed apart (begun clock) events → IsKept apart (after_all (begun clock) events)

-- where what is out goes to one destination: of two stores the later has the higher index, and, where they
-- go to two, was sent when the earlier was done
abbrev pub StoresKeepOrder : Type 0
StoresKeepOrder =
    (shape : Shape) (s : Track) (i j : ℕ) (x y : Item) → IsKept (one_destination shape) s → i < j → HasItem s.items i x → HasItem s.items j y
    → x.kind ≡ kind.Store → y.kind ≡ kind.Store → IsPlaced y.how → AreStoresInOrder shape x y

-- so was one that is out
abbrev pub SentStoresKeepOrder : Type 0
SentStoresKeepOrder =
    (shape : Shape) (items : List Item) (clock i j t : ℕ) (x y : Item) → IsSentWell (one_destination shape) items clock j t → i < j → HasItem items i x
    → HasItem items j y → x.kind ≡ kind.Store → LetsSend shape (dest_of shape y.addr) t x

-- accesses that are placed rightly stay so: later events change no store that they may look at, nor the
-- caches of their times
abbrev pub EventsKeepPlaces : Type 0
EventsKeepPlaces =
    (shape : Shape) (ram : ℕ) (caches later : Caches) (apart : ℕ → ℕ → Bool) (s : Track) (event : Event)
    → IsAllowed apart s event → IsKept apart s → AreUpTo s.clock caches later → IsPlacedNow shape ram later s event
    → ArePlacedRightly shape ram caches s → ArePlacedRightly shape ram later (after s event)

-- there are such histories: one whichever stores may not be out at once, and one with two stores out
abbrev pub HistoriesAre : Type 0
HistoriesAre = ((apart : ℕ → ℕ → Bool) → AreAllowed apart (begun 0) example) × AreAllowed (one_destination T1) (begun 0) two_stores
