-- What a core says of what it did.
use Rattle.std.specs.Prelude.{ℕ, ◌≡◌, ◌<◌, ◌≤◌, ◌+◌, true, List, [], length, slice_index, All, Option, Some, None}
use Rattle.t1_packet.specs.Data.{RequestData}
use Rattle.t1_core.specs.declared.answers.Did.{Did}
use Rattle.t1_core.specs.declared.answers.Did.TheVariants as did
use Rattle.t1_core.specs.declared.answers.Drained.{Drained}
use Rattle.t1_core.specs.declared.answers.Drained.TheVariants as drained
use Rattle.t1_core.specs.Threads.{ThreadState}
use Rattle.t1_core.specs.Steps.{CoreState, exec_of, has_room}
use Rattle.t1_core.specs.Turns.{next_place}

-- the ring of what is sent has room
abbrev pub HasRing : ℕ → Did → Type 0
HasRing room did.Moved = Unit {0}
HasRing room (did.Waits w) = Unit {0}
HasRing room (did.Sent d r) = (has_room room d ≡ true) × (d < 9)

abbrev pub HasDrainRing : ℕ → Drained → Type 0
HasDrainRing room drained.Empty = Unit {0}
HasDrainRing room drained.Out = Unit {0}
HasDrainRing room (drained.NoRoom d) = Unit {0}
HasDrainRing room (drained.Sent d r) = (has_room room d ≡ true) × (d < 9)

-- what waits changes nothing
abbrev pub WaitsStill : {A : Type 0} → A → A → Did → Type 0
WaitsStill before after did.Moved = Unit {0}
WaitsStill before after (did.Sent d r) = Unit {0}
WaitsStill before after (did.Waits w) = after ≡ before

-- what is not sent changes nothing
abbrev pub DrainsStill : {A : Type 0} → A → A → Drained → Type 0
DrainsStill before after (drained.Sent d r) = Unit {0}
DrainsStill before after drained.Empty = after ≡ before
DrainsStill before after drained.Out = after ≡ before
DrainsStill before after (drained.NoRoom d) = after ≡ before

-- the strand at a place of the queue acted
pub record ActedAt (c : CoreState) (room place : ℕ) (d : Did) (after : CoreState) : Type 0 where
  pub first : next_place c room ≡ Some place
  pub within : place < length c.turns
  pub did_is : d ≡ (exec_of c (slice_index c.turns place) room).did
  pub core_is : after ≡ (exec_of c (slice_index c.turns place) room).core
  pub ring : HasRing room d
