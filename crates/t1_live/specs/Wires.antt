-- Who is tied to whom: the rings and request queues between cores, destinations and the crossbar.
use Rattle.std.specs.Prelude.{ℕ, ◌≡◌, ◌+◌, List, [], ◌∷◌, length, Some}
use Rattle.std.specs.List.{slice_get}
use Rattle.t1_shape.specs.Numbers.{destinations}
use Rattle.t1_joint.specs.Start.{Setup}
use Rattle.t1_ring.specs.Ends.{QueueName, Mark}
use Rattle.t1_crew.specs.Id.{Id}
use Rattle.t1_live.specs.Lanes.{seats_of}

-- cores that are there, in order, with all destinations and the crossbar of one run, whose ends meet
pub record AreWired (w : Setup) (cores dests : List Id) (crossbar : Id) : Type 0 where
  pub core_is : (c : ℕ) (core : Id) → slice_get cores c ≡ Some core → (core.setup ≡ w) × (core.number ≡ c)
  pub dest_is : (d : ℕ) (dest : Id) → slice_get dests d ≡ Some dest → (dest.setup ≡ w) × (dest.number ≡ 8 + d)
  pub crossbar_is : crossbar.setup ≡ w
  pub all_dests : length dests ≡ destinations w.config.chip
  pub crossbar_to : length crossbar.to ≡ w.config.cores
  pub crossbar_from : length crossbar.from ≡ destinations w.config.chip
  pub core_to : (c : ℕ) (core : Id) → slice_get cores c ≡ Some core → length core.to ≡ destinations w.config.chip
  pub dest_from : (d : ℕ) (dest : Id) → slice_get dests d ≡ Some dest → length dest.from ≡ w.config.cores
  pub requests : (c d : ℕ) (core dest : Id) → slice_get cores c ≡ Some core → slice_get dests d ≡ Some dest → slice_get core.to d ≡ slice_get dest.from c
  pub served : (d : ℕ) (dest : Id) → slice_get dests d ≡ Some dest → slice_get dest.to 0 ≡ slice_get crossbar.from d
  pub packets : (c : ℕ) (core : Id) → slice_get cores c ≡ Some core → slice_get crossbar.to c ≡ slice_get core.from 0

-- ---- as the agents are built

-- destination d with the end at d, by a queue at which each core has a seat
pub record ServesBy (w : Setup) (dest : Id) (queues : List QueueName) (marks : List Mark) (d : ℕ) : Type 0 where
  pub mark : Mark
  pub at : slice_get marks d ≡ Some mark
  pub queue : QueueName
  pub by : slice_get queues d ≡ Some queue
  pub is : dest ≡ record { setup = w; number = 8 + d; to = mark ∷ []; from = seats_of queue 0 w.config.cores }

abbrev pub AreServing : Setup → List Id → List QueueName → List Mark → Type 0
AreServing w dests queues marks = (d : ℕ) (dest : Id) → slice_get dests d ≡ Some dest → ServesBy w dest queues marks d
