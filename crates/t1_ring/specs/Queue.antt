-- A request queue, the seats of its cores, and that of its destination, as contracts see them.
use Rattle.std.specs.Prelude.{ℕ, ◌==◌, zero, suc, List, [], ◌∷◌, if◌then◌else◌, ⊤}
use mathlib.Core.List.{IsPrefix}
use Rattle.crossbeam_queue.specs.Fifo.{Held}
use Rattle.t1_packet.specs.Data.{RequestData}
use Rattle.t1_ring.specs.declared.rule.Returned.{Returned}
use Rattle.t1_ring.specs.Ends.{QueueName}

-- which queue it is, and how many requests it holds at most
pub record QueueState : Type 0 where
  pub name : QueueName
  pub capacity : ℕ

-- a seat of the queue, the core that pushes by it, and what it pushed
pub record CoreSeatState : Type 0 where
  pub queue : QueueName
  pub core : ℕ
  pub pushed : List RequestData

-- the destination's seat, how many cores have a seat, what it took, and what each seat pushed that was given
-- back, the last first
pub record DestSeatState : Type 0 where
  pub queue : QueueName
  pub cores : ℕ
  pub taken : List RequestData
  pub back : List Returned

-- the requests of one core, in their order
abbrev pub of_core : ℕ → List RequestData → List RequestData
of_core core [] = []
of_core core (r ∷ rs) = if r.core == core then r ∷ of_core core rs else of_core core rs

-- seats of so many cores from one on, which pushed nothing
abbrev pub seats_from : QueueName → ℕ → ℕ → List CoreSeatState
seats_from queue core zero = []
seats_from queue core (suc n) = record { queue = queue; core = core; pushed = [] } ∷ seats_from queue (suc core) n

-- each core's requests among those that were taken are the first of what its seat pushed, for the seats that are back
abbrev pub AreFirst : List RequestData → List Returned → Type 0
AreFirst taken [] = Unit {0}
AreFirst taken (seat ∷ seats) = IsPrefix (of_core seat.core taken) seat.pushed × AreFirst taken seats

-- the queue was full, or empty, at a moment of the call
abbrev pub WasFull : QueueState → Type 0
WasFull queue = Held {T = RequestData} queue.capacity (λ _. ⊤)

abbrev pub WasEmpty : Type 0
WasEmpty = Held {T = RequestData} 0 (λ _. ⊤)
