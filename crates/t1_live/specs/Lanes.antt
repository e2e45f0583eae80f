-- The ways of a core to the destinations, by their request queues, and what a destination took by its queue.
use Rattle.std.specs.Prelude.{ℕ, ◌≡◌, ◌+◌, ◌-◌, zero, suc, List, [], ◌∷◌, Option, Some, None}
use Rattle.t1_packet.specs.Data.{RequestData}
use Rattle.t1_ring.specs.Ends.{QueueName, Mark, Port, Seat}
use Rattle.t1_ring.specs.Queue.{CoreSeatState, of_core, seats_from}

-- ---- a core: a request that the queue handed back is kept, and sent all the same

abbrev pub kept_of : Option RequestData → List RequestData
kept_of None = []
kept_of (Some request) = request ∷ []

-- there is room for one request exactly where none is kept
abbrev pub room_for_one : Option RequestData → ℕ
room_for_one None = 1
room_for_one (Some request) = 0

abbrev pub IsOfCore : ℕ → Option RequestData → Type 0
IsOfCore core None = Unit {0}
IsOfCore core (Some request) = request.core ≡ core

-- the core of a seat
abbrev pub core_of : Mark → ℕ
core_of (Port words slots names) = 0
core_of (Seat queue core) = core

-- all seats are of one core
abbrev pub AreOf : ℕ → List Mark → Type 0
AreOf core [] = Unit {0}
AreOf core (mark ∷ marks) = (core_of mark ≡ core) × AreOf core marks

-- a core's seat at each of the queues
abbrev pub seats_at : ℕ → List QueueName → List Mark
seats_at core [] = []
seats_at core (queue ∷ queues) = Seat queue core ∷ seats_at core queues

-- ---- a destination: the seats at its queue of so many cores from one on, and what was taken of each

abbrev pub seats_of : QueueName → ℕ → ℕ → List Mark
seats_of queue core zero = []
seats_of queue core (suc n) = Seat queue core ∷ seats_of queue (suc core) n

abbrev pub by_core : List RequestData → ℕ → ℕ → List (List RequestData)
by_core taken core zero = []
by_core taken core (suc n) = of_core core taken ∷ by_core taken (suc core) n

-- ---- as the agents are built: a queue, with the seats that no core has yet

pub record HubState : Type 0 where
  pub queue : QueueName
  pub seats : List CoreSeatState

abbrev pub queues_of : List HubState → List QueueName
queues_of [] = []
queues_of (hub ∷ hubs) = hub.queue ∷ queues_of hubs

-- the cores below one have their seats
abbrev pub hub_at : ℕ → ℕ → QueueName → HubState
hub_at core cores queue = record { queue = queue; seats = seats_from queue core (cores - core) }

-- the first n queues gave a seat to this core, and the others none yet
abbrev pub hubs_at : ℕ → ℕ → ℕ → List QueueName → List HubState
hubs_at n core cores [] = []
hubs_at zero core cores (queue ∷ queues) = hub_at core cores queue ∷ hubs_at zero core cores queues
hubs_at (suc n) core cores (queue ∷ queues) = hub_at (core + 1) cores queue ∷ hubs_at n core cores queues
