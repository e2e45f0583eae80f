-- What each thing that has steps to make counts for, and what the parts of a machine count for by it.
use Rattle.std.specs.Prelude.{ℕ, ◌+◌, ◌-◌, ◌*◌, ◌≤◌, Bool, true, false, List, [], ◌∷◌, length}
use Rattle.t1_sbuf.specs.declared.entry.Entry.{Entry}
use Rattle.t1_core.specs.declared.phase.Phase.{Phase}
use Rattle.t1_core.specs.declared.phase.Phase.TheVariants as phase
use Rattle.t1_core.specs.Threads.{ThreadState}
use Rattle.t1_core.specs.Steps.{CoreState}
use Rattle.t1_machine.specs.Machine.{MachineState}

pub record Weights : Type 0 where
  pub fetch : ℕ  -- a strand between two units, and each unit that it may still begin
  pub have : ℕ  -- a strand that has the word of its unit
  pub out_fetch : ℕ  -- a strand whose fetch is out
  pub out_data : ℕ  -- a strand whose load or atomic is out
  pub store : ℕ  -- a store in a buffer that is not sent
  pub request : ℕ  -- a request in a request ring
  pub served : ℕ  -- an access in a served ring
  pub packet : ℕ  -- a packet in a reply ring
  pub commit : ℕ  -- a record of the log
  pub drop : ℕ  -- what each step takes away

-- each kind of step takes `drop` away: what it leaves, and `drop`, are at most what it began with
pub record Falls (w : Weights) : Type 0 where
  pub hit : w.have + w.drop ≤ w.fetch
  pub asks_fetch : w.out_fetch + w.request + w.drop ≤ w.fetch
  pub word : w.have ≤ w.out_fetch
  pub acts : w.drop ≤ w.have
  pub stores : w.store + w.drop ≤ w.have
  pub asks_data : w.out_data + w.request + w.drop ≤ w.have
  pub drains : w.request + w.drop ≤ w.store
  pub serves : w.served + w.drop ≤ w.request
  pub admits : 8 * w.packet + w.commit + w.drop ≤ w.served
  pub takes : w.drop ≤ w.packet

-- steps: a machine makes at most as many as it weighs
abbrev pub steps : Weights
steps = record { fetch = 24; have = 13; out_fetch = 13; out_data = 2; store = 11; request = 10; served = 9; packet = 1; commit = 0; drop = 1 }

-- commits: those of the log, and those that may still come
abbrev pub commits : Weights
commits = record { fetch = 2; have = 1; out_fetch = 1; out_data = 0; store = 1; request = 1; served = 1; packet = 0; commit = 1; drop = 0 }

-- ---- sums

abbrev pub total : {A : Type 0} → (A → ℕ) → List A → ℕ
total f [] = 0
total f (x ∷ xs) = f x + total f xs

-- how many there are in all rings
abbrev pub lengths : {A : Type 0} → List (List A) → ℕ
lengths rings = total (λ ring. length ring) rings

-- ---- what a strand, a core and a machine weigh

-- a strand in this phase, which may begin so many units after this one
abbrev pub phase_weight : Weights → ℕ → Phase → ℕ
phase_weight w units phase.Fetch = w.fetch + w.fetch * units
phase_weight w units (phase.Have word) = w.have + w.fetch * units
phase_weight w units (phase.OutFetch way seen) = w.out_fetch + w.fetch * units
phase_weight w units (phase.OutData word way seen) = w.out_data + w.fetch * units
phase_weight w units (phase.Ended e) = 0

abbrev pub store_weight : Weights → Bool → ℕ
store_weight w true = 0
store_weight w false = w.store

abbrev pub buffer_weight : Weights → List Entry → ℕ
buffer_weight w [] = 0
buffer_weight w (e ∷ es) = store_weight w e.sent + buffer_weight w es

-- the units that its budget leaves a strand after this one
abbrev pub units_left : ThreadState → ℕ
units_left t = t.budget - (t.strand.units + 1)

abbrev pub thread_weight : Weights → ThreadState → ℕ
thread_weight w t = phase_weight w (units_left t) t.phase + buffer_weight w t.stores

abbrev pub core_weight : Weights → CoreState → ℕ
core_weight w c = total (λ t. thread_weight w t) c.threads

abbrev pub rings_weight : Weights → MachineState → ℕ
rings_weight w m = w.request * lengths m.requests + (w.served * lengths m.served + (w.packet * lengths m.replies + w.commit * length m.xbar.log))

abbrev pub machine_weight : Weights → MachineState → ℕ
machine_weight w m = total (λ c. core_weight w c) m.cores + rings_weight w m

-- ---- the same for the units under way alone, and the units that are done

abbrev pub thread_tokens : Weights → ThreadState → ℕ
thread_tokens w t = phase_weight w 0 t.phase + buffer_weight w t.stores

abbrev pub core_tokens : Weights → CoreState → ℕ
core_tokens w c = total (λ t. thread_tokens w t) c.threads

abbrev pub machine_tokens : Weights → MachineState → ℕ
machine_tokens w m = total (λ c. core_tokens w c) m.cores + rings_weight w m

abbrev pub core_units : CoreState → ℕ
core_units c = total (λ t. t.strand.units) c.threads

-- the units that all strands of a machine did
abbrev pub units_done : MachineState → ℕ
units_done m = total (λ c. core_units c) m.cores
