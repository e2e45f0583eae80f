-- Histories of a core: its calls, what it received, and what it sent.
use Rattle.std.specs.Prelude.{ℕ, List, [], ◌∷◌, ◌++◌, Option, Some, None}
use Rattle.t1_packet.specs.declared.packet.Packet.{Packet}
use Rattle.t1_packet.specs.Data.{RequestData}
use Rattle.t1_core.specs.declared.answers.Did.{Did}
use Rattle.t1_core.specs.declared.answers.Did.TheVariants as did
use Rattle.t1_core.specs.declared.answers.Drained.{Drained}
use Rattle.t1_core.specs.declared.answers.Drained.TheVariants as drained
use Rattle.t1_core.specs.Steps.{CoreState, exec_of, drain_of}
use Rattle.t1_core.specs.Takes.{take_of}
use Rattle.t1_core.specs.Turns.{turn_of}
use Rattle.t1_core.specs.Start.{new_core}
use Rattle.t1_joint.specs.Start.{Setup}

-- a core, the packets that came, oldest first, each that was taken or passed over, and the requests in the
-- order in which they were sent
pub record History : Type 0 where
  pub core : CoreState
  pub received : List Packet
  pub sent : List RequestData

-- the requests that an exec, a turn or a drain sends
abbrev pub asked_by : Did → List RequestData
asked_by did.Moved = []
asked_by (did.Sent dest request) = request ∷ []
asked_by (did.Waits wait) = []

abbrev pub turned_by : Option Did → List RequestData
turned_by None = []
turned_by (Some did) = asked_by did

abbrev pub drained_by : Drained → List RequestData
drained_by (drained.Sent dest request) = request ∷ []
drained_by drained.Empty = []
drained_by drained.Out = []
drained_by (drained.NoRoom dest) = []

-- a strand executes, the least recently picked of the ready strands does, or a strand drains, where the
-- rings of these destinations have room; or a packet is taken, whichever it is
pub data Call : Type 0 where
  Exec : ℕ → ℕ → Call
  Turn : ℕ → Call
  Drain : ℕ → ℕ → Call
  Take : Packet → Call

abbrev pub after_exec : History → ℕ → ℕ → History
after_exec h strand room =
    let a = exec_of h.core strand room in record { core = a.core; received = h.received; sent = h.sent ++ asked_by a.did }

abbrev pub after_turn : History → ℕ → History
after_turn h room =
    let a = turn_of h.core room in record { core = a.core; received = h.received; sent = h.sent ++ turned_by a.did }

abbrev pub after_drain : History → ℕ → ℕ → History
after_drain h strand room =
    let a = drain_of h.core strand room in record { core = a.core; received = h.received; sent = h.sent ++ drained_by a.did }

abbrev pub after_take : History → Packet → History
after_take h packet = record { core = take_of h.core packet; received = h.received ++ packet ∷ []; sent = h.sent }

abbrev pub after_call : History → Call → History
after_call h (Exec strand room) = after_exec h strand room
after_call h (Turn room) = after_turn h room
after_call h (Drain strand room) = after_drain h strand room
after_call h (Take packet) = after_take h packet

unfoldable pub after_calls : History → List Call → History
after_calls h [] = h
after_calls h (call ∷ calls) = after_calls (after_call h call) calls

-- a new core, to which nothing came
abbrev pub begun : Setup → ℕ → History
begun w core = record { core = new_core w.config core w.image.entry; received = []; sent = [] }
