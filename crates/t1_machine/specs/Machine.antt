-- The serial machine: its state, and what each slot does to it. A slot that is not enabled has no step.
use Rattle.std.specs.Prelude.{ℕ, zero, suc, ◌+◌, ◌*◌, ◌==◌, ◌≡◌, ◌<◌, ◌≤◌, nat_lt, Bool, true, false, is_some, if◌then◌else◌, List, [], ◌∷◌, ◌++◌, length, get_or, set, Option, Some, None}
use Rattle.std.specs.List.{slice_get}
use Rattle.t1_num.specs.declared.chip.ChipKind.TheVariants.{T1}
use Rattle.t1_shape.specs.Shapes.{Shape}
use Rattle.t1_shape.specs.Numbers.{banks}
use Rattle.t1_packet.specs.declared.packet.Packet.{Packet}
use Rattle.t1_packet.specs.declared.served.Served.{Served}
use Rattle.t1_packet.specs.Data.{RequestData}
use Rattle.t1_event.specs.BankRule.{BankState, bank_start}
use Rattle.t1_joint.specs.Fit.{serves, destination_with}
use Rattle.t1_core.specs.declared.answers.Did.{Did}
use Rattle.t1_core.specs.declared.answers.Did.TheVariants as did
use Rattle.t1_core.specs.declared.answers.Drained.{Drained}
use Rattle.t1_core.specs.declared.answers.Drained.TheVariants as drained
use Rattle.t1_core.specs.Steps.{CoreState, CoreDrained, drain_of}
use Rattle.t1_core.specs.Takes.{take_of}
use Rattle.t1_core.specs.Turns.{Turned, turn_of}
use Rattle.t1_xbar.specs.declared.admitted.Post.{Post}
use Rattle.t1_xbar.specs.declared.admitted.Admitted.{Admitted}
use Rattle.t1_xbar.specs.declared.admitted.Admitted.TheVariants as admitted
use Rattle.t1_xbar.specs.Admission.{XbarState, Admission, admission}
use Rattle.t1_machine.specs.Rings.{is_empty}
use Rattle.t1_machine.specs.declared.slot.Slot.{Slot}
use Rattle.t1_machine.specs.declared.slot.Slot.TheVariants as slot

-- the chip; the cores; a request ring for each core and destination, a served ring for each destination and a reply
-- ring for each core, oldest first; the banks; the core that each destination tries first; the crossbar
pub record MachineState : Type 0 where
  pub chip : Shape
  pub cores : List CoreState
  pub requests : List (List RequestData)
  pub served : List (List Served)
  pub replies : List (List Packet)
  pub banks : List BankState
  pub tried : List ℕ
  pub xbar : XbarState

-- ---- rings

-- the room of a request ring, of a served ring, and of a reply ring
abbrev pub most_requests : ℕ
most_requests = 2

abbrev pub most_served : ℕ
most_served = 2

abbrev pub most_replies : ℕ
most_replies = 16

-- the most destinations of a chip; each chip has rings for so many, of which it uses those of its own
abbrev pub most_dests : ℕ
most_dests = 9

-- the place of the ring of a core to a destination
abbrev pub ring_place : ℕ → ℕ → ℕ
ring_place core dest = most_dests * core + dest

abbrev pub ring_of : List (List RequestData) → ℕ → ℕ → List RequestData
ring_of requests core dest = get_or requests (ring_place core dest) []

abbrev pub request_pushed : List (List RequestData) → ℕ → ℕ → RequestData → List (List RequestData)
request_pushed requests core dest r = set requests (ring_place core dest) (ring_of requests core dest ++ r ∷ [])

-- 1 where a ring has room for more, else 0
abbrev pub room_bit : {A : Type 0} → ℕ → List A → ℕ
room_bit most ring = if nat_lt (length ring) most then 1 else 0

-- a word with a bit for each of n destinations, from one on, to which a core's request ring has room
abbrev pub rooms_from : List (List RequestData) → ℕ → ℕ → ℕ → ℕ
rooms_from requests core dest zero = 0
rooms_from requests core dest (suc n) = room_bit most_requests (ring_of requests core dest) + 2 * rooms_from requests core (dest + 1) n

unfoldable pub request_rooms : List (List RequestData) → ℕ → ℕ
request_rooms requests core = rooms_from requests core 0 most_dests

-- a word with a bit for each core whose reply ring has room
unfoldable pub reply_rooms : List (List Packet) → ℕ
reply_rooms [] = 0
reply_rooms (ring ∷ rings) = room_bit most_replies ring + 2 * reply_rooms rings

-- ---- exec: the least recently picked of a core's ready strands goes on

abbrev pub with_core : MachineState → ℕ → CoreState → List (List RequestData) → MachineState
with_core m c core requests = record m { cores = set m.cores c core; requests = requests }

abbrev pub requests_after : List (List RequestData) → ℕ → Did → List (List RequestData)
requests_after requests c did.Moved = requests
requests_after requests c (did.Waits wait) = requests
requests_after requests c (did.Sent dest r) = request_pushed requests c dest r

abbrev pub exec_did : MachineState → ℕ → CoreState → Option Did → Option MachineState
exec_did m c core None = None
exec_did m c core (Some did) = Some (with_core m c core (requests_after m.requests c did))

abbrev pub exec_turned : MachineState → ℕ → Turned → Option MachineState
exec_turned m c turned = exec_did m c turned.core turned.did

abbrev pub exec_in : MachineState → ℕ → Option CoreState → Option MachineState
exec_in m c None = None
exec_in m c (Some core) = exec_turned m c (turn_of core (request_rooms m.requests c))

-- ---- drain: a strand's oldest unsent store is sent

abbrev pub drain_did : MachineState → ℕ → CoreState → Drained → Option MachineState
drain_did m c core (drained.Sent dest r) = Some (with_core m c core (request_pushed m.requests c dest r))
drain_did m c core drained.Empty = None
drain_did m c core drained.Out = None
drain_did m c core (drained.NoRoom dest) = None

abbrev pub drain_drained : MachineState → ℕ → CoreDrained → Option MachineState
drain_drained m c drained = drain_did m c drained.core drained.did

abbrev pub drain_in : MachineState → ℕ → ℕ → Option CoreState → Option MachineState
drain_in m c s None = None
drain_in m c s (Some core) = drain_drained m c (drain_of core s (request_rooms m.requests c))

-- ---- take: a core takes the oldest packet of its reply ring

abbrev pub take_from : MachineState → ℕ → CoreState → List Packet → Option MachineState
take_from m c core [] = None
take_from m c core (packet ∷ rest) = Some (record m { cores = set m.cores c (take_of core packet); replies = set m.replies c rest })

abbrev pub take_in : MachineState → ℕ → Option CoreState → Option MachineState
take_in m c None = None
take_in m c (Some core) = take_from m c core (get_or m.replies c [])

-- ---- serve: a destination serves the oldest request of the first core that asks, tried cyclically

abbrev pub core_after : ℕ → ℕ → ℕ
core_after cores c = if c + 1 == cores then 0 else c + 1

-- the first of n cores, cyclically from one on, whose ring to the destination holds a request
unfoldable pub asker_from : List (List RequestData) → ℕ → ℕ → ℕ → ℕ → Option ℕ
asker_from requests cores dest c zero = None
asker_from requests cores dest c (suc n) = if is_empty (ring_of requests c dest) then asker_from requests cores dest (core_after cores c) n else Some c

-- the bank of a destination; the I/O bridge has none, and keeps nothing
abbrev pub bank_of : List BankState → ℕ → BankState
bank_of banks d = get_or banks d (bank_start T1 d 0 0 [])

abbrev pub serving : MachineState → ℕ → ℕ → RequestData → List RequestData → MachineState
serving m d c r rest = record m {
  requests = set m.requests (ring_place c d) rest;
  served = set m.served d (get_or m.served d [] ++ serves m.chip d (bank_of m.banks d) r ∷ []);
  banks = set m.banks d (destination_with m.chip d (bank_of m.banks d) r);
  tried = set m.tried d (core_after (length m.cores) c);
}

abbrev pub serve_ring : MachineState → ℕ → ℕ → List RequestData → Option MachineState
serve_ring m d c [] = None
serve_ring m d c (r ∷ rest) = Some (serving m d c r rest)

abbrev pub serve_core : MachineState → ℕ → Option ℕ → Option MachineState
serve_core m d None = None
serve_core m d (Some c) = serve_ring m d c (ring_of m.requests c d)

abbrev pub serve_if : MachineState → ℕ → Bool → Option MachineState
serve_if m d false = None
serve_if m d true = serve_core m d (asker_from m.requests (length m.cores) d (get_or m.tried d 0) (length m.cores))

-- ---- admit: the crossbar admits the oldest access that a destination served, and posts its packets

abbrev pub post_pushed : List (List Packet) → Post → List (List Packet)
post_pushed replies post = set replies post.core (get_or replies post.core [] ++ post.packet ∷ [])

unfoldable pub posts_pushed : List Post → List (List Packet) → List (List Packet)
posts_pushed [] replies = replies
posts_pushed (post ∷ posts) replies = post_pushed (posts_pushed posts replies) post

abbrev pub admit_answer : MachineState → ℕ → List Served → XbarState → Admitted → Option MachineState
admit_answer m d rest xbar (admitted.Done index posts) = Some (record m { served = set m.served d rest; replies = posts_pushed posts m.replies; xbar = xbar })
admit_answer m d rest xbar (admitted.NotSeen seen len) = None
admit_answer m d rest xbar (admitted.NoRoom core) = None

abbrev pub admit_as : MachineState → ℕ → List Served → Admission → Option MachineState
admit_as m d rest a = admit_answer m d rest a.xbar a.answer

abbrev pub admit_from : MachineState → ℕ → List Served → Option MachineState
admit_from m d [] = None
admit_from m d (access ∷ rest) = admit_as m d rest (admission m.xbar d access (reply_rooms m.replies))

-- ---- all

-- the machine after a slot, where the slot is enabled
abbrev pub stepped : MachineState → Slot → Option MachineState
stepped m (slot.Exec core) = exec_in m core (slice_get m.cores core)
stepped m (slot.Drain core strand) = drain_in m core strand (slice_get m.cores core)
stepped m (slot.Take core) = take_in m core (slice_get m.cores core)
stepped m (slot.Serve dest) = serve_if m dest (nat_lt (length (get_or m.served dest [])) most_served)
stepped m (slot.Admit dest) = admit_from m dest (get_or m.served dest [])

abbrev pub is_enabled : MachineState → Slot → Bool
is_enabled m s = is_some (stepped m s)

abbrev pub or_same : MachineState → Option MachineState → MachineState
or_same m None = m
or_same m (Some next) = next

-- the machine after a slot; one that is not enabled changes nothing
abbrev pub after_slot : MachineState → Slot → MachineState
after_slot m s = or_same m (stepped m s)

-- ---- what stands at every step

-- how many parts and rings of each kind there are
pub record IsShaped (chip : Shape) (cores requests served replies all tried : ℕ) : Type 0 where
  pub some : 1 ≤ cores
  pub few : cores ≤ 8
  pub all_requests : requests ≡ 9 * cores
  pub all_served : served ≡ 9
  pub all_replies : replies ≡ cores
  pub all_banks : all ≡ banks chip
  pub all_tried : tried ≡ 9

-- where a destination served an access, the log has room for its record
abbrev pub HasSpare : MachineState → Type 0
HasSpare m = (d : ℕ) (access : Served) (rest : List Served) → get_or m.served d [] ≡ access ∷ rest → (length m.xbar.log < m.xbar.room) × (length m.xbar.log < 4294967295)
