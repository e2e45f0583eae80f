-- The parts of a run, as plain lists: what each core, each destination and the crossbar did.
use Rattle.std.specs.Prelude.{ℕ, ◌==◌, if◌then◌else◌, suc, List, [], ◌∷◌, length, get_or, map, drop, Option, Some, None}
use Rattle.std.specs.List.{filter}
use Rattle.t1_shape.specs.Shapes.{Shape}
use Rattle.t1_state.specs.declared.strand.Strand.{Strand}
use Rattle.t1_packet.specs.declared.packet.Packet.{Packet}
use Rattle.t1_packet.specs.declared.served.Served.{Served}
use Rattle.t1_packet.specs.Data.{RequestData, ReplyData}
use Rattle.t1_packet.specs.Ops.{op_dest}
use Rattle.t1_packet.specs.Packets.{packet_to}
use Rattle.t1_event.specs.declared.item.Item.{Item}
use Rattle.t1_event.specs.declared.trace.Trace.{Trace}
use Rattle.t1_event.specs.declared.trace.Ending.{Ending}
use Rattle.t1_event.specs.declared.commit.Commit.{Commit}
use Rattle.t1_event.specs.Items.{items_of}

-- ---- parts

-- how a strand stands: between two units; in a unit whose word came; with a fetch, load or atomic that
-- is sent and unanswered; or at its end
pub data Standing : Type 0 where
  Fetching : Standing
  Has : ℕ → Standing
  Out : RequestData → Standing
  Ended : Ending → Standing

-- a core's part: of each strand its trace so far, its state, how it stands, the numbers of the stores
-- that its buffer holds, oldest first, and the requests of those that are sent, oldest first; the
-- packets that the core received, and the requests that it sent to each destination
pub record CorePart : Type 0 where
  pub traces : List Trace
  pub state : ℕ → Strand
  pub standing : ℕ → Standing
  pub waiting : ℕ → List ℕ
  pub sending : ℕ → List RequestData
  pub received : List Packet
  pub sent : ℕ → List RequestData

-- the items of a strand
abbrev pub strand_items : CorePart → ℕ → List Item
strand_items p strand = get_or (items_of p.traces) strand []

-- a destination's part: the requests that it received from each core, and what it served
pub record DestinationPart : Type 0 where
  pub received : ℕ → List RequestData
  pub served : List Served

-- the crossbar's part: the accesses that it received from each destination; those that it admitted, in
-- the log's order; the log; and the packets that it sent to each core
pub record CrossbarPart : Type 0 where
  pub received : ℕ → List Served
  pub admitted : List Served
  pub log : List Commit
  pub posted : ℕ → List Packet

pub record Parts : Type 0 where
  pub core : ℕ → CorePart
  pub destination : ℕ → DestinationPart
  pub crossbar : CrossbarPart

-- ---- packets and what they answer

abbrev pub posted_before : Option Packet → List Packet → List Packet
posted_before None packets = packets
posted_before (Some packet) packets = packet ∷ packets

-- the packets to a core of these accesses, which are admitted from an index on
abbrev pub posts_from : ℕ → ℕ → List Served → List Packet
posts_from core index [] = []
posts_from core index (access ∷ accesses) = posted_before (packet_to core index access) (posts_from core (suc index) accesses)

abbrev pub requests_of : List Served → List RequestData
requests_of accesses = map (λ access. access.request) accesses

-- the accesses that one core asked for
abbrev pub asked_by : ℕ → List Served → List Served
asked_by core accesses = filter (λ access. access.request.core == core) accesses

-- the accesses of one destination
abbrev pub served_at : Shape → ℕ → List Served → List Served
served_at shape dest accesses = filter (λ access. op_dest shape access.request.op == dest) accesses

-- the request that a reply to this core answers
abbrev pub answers : ℕ → ReplyData → RequestData
answers core reply = record { core = core; strand = reply.strand; item = reply.item; seen = reply.seen; op = reply.op }

abbrev pub answered_by : Shape → ℕ → ℕ → Option ReplyData → List RequestData → List RequestData
answered_by shape core dest None requests = requests
answered_by shape core dest (Some reply) requests = if op_dest shape reply.op == dest then answers core reply ∷ requests else requests

-- the requests to a destination that these packets answer, in order
abbrev pub answered : Shape → ℕ → ℕ → List Packet → List RequestData
answered shape core dest [] = []
answered shape core dest (packet ∷ packets) = answered_by shape core dest packet.reply (answered shape core dest packets)

-- the requests to a destination that are sent and unanswered: those behind as many as are answered
abbrev pub unanswered : Shape → ℕ → (ℕ → List RequestData) → List Packet → ℕ → List RequestData
unanswered shape core sent received dest = drop (length (answered shape core dest received)) (sent dest)
