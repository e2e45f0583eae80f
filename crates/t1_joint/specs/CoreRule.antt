-- The rule of a core, over its own part alone.
use Rattle.std.specs.Prelude.{ℕ, ◌≡◌, ◌+◌, ◌*◌, ◌%◌, ◌<◌, ◌≤◌, ◌⊎◌, true, List, [], ◌∷◌, length, map, Option, Some, None}
use Rattle.std.specs.List.{slice_get}
use Rattle.t1_num.specs.Memory.{IsSize}
use Rattle.t1_shape.specs.Shapes.{Shape}
use Rattle.t1_state.specs.declared.strand.Strand.{Strand}
use Rattle.t1_packet.specs.declared.cache.Cache.TheVariants.{Dcache, Icache}
use Rattle.t1_packet.specs.declared.op.Op.{Op}
use Rattle.t1_packet.specs.declared.op.Op.TheVariants as op
use Rattle.t1_packet.specs.declared.packet.Packet.{Packet}
use Rattle.t1_packet.specs.Data.{RequestData, ReplyData}
use Rattle.t1_packet.specs.Ops.{op_dest, op_size, is_store}
use Rattle.t1_packet.specs.Caches.{layout, filled_line}
use Rattle.t1_packet.specs.declared.cache.Cache.{Cache}
use Rattle.t1_packet.specs.Ops.{asked_way}
use Rattle.t1_event.specs.declared.item.Item.{Item}
use Rattle.t1_event.specs.declared.item.ItemKind.TheVariants as kind
use Rattle.t1_event.specs.declared.item.How.TheVariants.{Unplaced, Commit}
use Rattle.t1_event.specs.declared.trace.Trace.{Trace}
use Rattle.t1_event.specs.declared.trace.Ending.{Ending}
use Rattle.t1_event.specs.Kinds.{IsRead, IsAccess}
use Rattle.t1_event.specs.Items.{reads_of, unplaced, IsIo}
use Rattle.t1_event.specs.Times.{at_of, IsPlaced}
use Rattle.t1_event.specs.Log.{plain_op}
use Rattle.t1_event.specs.Records.{op_of}
use Rattle.t1_joint.specs.Lists.{IsIn, AreDistinct}
use Rattle.t1_joint.specs.Replay.{Bounds, Running, Done}
use Rattle.t1_joint.specs.Follows.{StandsAt, HasBegun}
use Rattle.t1_joint.specs.Start.{Setup, start_in, bounds_in}
use Rattle.t1_joint.specs.Parts.{Standing, Fetching, Has, Out, Ended, CorePart, strand_items, unanswered}
use Rattle.t1_joint.specs.Proper.{AreProper, IsTime, l1_by, victim_by}
use Rattle.t1_joint.specs.Waits.{HasItem, IsInOrder, LetsSend, AreStoresInOrder}
use Rattle.t1_joint.specs.Rows.{RowIn, FewAreHeldIn}

-- ---- requests

-- of a size that there is, and aligned
pub record IsSized (addr size : ℕ) : Type 0 where
  pub size_is : IsSize size
  pub aligned : addr % size ≡ 0

-- an access that a core may ask for: of a size that there is, aligned, a fetch or an atomic in RAM, a load
-- or a store in RAM or I/O space, and with a way of the cache that it fills
abbrev pub IsAsked : Shape → ℕ → Op → Type 0
IsAsked shape ram (op.Fetch addr way) = IsSized addr 4 × (addr < ram) × (way < (layout shape Icache).ways)
IsAsked shape ram (op.Load addr size way) = IsSized addr size × ((addr < ram) ⊎ IsIo addr) × (way < (layout shape Dcache).ways)
IsAsked shape ram (op.Store addr size value) = IsSized addr size × ((addr < ram) ⊎ IsIo addr)
IsAsked shape ram (op.Swap addr size new) = IsSized addr size × (addr < ram)
IsAsked shape ram (op.Cas addr size expect new) = IsSized addr size × (addr < ram)

-- a request that this core may send to this destination, for a strand of its own
pub record IsMeant (w : Setup) (core dest : ℕ) (request : RequestData) : Type 0 where
  pub core_is : request.core ≡ core
  pub strand_is : request.strand < w.config.strands
  pub dest_is : op_dest w.config.chip request.op ≡ dest
  pub asked : IsAsked w.config.chip w.config.ram request.op

-- `seen` never falls, from a bound on
abbrev pub SeenAscends : ℕ → List RequestData → Type 0
SeenAscends low [] = Unit {0}
SeenAscends low (request ∷ requests) = (low ≤ request.seen) × SeenAscends request.seen requests

-- ---- strands as replays

-- a strand that awaits a fetch stands between two units, and one that awaits a load or an atomic in a
-- unit whose word came; no strand awaits a store
abbrev pub IsAwaiting : Bounds → Strand → Strand → List Item → Op → Type 0
IsAwaiting b from state items (op.Fetch addr way) = StandsAt b from state (reads_of items) items Running
IsAwaiting b from state items (op.Load addr size way) = (word : ℕ) × HasBegun b from state items word
IsAwaiting b from state items (op.Swap addr size new) = (word : ℕ) × HasBegun b from state items word
IsAwaiting b from state items (op.Cas addr size expect new) = (word : ℕ) × HasBegun b from state items word
IsAwaiting b from state items (op.Store addr size value) = ⊥

-- a strand in this state, with these items, is its replay so far
abbrev pub IsReplay : Bounds → Strand → Strand → List Item → Standing → Type 0
IsReplay b from state items Fetching = StandsAt b from state (reads_of items) items Running
IsReplay b from state items (Has word) = HasBegun b from state items word
IsReplay b from state items (Out request) = IsAwaiting b from state items request.op
IsReplay b from state items (Ended ending) = StandsAt b from state (reads_of items) items (Done ending)

abbrev pub ending_at : Standing → Option Ending
ending_at Fetching = None
ending_at (Has word) = None
ending_at (Out request) = None
ending_at (Ended ending) = Some ending

-- its trace so far is that of the replay
pub record IsTraceSoFar (b : Bounds) (from state : Strand) (trace : Trace) (standing : Standing) : Type 0 where
  pub replay : IsReplay b from state (map unplaced trace.items) standing
  pub units : state.units ≡ trace.units
  pub pc : state.pc ≡ trace.pc
  pub ending : ending_at standing ≡ trace.ending

-- ---- replies

-- an access that has its place as Commit got the one packet of that index: its reply answers the request of
-- the access
pub record HasCome (received : List Packet) (strand number index seen : ℕ) (x : Item) : Type 0 where
  pub packet : Packet
  pub reply : ReplyData
  pub among : IsIn packet received
  pub index_is : packet.index ≡ index
  pub is : packet.reply ≡ Some reply
  pub strand_is : reply.strand ≡ strand
  pub item_is : reply.item ≡ number
  pub seen_is : reply.seen ≡ seen
  pub size_is : op_size reply.op ≡ x.size
  pub op_is : plain_op reply.op reply.old reply.way ≡ op_of x reply.way x.kind
  pub got : IsRead x.kind → x.got ≡ reply.old

-- the access that a reply answers, in the packet of this index
pub record HasAnswered (p : CorePart) (index : ℕ) (reply : ReplyData) : Type 0 where
  pub item : Item
  pub has : HasItem (strand_items p reply.strand) reply.item item
  pub access : IsAccess item.kind
  pub how : item.how ≡ Commit index reply.seen

-- a request is out: its strand awaits it, or it is of a store of its strand's buffer
abbrev pub IsOut : CorePart → RequestData → Type 0
IsOut p request =
    (p.standing request.strand ≡ Out request)
    ⊎ ((is_store request.op ≡ true) × IsIn request.item (p.waiting request.strand))

-- ---- the rule

-- what holds where the packets that the core received are proper
pub record KeepsRule (w : Setup) (core : ℕ) (p : CorePart) : Type 0 where
  -- an access placed as Commit has its packet, and a reply answers such an access
  pub placed : (s i index seen : ℕ) (x : Item) → HasItem (strand_items p s) i x → x.how ≡ Commit index seen → HasCome p.received s i index seen x
  pub replies : (packet : Packet) (reply : ReplyData) → IsIn packet p.received → packet.reply ≡ Some reply → HasAnswered p packet.index reply
  -- what is unanswered is out, and what is out is unanswered; nothing is twice
  pub out : (d : ℕ) (r : RequestData) → IsIn r (unanswered w.config.chip core p.sent p.received d) → IsOut p r
  pub awaited : (s : ℕ) (r : RequestData) → p.standing s ≡ Out r → IsIn r (unanswered w.config.chip core p.sent p.received (op_dest w.config.chip r.op))
  pub stored : (s : ℕ) (r : RequestData) → IsIn r (p.sending s) → IsIn r (unanswered w.config.chip core p.sent p.received (op_dest w.config.chip r.op))
  pub distinct : (d : ℕ) → AreDistinct (unanswered w.config.chip core p.sent p.received d)
  -- each read has a place, and the stores without one are those of the buffers
  pub reads : (s i : ℕ) (x : Item) → HasItem (strand_items p s) i x → IsRead x.kind → IsPlaced x.how
  pub stores : (s i : ℕ) (x : Item) → HasItem (strand_items p s) i x → x.kind ≡ kind.Store → x.how ≡ Unplaced → IsIn i (p.waiting s)
  pub waits : (s i : ℕ) → IsIn i (p.waiting s) → (x : Item) × HasItem (strand_items p s) i x × (x.kind ≡ kind.Store) × (x.how ≡ Unplaced)
  -- times
  pub ascends : (d : ℕ) → SeenAscends 0 (p.sent d)
  pub times : (s i : ℕ) (x : Item) → HasItem (strand_items p s) i x → IsTime p.received (at_of x.how)
  pub sent_times : (d : ℕ) (r : RequestData) → IsIn r (p.sent d) → IsTime p.received r.seen
  -- program order
  pub order : (s : ℕ) → IsInOrder (strand_items p s)
  pub store_order : (s i j : ℕ) (x y : Item) → i < j → HasItem (strand_items p s) i x → HasItem (strand_items p s) j y
      → x.kind ≡ kind.Store → y.kind ≡ kind.Store → IsPlaced y.how → AreStoresInOrder w.config.chip x y
  pub out_order : (s i : ℕ) (r : RequestData) (x : Item) → IsIn r (p.sending s) → i < r.item → HasItem (strand_items p s) i x
      → x.kind ≡ kind.Store → LetsSend w.config.chip (op_dest w.config.chip r.op) r.seen x
  -- places
  pub rows : (s i : ℕ) (x : Item) → HasItem (strand_items p s) i x → IsAccess x.kind
      → RowIn w.config.chip w.config.ram (l1_by w.config.chip core p.received) (strand_items p s) i x x.kind
  pub few : (s i : ℕ) (x : Item) → HasItem (strand_items p s) i x → IsRead x.kind → FewAreHeldIn (strand_items p s) i (at_of x.how)
  -- a fetch or load asks for the victim of its cache when it was sent
  pub ways : (d : ℕ) (r : RequestData) (cache : Cache) (line : ℕ) → IsIn r (p.sent d) → filled_line cache r.op ≡ Some line
      → asked_way r.op ≡ victim_by w.config.chip core p.received r.seen cache line
  -- each strand is its replay so far
  pub follows : (s : ℕ) (trace : Trace) → slice_get p.traces s ≡ Some trace
      → IsTraceSoFar (bounds_in w.config) (start_in w.config w.image.entry (core * w.config.strands + s)) (p.state s) trace (p.standing s)

-- the part of a core: the first two hold whatever packets came
pub record IsCore (w : Setup) (core : ℕ) (p : CorePart) : Type 0 where
  pub size : length p.traces ≡ w.config.strands
  pub meant : (d : ℕ) (r : RequestData) → IsIn r (p.sent d) → IsMeant w core d r
  pub kept : AreProper w.config.chip core p.sent p.received → KeepsRule w core p
