-- Packets as a core may count on, and its caches by the packets that it received.
use Rattle.std.specs.Prelude.{ℕ, suc, ◌≡◌, ◌+◌, ◌*◌, ◌^◌, ◌<◌, ◌≤◌, ◌⊎◌, nat_lt, true, List, [], ◌∷◌, Option, Some, None}
use Rattle.std.specs.List.{filter}
use Rattle.t1_num.specs.MemoryLaws.{AreBytes}
use Rattle.t1_shape.specs.Shapes.{Shape}
use Rattle.t1_shape.specs.Slots.{Line, victim_of}
use Rattle.t1_space.specs.Places.{is_io}
use Rattle.t1_packet.specs.declared.cache.Cache.{Cache}
use Rattle.t1_packet.specs.declared.cache.Cache.TheVariants.{Dcache, Icache}
use Rattle.t1_packet.specs.declared.op.Op.{Op}
use Rattle.t1_packet.specs.declared.op.Op.TheVariants.{Fetch, Load, Store, Swap, Cas}
use Rattle.t1_packet.specs.declared.packet.Packet.{Packet}
use Rattle.t1_packet.specs.Data.{KillData, RequestData, ReplyData}
use Rattle.t1_packet.specs.Ops.{op_size}
use Rattle.t1_packet.specs.Caches.{layout}
use Rattle.t1_packet.specs.Packets.{with_packet, pointers_with_packet}
use Rattle.t1_event.specs.Posts.{no_lines, no_pointers}
use Rattle.t1_joint.specs.Lists.{IsIn, IsPrefix}
use Rattle.t1_joint.specs.Parts.{answered}

-- ---- proper packets

-- indexes ascend, from a bound on
abbrev pub IndexesAscend : ℕ → List Packet → Type 0
IndexesAscend low [] = Unit {0}
IndexesAscend low (packet ∷ packets) = (low ≤ packet.index) × IndexesAscend (suc packet.index) packets

-- a kill of this core, whose set and way are of the cache
pub record IsKillOf (shape : Shape) (core : ℕ) (kill : KillData) : Type 0 where
  pub core_is : kill.core ≡ core
  pub set_is : kill.set < (layout shape kill.cache).sets
  pub way_is : kill.way < (layout shape kill.cache).ways

abbrev pub IsWayOf : Shape → Cache → Option ℕ → Type 0
IsWayOf shape cache None = Unit {0}
IsWayOf shape cache (Some way) = way < (layout shape cache).ways

-- the way that a reply may have: none, or, for a fetch or a load from RAM, one of the cache that it fills
abbrev pub IsReplyWay : Shape → Op → Option ℕ → Type 0
IsReplyWay shape (Fetch addr asked) way = IsWayOf shape Icache way
IsReplyWay shape (Load addr size asked) way = IsWayOf shape Dcache way × (is_io addr ≡ true → way ≡ None)
IsReplyWay shape (Store addr size value) way = way ≡ None
IsReplyWay shape (Swap addr size new) way = way ≡ None
IsReplyWay shape (Cas addr size expect new) way = way ≡ None

-- a load from I/O reads 0
abbrev pub IsIoZero : Op → ℕ → Type 0
IsIoZero (Load addr size asked) old = is_io addr ≡ true → old ≡ 0
IsIoZero (Fetch addr asked) old = Unit {0}
IsIoZero (Store addr size value) old = Unit {0}
IsIoZero (Swap addr size new) old = Unit {0}
IsIoZero (Cas addr size expect new) old = Unit {0}

-- a reply that a core takes, in the packet of this index
pub record IsProperReply (shape : Shape) (index : ℕ) (reply : ReplyData) : Type 0 where
  pub way : IsReplyWay shape reply.op reply.way
  pub old : reply.old < 2 ^ (8 * op_size reply.op)
  pub io : IsIoZero reply.op reply.old
  pub seen : reply.seen ≤ index
  pub line : AreBytes reply.line

-- the packets that a core received are proper for the requests that it sent
pub record AreProper (shape : Shape) (core : ℕ) (sent : ℕ → List RequestData) (received : List Packet) : Type 0 where
  pub ascend : IndexesAscend 0 received
  pub small : (packet : Packet) → IsIn packet received → packet.index < 4294967295
  pub kills : (packet : Packet) (kill : KillData) → IsIn packet received → IsIn kill packet.kills → IsKillOf shape core kill
  pub replies : (packet : Packet) (reply : ReplyData) → IsIn packet received → packet.reply ≡ Some reply → IsProperReply shape packet.index reply
  -- for each destination the replies answer, in order, the first of the requests
  pub order : (dest : ℕ) → IsPrefix (answered shape core dest received) (sent dest)

-- ---- caches by packets

-- the packets below a time
abbrev pub packets_before : ℕ → List Packet → List Packet
packets_before t packets = filter (λ packet. nat_lt packet.index t) packets

-- the slots of a cache after packets, oldest first, and the pointers of its sets
abbrev pub slots_after : Shape → ℕ → Cache → List (Option Line) → List Packet → List (Option Line)
slots_after shape core cache slots [] = slots
slots_after shape core cache slots (packet ∷ packets) = slots_after shape core cache (with_packet shape core cache packet slots) packets

abbrev pub pointers_after : Shape → Cache → List ℕ → List Packet → List ℕ
pointers_after shape cache pointers [] = pointers
pointers_after shape cache pointers (packet ∷ packets) = pointers_after shape cache (pointers_with_packet shape cache packet pointers) packets

-- a core's cache after the received packets below a time
abbrev pub l1_by : Shape → ℕ → List Packet → ℕ → Cache → List (Option Line)
l1_by shape core received t cache = slots_after shape core cache (no_lines shape cache) (packets_before t received)

abbrev pub pointers_by : Shape → List Packet → ℕ → Cache → List ℕ
pointers_by shape received t cache = pointers_after shape cache (no_pointers shape cache) (packets_before t received)

-- the way that a fill of a line takes in these caches
abbrev pub victim_by : Shape → ℕ → List Packet → ℕ → Cache → ℕ → ℕ
victim_by shape core received t cache line =
    victim_of (layout shape cache) (l1_by shape core received t cache) (pointers_by shape received t cache) line

-- 0, or one past the index of a packet that came
abbrev pub IsTime : List Packet → ℕ → Type 0
IsTime received t = (t ≡ 0) ⊎ ((packet : Packet) × IsIn packet received × (t ≡ packet.index + 1))
