-- The packets that commits post to the cores, and a core's L1 caches by its packets.
use Rattle.std.specs.Prelude.{ℕ, zero, suc, ◌*◌, ◌%◌, ◌==◌, if◌then◌else◌, List, ◌++◌, take, drop, replicate, Option, Some, None}
use Rattle.std.specs.List.{slice_get}
use Rattle.t1_shape.specs.Shapes.{Shape}
use Rattle.t1_shape.specs.Slots.{Line, slots_in, victim_of}
use Rattle.t1_packet.specs.declared.cache.Cache.{Cache}
use Rattle.t1_packet.specs.declared.cache.Cache.TheVariants.{Dcache, Icache}
use Rattle.t1_packet.specs.declared.op.Op.{Op}
use Rattle.t1_packet.specs.declared.op.Op.TheVariants.{Fetch, Load, Store, Swap, Cas}
use Rattle.t1_packet.specs.declared.packet.Packet.{Packet}
use Rattle.t1_packet.specs.Data.{ReplyData}
use Rattle.t1_packet.specs.Caches.{layout, width, line_of}
use Rattle.t1_packet.specs.Packets.{packet_of, kills_to, with_packet, pointers_with_packet}
use Rattle.t1_event.specs.declared.commit.Commit.{Commit}
use Rattle.t1_event.specs.Log.{core_of, memory_at}

-- ---- posts

-- the bytes of a line of memory
abbrev pub memory_line : Cache → List ℕ → ℕ → List ℕ
memory_line cache memory line = take (width cache) (drop (line * width cache) memory)

-- the line of a fill as memory has it, with zeros after it to 32 bytes; zeros where there is no fill
abbrev pub reply_line : List ℕ → Op → Option ℕ → List ℕ
reply_line memory (Fetch addr asked) (Some way) = memory_line Icache memory (line_of Icache addr)
reply_line memory (Load addr size asked) (Some way) = memory_line Dcache memory (line_of Dcache addr) ++ replicate 16 0
reply_line memory (Fetch addr asked) None = replicate 32 0
reply_line memory (Load addr size asked) None = replicate 32 0
reply_line memory (Store addr size value) way = replicate 32 0
reply_line memory (Swap addr size new) way = replicate 32 0
reply_line memory (Cas addr size expect new) way = replicate 32 0

-- the reply of a commit; `memory` is memory before it
abbrev pub reply_of : ℕ → List ℕ → Commit → ReplyData
reply_of strands memory commit = record {
  strand = commit.strand % strands;
  item = commit.item;
  seen = commit.seen;
  op = commit.op;
  old = commit.old;
  way = commit.way;
  line = reply_line memory commit.op commit.way;
}

-- the packet of a commit to a core, or none: the core's first kills, and the reply where it asked
abbrev pub post_of : ℕ → List ℕ → ℕ → ℕ → Commit → Option Packet
post_of strands memory index core commit =
    packet_of index (if core_of strands commit == core then Some (reply_of strands memory commit) else None) (kills_to core commit.kills)

abbrev pub post_by : ℕ → List ℕ → ℕ → ℕ → Option Commit → Option Packet
post_by strands memory index core None = None
post_by strands memory index core (Some commit) = post_of strands memory index core commit

-- the packet that commit n posts to a core, or none
abbrev pub post_at : ℕ → List ℕ → List Commit → ℕ → ℕ → Option Packet
post_at strands image log core n = post_by strands (memory_at image log n) n core (slice_get log n)

-- ---- caches by packets

-- a cache that holds nothing, and its pointers; opaque, as so many slots that a goal computes stop a check
unfoldable pub no_lines : Shape → Cache → List (Option Line)
no_lines shape cache = replicate (slots_in (layout shape cache)) None

unfoldable pub no_pointers : Shape → Cache → List ℕ
no_pointers shape cache = replicate (layout shape cache).sets 0

abbrev pub with_post : Shape → ℕ → Cache → Option Packet → List (Option Line) → List (Option Line)
with_post shape core cache None slots = slots
with_post shape core cache (Some packet) slots = with_packet shape core cache packet slots

abbrev pub pointers_with_post : Shape → Cache → Option Packet → List ℕ → List ℕ
pointers_with_post shape cache None pointers = pointers
pointers_with_post shape cache (Some packet) pointers = pointers_with_packet shape cache packet pointers

-- the slots of a core's cache after the posts of the first t commits
abbrev pub l1_at : Shape → ℕ → List ℕ → List Commit → ℕ → Cache → ℕ → List (Option Line)
l1_at shape strands image log core cache zero = no_lines shape cache
l1_at shape strands image log core cache (suc t) = with_post shape core cache (post_at strands image log core t) (l1_at shape strands image log core cache t)

-- and the pointers of its sets
abbrev pub pointers_at : Shape → ℕ → List ℕ → List Commit → ℕ → Cache → ℕ → List ℕ
pointers_at shape strands image log core cache zero = no_pointers shape cache
pointers_at shape strands image log core cache (suc t) =
    pointers_with_post shape cache (post_at strands image log core t) (pointers_at shape strands image log core cache t)

-- the way that a fill of a line takes in these caches
abbrev pub victim_at : Shape → ℕ → List ℕ → List Commit → ℕ → Cache → ℕ → ℕ → ℕ
victim_at shape strands image log core cache t line =
    victim_of (layout shape cache) (l1_at shape strands image log core cache t) (pointers_at shape strands image log core cache t) line
