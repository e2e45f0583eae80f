-- The packet that a core gets of a served access, and what packets do to a core's caches.
use Rattle.std.specs.Prelude.{ℕ, ◌==◌, if◌then◌else◌, List, [], ◌∷◌, take, Option, Some, None}
use Rattle.std.specs.List.{filter}
use Rattle.t1_shape.specs.Shapes.{Shape}
use Rattle.t1_shape.specs.Slots.{Line}
use Rattle.t1_packet.specs.declared.cache.Cache.{Cache}
use Rattle.t1_packet.specs.declared.served.Served.{Served}
use Rattle.t1_packet.specs.declared.packet.Packet.{Packet}
use Rattle.t1_packet.specs.Data.{KillData, ReplyData}
use Rattle.t1_packet.specs.Caches.{with_kills, with_answer, pointers_with_answer}

-- the kills that a packet has room for
abbrev pub most_kills : ℕ
most_kills = 8

-- the first kills of a core, as many as a packet has room for
abbrev pub kills_to : ℕ → List KillData → List KillData
kills_to core kills = take most_kills (filter (λ kill. kill.core == core) kills)

abbrev pub reply_to : Served → ReplyData
reply_to served = record {
  strand = served.request.strand;
  item = served.request.item;
  seen = served.request.seen;
  op = served.request.op;
  old = served.old;
  way = served.way;
  line = served.line;
}

-- a packet with a reply, or without one where there are kills, or none
abbrev pub packet_of : ℕ → Option ReplyData → List KillData → Option Packet
packet_of index (Some reply) kills = Some (record { index = index; reply = Some reply; kills = kills })
packet_of index None [] = None
packet_of index None (kill ∷ kills) = Some (record { index = index; reply = None; kills = kill ∷ kills })

-- the packet of an access that got this index, to a core: the first kills of the core, and the reply
-- where the core asked
abbrev pub packet_to : ℕ → ℕ → Served → Option Packet
packet_to core index served = packet_of index (if served.request.core == core then Some (reply_to served) else None) (kills_to core served.kills)

-- ---- the caches of a core by packets

abbrev pub with_reply : Shape → Cache → Option ReplyData → List (Option Line) → List (Option Line)
with_reply shape cache None slots = slots
with_reply shape cache (Some reply) slots = with_answer shape cache reply.op reply.way reply.line slots

abbrev pub pointers_with_reply : Shape → Cache → Option ReplyData → List ℕ → List ℕ
pointers_with_reply shape cache None pointers = pointers
pointers_with_reply shape cache (Some reply) pointers = pointers_with_answer shape cache reply.op reply.way pointers

-- the slots of one core and cache after a packet: its kills, then its reply
abbrev pub with_packet : Shape → ℕ → Cache → Packet → List (Option Line) → List (Option Line)
with_packet shape core cache packet slots = with_reply shape cache packet.reply (with_kills shape core cache packet.kills slots)

-- the pointers of its sets after a packet
abbrev pub pointers_with_packet : Shape → Cache → Packet → List ℕ → List ℕ
pointers_with_packet shape cache packet pointers = pointers_with_reply shape cache packet.reply pointers
