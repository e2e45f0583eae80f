-- Each strand of a core is its replay so far, where the lines that came are of bytes.
use Rattle.std.proofs.Common.{◌≡◌, ℕ, List, Option, Some, None, refl}
use Rattle.t1_shape.specs.Shapes.{Shape}
use Rattle.t1_state.specs.declared.strand.Strand.{Strand}
use Rattle.t1_packet.specs.declared.packet.Packet.{Packet}
use Rattle.t1_packet.specs.Data.{RequestData, ReplyData}
use Rattle.t1_joint.specs.Lists.{IsIn}
use Rattle.t1_joint.specs.Proper.{AreProper}
use Rattle.t1_received.proofs.Lists.{in_last}
use Rattle.t1_core.specs.Replays.{IsReplayed, HasByteLine}
use Rattle.t1_core.proofs.Joined.{strands_are_replays}
use Rattle.t1_core_rule.specs.Histories.{History, Call, Exec, Turn, Drain, Take, after_call}

-- the lines that came are of bytes
abbrev pub HaveByteLines : List Packet → Type 0
HaveByteLines received = (packet : Packet) → IsIn packet received → HasByteLine packet.reply

pub proper_lines : (shape : Shape) (core : ℕ) (sent : ℕ → List RequestData) (received : List Packet) → AreProper shape core sent received → HaveByteLines received
proper_lines shape core sent received proper packet g = by packet.reply refl
  where
    by : (o : Option ReplyData) → packet.reply ≡ o → HasByteLine o
    by None e = tt
    by (Some reply) e = (proper.replies packet reply g e).line

pub call_replays : (starts : ℕ → Strand) (h : History) (call : Call) → HaveByteLines (after_call h call).received → IsReplayed starts h.core → IsReplayed starts (after_call h call).core
call_replays starts h (Exec i room) lines r = strands_are_replays.exec starts h.core i room r
call_replays starts h (Turn room) lines r = strands_are_replays.turn starts h.core room r
call_replays starts h (Drain i room) lines r = strands_are_replays.drain starts h.core i room r
call_replays starts h (Take packet) lines r = strands_are_replays.take starts h.core packet (lines packet (in_last packet h.received)) r
