-- The laws of the packets that a core received.
use Rattle.std.specs.Prelude.{ℕ, ◌≡◌, ◌+◌, ◌<◌, ◌≤◌, ◌⊎◌, List, [], ◌∷◌, ◌++◌}
use Rattle.t1_shape.specs.Shapes.{Shape}
use Rattle.t1_packet.specs.declared.cache.Cache.{Cache}
use Rattle.t1_packet.specs.declared.packet.Packet.{Packet}
use Rattle.t1_packet.specs.Data.{RequestData}
use Rattle.t1_packet.specs.Ops.{op_dest, is_store}
use Rattle.t1_packet.specs.Packets.{with_packet, pointers_with_packet}
use Rattle.t1_joint.specs.Lists.{IsIn}
use Rattle.t1_joint.specs.Proper.{AreProper, l1_by, pointers_by}
use Rattle.t1_received.specs.Requests.{sent_to, of_class, GoTo}
use Rattle.t1_received.specs.Caches.{slots_by, pointers_at}

-- each packet has an index below the time, or the last index that there is
abbrev pub ArePast : ℕ → List Packet → Type 0
ArePast time received = (packet : Packet) → IsIn packet received → (packet.index < time) ⊎ (packet.index ≡ 4294967295)

-- packets that are proper for the requests that a core sent were so before it sent the last of them, at
-- its time: no packet answers a request that is sent after it came
abbrev pub SendsKeepProper : Type 0
SendsKeepProper =
    (shape : Shape) (core time : ℕ) (received : List Packet) (sent new : List RequestData)
    → ((request : RequestData) → IsIn request new → request.seen ≡ time) → ArePast time received
    → AreProper shape core (λ dest. sent_to shape dest (sent ++ new)) received → AreProper shape core (λ dest. sent_to shape dest sent) received

-- packets that are proper were so without the last of them
abbrev pub PacketsKeepProper : Type 0
PacketsKeepProper =
    (shape : Shape) (core : ℕ) (sent : ℕ → List RequestData) (received : List Packet) (packet : Packet)
    → AreProper shape core sent (received ++ packet ∷ []) → AreProper shape core sent received

-- one packet more changes a core's caches only above its index, and there as the packet says
pub record CachesGoOn (shape : Shape) (core : ℕ) (received : List Packet) (packet : Packet) : Type 0 where
  pub slots_stay : (t : ℕ) → t ≤ packet.index → slots_by shape core (received ++ packet ∷ []) t ≡ slots_by shape core received t
  pub pointers_stay : (t : ℕ) → t ≤ packet.index → pointers_at shape (received ++ packet ∷ []) t ≡ pointers_at shape received t
  pub slots_next : (time : ℕ) (cache : Cache) → time ≤ packet.index → ((other : Packet) → IsIn other received → other.index < time)
      → l1_by shape core (received ++ packet ∷ []) (packet.index + 1) cache ≡ with_packet shape core cache packet (l1_by shape core received time cache)
  pub pointers_next : (time : ℕ) (cache : Cache) → time ≤ packet.index → ((other : Packet) → IsIn other received → other.index < time)
      → pointers_by shape (received ++ packet ∷ []) (packet.index + 1) cache ≡ pointers_with_packet shape cache packet (pointers_by shape received time cache)

abbrev pub CachesFollowPackets : Type 0
CachesFollowPackets = (shape : Shape) (core : ℕ) (received : List Packet) (packet : Packet) → CachesGoOn shape core received packet

-- what is out of a strand, of one class, goes to one destination: then a request of it that is the first
-- unanswered one of its destination is the first that is out
abbrev pub FirstOutIsAnswered : Type 0
FirstOutIsAnswered =
    (shape : Shape) (dest : ℕ) (request : RequestData) (out unanswered later : List RequestData) → GoTo shape dest out
    → unanswered ≡ sent_to shape (op_dest shape request.op) (request ∷ []) ++ later
    → of_class request.strand (is_store request.op) unanswered ≡ sent_to shape (op_dest shape request.op) out
    → (tail : List RequestData) × (out ≡ request ∷ tail)
