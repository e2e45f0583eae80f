-- The laws of a core.
use Rattle.t1_shape.specs.Shapes.{Shape}
use Rattle.std.specs.Prelude.{ℕ, ◌≡◌, ◌%◌, ◌<◌, ◌≤◌, ◌⊎◌, List, [], ◌∷◌, length, Some, None}
use Rattle.t1_packet.specs.declared.packet.Packet.{Packet}
use Rattle.t1_packet.specs.Data.{RequestData, ReplyData}
use Rattle.t1_joint.specs.Lists.{IsIn}
use Rattle.t1_joint.specs.Start.{Setup}
use Rattle.t1_packet.specs.declared.cache.Cache.TheVariants.{Dcache, Icache}
use Rattle.t1_joint.specs.Proper.{IsTime, AreProper, l1_by, pointers_by}
use Rattle.t1_received.specs.Requests.{sent_to}
use Rattle.t1_core_rule.specs.Fitting.{cache_with}
use Rattle.t1_joint.specs.CoreRule.{IsMeant, IsCore}
use Rattle.t1_core_rule.specs.Histories.{History, Call, Exec, Turn, Drain, Take, after_call, after_calls, begun}
use Rattle.t1_core_rule.specs.Parts.{part_of}

-- what a core was at any time of its run
abbrev pub history_of : Setup → ℕ → List Call → History
history_of w core calls = after_calls (begun w core) calls

-- the line of a reply has at most 32 bytes, as its type says
abbrev pub IsWholeCall : Call → Type 0
IsWholeCall (Exec strand room) = Unit {0}
IsWholeCall (Turn room) = Unit {0}
IsWholeCall (Drain strand room) = Unit {0}
IsWholeCall (Take packet) = (reply : ReplyData) → packet.reply ≡ Some reply → length reply.line ≤ 32

abbrev pub AreWhole : List Call → Type 0
AreWhole [] = Unit {0}
AreWhole (call ∷ calls) = IsWholeCall call × AreWhole calls

-- a core with what came to it and what it sent, as calls like these leave it
pub record IsHistory (w : Setup) (core : ℕ) (h : History) : Type 0 where
  pub calls : List Call
  pub whole : AreWhole calls
  pub is : history_of w core calls ≡ h

-- RAM is of whole blocks of 64 KiB
abbrev pub IsWhole : Setup → Type 0
IsWhole w = w.config.ram % 65536 ≡ 0

-- whatever calls were made and whatever packets came: each request that the core sent to a destination is
-- meant for it, and is of a strand of its own, of a size that there is, aligned, in RAM or I/O space
abbrev pub RequestsAreMeant : Type 0
RequestsAreMeant =
    (w : Setup) (core dest : ℕ) (calls : List Call) (request : RequestData) → IsWhole w
    → IsIn request ((part_of w.config.chip (history_of w core calls)).sent dest) → IsMeant w core dest request

-- each packet that came has an index below the core's time, or the last index that there is
abbrev pub PacketsArePast : Type 0
PacketsArePast =
    (w : Setup) (core : ℕ) (calls : List Call) (packet : Packet) → IsWhole w → IsIn packet (history_of w core calls).received
    → (packet.index < (history_of w core calls).core.time) ⊎ (packet.index ≡ 4294967295)

-- the clock is 0 or one past the index of a packet that came, and never falls
pub record ClockGoesOn (w : Setup) (core : ℕ) (calls : List Call) (call : Call) : Type 0 where
  pub is_time : IsTime (history_of w core calls).received (history_of w core calls).core.time
  pub rises : (history_of w core calls).core.time ≤ (after_call (history_of w core calls) call).core.time

abbrev pub ClocksGoOn : Type 0
ClocksGoOn = (w : Setup) (core : ℕ) (calls : List Call) (call : Call) → IsWhole w → ClockGoesOn w core calls call

-- a core has as many traces as strands
abbrev pub TracesAreOfStrands : Type 0
TracesAreOfStrands =
    (w : Setup) (core : ℕ) (calls : List Call) → IsWhole w → length (part_of w.config.chip (history_of w core calls)).traces ≡ w.config.strands

-- the rule of a core, whole: where a strand may run some units, each history of its calls is a part of a run
-- as the law of fitting parts asks it of a core
abbrev pub CoresKeepTheirRule : Type 0
CoresKeepTheirRule =
    (w : Setup) (core : ℕ) (calls : List Call) → IsWhole w → 0 < w.config.budget → AreWhole calls → IsCore w core (part_of w.config.chip (history_of w core calls))

-- where the packets that came are proper, the core's caches are those of its packets
pub record CachesAreOfPackets (chip : Shape) (core : ℕ) (h : History) : Type 0 where
  pub dcache : h.core.dcache ≡ cache_with chip Dcache (l1_by chip core h.received h.core.time Dcache) (pointers_by chip h.received h.core.time Dcache)
  pub icache : h.core.icache ≡ cache_with chip Icache (l1_by chip core h.received h.core.time Icache) (pointers_by chip h.received h.core.time Icache)

abbrev pub CachesFollowPackets : Type 0
CachesFollowPackets =
    (w : Setup) (core : ℕ) (calls : List Call) → IsWhole w → 0 < w.config.budget → AreWhole calls
    → AreProper w.config.chip core (λ d. sent_to w.config.chip d (history_of w core calls).sent) (history_of w core calls).received → CachesAreOfPackets w.config.chip core (history_of w core calls)

-- a history whose packets are proper: one packet comes, with a kill
abbrev pub example : ℕ → List Call
example core = Take (record { index = 5; reply = None; kills = (record { core = core; cache = Dcache; set = 0; way = 0 }) ∷ [] }) ∷ []

abbrev pub PacketsCanBeProper : Type 0
PacketsCanBeProper =
    (w : Setup) (core : ℕ)
    → AreWhole (example core) × AreProper w.config.chip core (part_of w.config.chip (history_of w core (example core))).sent (history_of w core (example core)).received
