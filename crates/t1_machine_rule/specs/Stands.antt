-- What holds of the machine after any list of slots.
use Rattle.std.specs.Prelude.{ℕ, ◌≡◌, ◌-◌, ◌<◌, ◌≤◌, zero, suc, List, [], ◌∷◌, ◌++◌, length, get_or, map, Option, Some, None}
use Rattle.std.specs.List.{slice_get}
use Rattle.t1_num.specs.MemoryLaws.{AreBytes}
use Rattle.t1_shape.specs.Numbers.{banks}
use Rattle.t1_packet.specs.declared.cache.Cache.{Cache}
use Rattle.t1_packet.specs.declared.packet.Packet.{Packet}
use Rattle.t1_packet.specs.declared.served.Served.{Served}
use Rattle.t1_packet.specs.Data.{RequestData, ReplyData}
use Rattle.t1_packet.specs.Ops.{op_dest}
use Rattle.t1_event.specs.declared.commit.Commit.{Commit}
use Rattle.t1_event.specs.Log.{plain_op, kept_old}
use Rattle.t1_event.specs.Posts.{l1_at, post_at}
use Rattle.t1_event.specs.BankRule.{bank_after}
use Rattle.t1_joint.specs.Lists.{IsIn, AreDistinct}
use Rattle.t1_joint.specs.Start.{Setup}
use Rattle.t1_joint.specs.Parts.{Out, CorePart, posted_before, requests_of, asked_by, answered, unanswered}
use Rattle.t1_joint.specs.Proper.{AreProper, IsTime, l1_by}
use Rattle.t1_joint.specs.CoreRule.{KeepsRule}
use Rattle.t1_joint.specs.Fit.{destination_start, log_of, Fit}
use Rattle.t1_core.specs.Steps.{CoreState}
use Rattle.t1_core_rule.specs.Histories.{Call}
use Rattle.t1_xbar.specs.declared.admitted.Admitted.TheVariants.{NotSeen}
use Rattle.t1_xbar.specs.Admission.{admission}
use Rattle.t1_machine.specs.Machine.{most_dests, MachineState, ring_of, bank_of}
use Rattle.t1_machine.specs.Runs.{machine_after}
use Rattle.t1_machine.specs.Start.{IsRunnable, machine_start}
use Rattle.t1_machine_rule.specs.Kept.{history_at, ever_served}
use Rattle.t1_machine_rule.specs.Parts.{parts_of, traces_in}
use Rattle.t1_machine_rule.specs.SoFar.{HoldsSoFar}
use Rattle.t1_machine_rule.specs.Covered.{slots_of, IsCoveredState}

-- a machine that a list of slots leads to, from the start over an image of bytes
pub record IsRunOf (w : Setup) (m : MachineState) : Type 0 where
  pub runnable : IsRunnable w
  pub bytes : AreBytes w.image.ram
  pub numbers : List ℕ
  pub is : m ≡ machine_after (machine_start w) numbers

-- ---- posts by the log

-- a reply as the log has it: its op in the plain form, and no old value of a store
abbrev pub plain_reply : Option ReplyData → Option ReplyData
plain_reply None = None
plain_reply (Some reply) = Some (record reply { op = plain_op reply.op reply.old reply.way; old = kept_old reply.op reply.old })

abbrev pub plain_packet : Packet → Packet
plain_packet packet = record packet { reply = plain_reply packet.reply }

-- the packets to a core of so many commits of the log, from an index on
abbrev pub posts_of : Setup → List Commit → ℕ → ℕ → ℕ → List Packet
posts_of w log core n zero = []
posts_of w log core n (suc count) = posted_before (post_at w.config.strands w.image.ram log core n) (posts_of w log core (suc n) count)

-- ---- one core

-- its time is a length of the log so far; its caches are those by the posts of the commits below its time;
-- its reply ring is the posts of the commits from its time on
pub record IsCoreAt (w : Setup) (m : MachineState) (c : ℕ) (core : CoreState) : Type 0 where
  pub time : core.time ≤ length m.xbar.log
  pub caches : (cache : Cache) → slots_of cache core ≡ l1_at w.config.chip w.config.strands w.image.ram m.xbar.log c cache core.time
  pub replies : map plain_packet (get_or m.replies c []) ≡ posts_of w m.xbar.log c core.time (length m.xbar.log - core.time)

-- ---- requests

-- the requests of a core to a destination that are on their way, oldest first: those that the reply ring
-- answers, those that the destination served, and those of the request ring
abbrev pub on_their_way : MachineState → ℕ → ℕ → List RequestData
on_their_way m core dest =
    answered m.chip core dest (get_or m.replies core []) ++ (requests_of (asked_by core (get_or m.served dest [])) ++ ring_of m.requests core dest)

-- what is sent and unanswered is on its way, and stands there once; its strand awaits it, or holds its store
pub record IsAsking (w : Setup) (m : MachineState) (p : CorePart) (c d : ℕ) : Type 0 where
  pub unanswered_are : unanswered w.config.chip c p.sent p.received d ≡ on_their_way m c d
  pub distinct : AreDistinct (on_their_way m c d)

-- no request was sent at a time that the log has not come to
abbrev pub IsSeenIn : MachineState → Type 0
IsSeenIn m = (d rooms seen len : ℕ) (access : Served) (rest : List Served) → get_or m.served d [] ≡ access ∷ rest
    → (admission m.xbar d access rooms).answer ≡ NotSeen seen len → ⊥

pub record Stands (w : Setup) (m : MachineState) : Type 0 where
  -- its parts fit, so that each core keeps its rule; each core is what its calls made of it, and the log is of
  -- what was admitted
  pub calls : ℕ → List Call
  pub admitted : List Served
  pub fits : Fit w (parts_of w m calls admitted)
  pub count : length m.cores ≡ w.config.cores
  pub cores : (c : ℕ) (core : CoreState) → slice_get m.cores c ≡ Some core → core ≡ (history_at w calls c).core
  pub log : m.xbar.log ≡ log_of w admitted
  pub proper : (c : ℕ) → AreProper w.config.chip c ((parts_of w m calls admitted).core c).sent ((parts_of w m calls admitted).core c).received
  pub keeps : (c : ℕ) → c < w.config.cores → KeepsRule w c ((parts_of w m calls admitted).core c)
  -- the traces and the log so far; each core's caches by the packets that came are those by the log
  pub so_far : HoldsSoFar w (traces_in m.cores) m.xbar.log
  pub lines : (c t : ℕ) (cache : Cache) → IsTime ((parts_of w m calls admitted).core c).received t
      → l1_by w.config.chip c ((parts_of w m calls admitted).core c).received t cache ≡ l1_at w.config.chip w.config.strands w.image.ram m.xbar.log c cache t
  -- each bank is what its commits and then its served ring made of it
  pub banks : (d : ℕ) → d < banks w.config.chip → bank_of m.banks d ≡ bank_after (destination_start w d) (requests_of (ever_served w.config.chip admitted m.served d))
  pub covered : IsCoveredState m
  pub core_is : (c : ℕ) (core : CoreState) → slice_get m.cores c ≡ Some core → IsCoreAt w m c core
  -- requests
  pub asking : (c d : ℕ) → c < w.config.cores → d < most_dests → IsAsking w m ((parts_of w m calls admitted).core c) c d
  pub awaited : (c s : ℕ) (r : RequestData) → c < w.config.cores → ((parts_of w m calls admitted).core c).standing s ≡ Out r → IsIn r (on_their_way m c (op_dest w.config.chip r.op))
  pub stored : (c s : ℕ) (r : RequestData) → c < w.config.cores → IsIn r (((parts_of w m calls admitted).core c).sending s) → IsIn r (on_their_way m c (op_dest w.config.chip r.op))
  pub seen_by : (c d : ℕ) (core : CoreState) (r : RequestData) → slice_get m.cores c ≡ Some core → d < most_dests → IsIn r (on_their_way m c d) → r.seen ≤ core.time
  pub seen : IsSeenIn m
