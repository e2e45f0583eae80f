-- What a core owes to the progress of a machine, for every history of its calls.
use Rattle.std.specs.Prelude.{ℕ, ◌≡◌, ◌<◌, ◌↔◌, true, List, [], Some, None}
use Rattle.t1_packet.specs.Data.{RequestData}
use Rattle.t1_event.specs.declared.trace.Ending.{Ending}
use Rattle.t1_event.specs.declared.trace.Trace.{Trace}
use Rattle.t1_joint.specs.Lists.{IsIn}
use Rattle.t1_joint.specs.Start.{Setup}
use Rattle.t1_joint.specs.Parts.{Out}
use Rattle.t1_joint.specs.Fit.{HasEnded}
use Rattle.t1_joint.specs.CoreRule.{IsMeant}
use Rattle.t1_core.specs.declared.answers.Did.TheVariants as did
use Rattle.t1_core.specs.declared.answers.Drained.TheVariants as drained
use Rattle.t1_core.specs.Steps.{has_room, exec_of, drain_of}
use Rattle.t1_core.specs.Turns.{turn_of}
use Rattle.t1_core.specs.Ends.{finished_of}
use Rattle.t1_core_rule.specs.Histories.{Call, drained_by}
use Rattle.t1_core_rule.specs.Parts.{part_of}
use Rattle.t1_core_rule.specs.Laws.{IsWhole, history_of}

-- ---- what a core sends

-- a request to a destination that there is, whose ring has room, and which may serve it
pub record GoesOut (w : Setup) (core room dest : ℕ) (request : RequestData) : Type 0 where
  pub dest_is : dest < 9
  pub room_is : has_room room dest ≡ true
  pub meant : IsMeant w core dest request

-- each call that sends a request sends it so
pub record RequestsGoOut : Type 0 where
  pub exec : (w : Setup) (core strand room dest : ℕ) (calls : List Call) (request : RequestData) → IsWhole w
      → (exec_of (history_of w core calls).core strand room).did ≡ did.Sent dest request → GoesOut w core room dest request
  pub turn : (w : Setup) (core room dest : ℕ) (calls : List Call) (request : RequestData) → IsWhole w
      → (turn_of (history_of w core calls).core room).did ≡ Some (did.Sent dest request) → GoesOut w core room dest request
  pub drain : (w : Setup) (core strand room dest : ℕ) (calls : List Call) (request : RequestData) → IsWhole w
      → (drain_of (history_of w core calls).core strand room).did ≡ drained.Sent dest request → GoesOut w core room dest request

-- ---- no core stands still

-- each ring of a core's requests has room
abbrev pub HasAllRoom : ℕ → Type 0
HasAllRoom room = (dest : ℕ) → dest < 9 → has_room room dest ≡ true

-- as in the word 511
abbrev pub WordsCanHaveAllRoom : Type 0
WordsCanHaveAllRoom = HasAllRoom 511

-- where each ring has room and at a turn no strand acts, a strand that awaits no reply, and whose buffer
-- is empty, has ended
abbrev pub WaitingStrandsHaveEnded : Type 0
WaitingStrandsHaveEnded =
    (w : Setup) (core strand room : ℕ) (calls : List Call) → IsWhole w → strand < w.config.strands → HasAllRoom room
    → (turn_of (history_of w core calls).core room).did ≡ None
    → ((request : RequestData) → (part_of w.config.chip (history_of w core calls)).standing strand ≡ Out request → ⊥)
    → (part_of w.config.chip (history_of w core calls)).waiting strand ≡ []
    → HasEnded (part_of w.config.chip (history_of w core calls)) strand

-- where each ring has room and a drain of a strand sends nothing, and no store of its buffer is sent, the
-- buffer is empty
abbrev pub UndrainedBuffersAreEmpty : Type 0
UndrainedBuffersAreEmpty =
    (w : Setup) (core strand room : ℕ) (calls : List Call) → IsWhole w → HasAllRoom room
    → drained_by (drain_of (history_of w core calls).core strand room).did ≡ []
    → (part_of w.config.chip (history_of w core calls)).sending strand ≡ []
    → (part_of w.config.chip (history_of w core calls)).waiting strand ≡ []

-- ---- the end

-- a core is finished exactly where each of its strands has ended, with an empty buffer
abbrev pub FinishedCoresHaveEnded : Type 0
FinishedCoresHaveEnded =
    (w : Setup) (core : ℕ) (calls : List Call) → IsWhole w
    → (finished_of (history_of w core calls).core ≡ true)
    ↔ ((strand : ℕ) → strand < w.config.strands → HasEnded (part_of w.config.chip (history_of w core calls)) strand)

-- and then each of its traces has an ending
abbrev pub FinishedTracesHaveEndings : Type 0
FinishedTracesHaveEndings =
    (w : Setup) (core : ℕ) (calls : List Call) (trace : Trace) → finished_of (history_of w core calls).core ≡ true
    → IsIn trace (part_of w.config.chip (history_of w core calls)).traces → (ending : Ending) × (trace.ending ≡ Some ending)
