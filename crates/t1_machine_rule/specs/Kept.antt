-- What each slot of the machine keeps: a ring holds what was sent less what was received, a core is what its
-- calls made of it, and a destination is what the accesses that it served made of it.
use Rattle.std.specs.Prelude.{ℕ, ◌≡◌, ◌<◌, ◌≤◌, List, [], ◌++◌, length, get_or, Some}
use Rattle.std.specs.List.{slice_get}
use Rattle.t1_shape.specs.Shapes.{Shape}
use Rattle.t1_shape.specs.Numbers.{banks}
use Rattle.t1_packet.specs.declared.served.Served.{Served}
use Rattle.t1_event.specs.BankRule.{bank_after}
use Rattle.t1_joint.specs.Start.{Setup}
use Rattle.t1_joint.specs.Parts.{posts_from, requests_of, asked_by, served_at}
use Rattle.t1_joint.specs.Fit.{destination_start, AreServed, log_of}
use Rattle.t1_received.specs.Requests.{sent_to}
use Rattle.t1_core.specs.Steps.{CoreState}
use Rattle.t1_core_rule.specs.Histories.{History, Call}
use Rattle.t1_core_rule.specs.Laws.{history_of, AreWhole}
use Rattle.t1_machine.specs.Machine.{MachineState, most_dests, IsShaped, ring_of, bank_of}

-- the history of a core, by the calls of each core
abbrev pub history_at : Setup → (ℕ → List Call) → ℕ → History
history_at w calls core = history_of w core (calls core)

-- all that a destination served: what was admitted of it, and what stands in its served ring
abbrev pub ever_served : Shape → List Served → List (List Served) → ℕ → List Served
ever_served shape admitted served dest = served_at shape dest admitted ++ get_or served dest []

-- how many parts there are, and of what configuration the crossbar is
pub record IsOfSetup (w : Setup) (m : MachineState) : Type 0 where
  pub chip : m.chip ≡ w.config.chip
  pub cores : length m.cores ≡ w.config.cores
  pub shaped : IsShaped w.config.chip (length m.cores) (length m.requests) (length m.served) (length m.replies) (length m.banks) (length m.tried)
  pub tried : (dest : ℕ) → get_or m.tried dest 0 < w.config.cores
  pub posted : m.xbar.cores ≡ w.config.cores
  pub strands : m.xbar.strands ≡ w.config.strands

pub record Kept (w : Setup) (m : MachineState) : Type 0 where
  pub parts : IsOfSetup w m
  -- the calls that each core's slots made, and the accesses that were admitted, oldest first
  pub calls : ℕ → List Call
  pub admitted : List Served
  pub log : m.xbar.log ≡ log_of w admitted
  pub seen : (n : ℕ) (access : Served) → slice_get admitted n ≡ Some access → access.request.seen ≤ n
  -- each core is the core of the history of its calls; no call was made of a core that is not there
  pub cores : (c : ℕ) (core : CoreState) → slice_get m.cores c ≡ Some core → core ≡ (history_at w calls c).core
  pub whole : (c : ℕ) → AreWhole (calls c)
  pub absent : (c : ℕ) → w.config.cores ≤ c → calls c ≡ []
  -- what a core sent to a destination is what this served of it, and then the request ring
  pub requests : (c d : ℕ) → d < most_dests
      → requests_of (asked_by c (ever_served w.config.chip admitted m.served d)) ++ ring_of m.requests c d ≡ sent_to w.config.chip d (history_at w calls c).sent
  -- what was posted to a core is what came, and then the reply ring
  pub replies : (c : ℕ) → c < w.config.cores → (history_at w calls c).received ++ get_or m.replies c [] ≡ posts_from c 0 admitted
  -- each destination served by its rule, and each bank is what that made of it
  pub served : (d : ℕ) → d < most_dests → AreServed w.config.chip d (destination_start w d) (ever_served w.config.chip admitted m.served d)
  pub banks : (d : ℕ) → d < banks w.config.chip → bank_of m.banks d ≡ bank_after (destination_start w d) (requests_of (ever_served w.config.chip admitted m.served d))
