-- All agents of a run, the parts that they are, and what it is for them to fit.
use Rattle.std.specs.Prelude.{ℕ, ◌≡◌, List, [], ◌∷◌, length, get_or, Option, Some, None}
use Rattle.std.specs.List.{slice_get}
use Rattle.t1_num.specs.MemoryLaws.{AreBytes}
use Rattle.t1_joint.specs.Lists.{IsPrefix}
use Rattle.t1_joint.specs.Start.{Setup}
use Rattle.t1_joint.specs.Parts.{CorePart, DestinationPart, CrossbarPart, Parts, posts_from}
use Rattle.t1_joint.specs.Fit.{Fit}
use Rattle.t1_core.specs.Steps.{CoreState}
use Rattle.t1_core_rule.specs.Parts.{part_of}
use Rattle.t1_machine.specs.Start.{IsRunnable}
use Rattle.t1_machine_rule.specs.Parts.{no_part}
use Rattle.t1_crew.specs.Slots.{ids}
use Rattle.t1_live.specs.Rules.{Admission, accesses_of}
use Rattle.t1_live.specs.Sides.{CoreSide, DestinationSide, CrossbarSide, core_id, destination_id, crossbar_id, CoreKeeps, DestinationKeeps, CrossbarKeeps}
use Rattle.t1_live.specs.Wires.{AreWired}

pub record AgentsState : Type 0 where
  pub setup : Setup
  pub cores : List CoreSide
  pub dests : List DestinationSide
  pub crossbar : CrossbarSide
  pub console : ℕ  -- the bytes that there is room for

-- ---- the parts, each by its own state and its own ends

abbrev pub core_part : Option CoreSide → CorePart
core_part None = no_part
core_part (Some side) = record (part_of side.setup.config.chip (record { core = side.core; received = side.received; sent = [] })) { sent = λ d. get_or side.sent d [] }

abbrev pub destination_part : Option DestinationSide → DestinationPart
destination_part None = record { received = λ c. []; served = [] }
destination_part (Some side) = record { received = λ c. get_or side.received c []; served = side.served }

-- to a core that is not there nothing is sent; what would be is as the rule has it
abbrev pub crossbar_part : CrossbarSide → List Admission → CrossbarPart
crossbar_part side admissions = record {
  received = λ d. get_or side.received d [];
  admitted = accesses_of admissions;
  log = side.xbar.log;
  posted = λ c. get_or side.posted c (posts_from c 0 (accesses_of admissions));
}

abbrev pub parts_of : List CoreSide → List DestinationSide → CrossbarSide → List Admission → Parts
parts_of cores dests crossbar admissions = record {
  core = λ c. core_part (slice_get cores c);
  destination = λ d. destination_part (slice_get dests d);
  crossbar = crossbar_part crossbar admissions;
}

-- ---- rings and queues: what was received is what was sent, as far as it came

pub record AreTied (cores : List CoreSide) (dests : List DestinationSide) (crossbar : CrossbarSide) : Type 0 where
  pub to_destination : (c d : ℕ) (core : CoreSide) (dest : DestinationSide) → slice_get cores c ≡ Some core → slice_get dests d ≡ Some dest
      → IsPrefix (get_or dest.received c []) (get_or core.sent d [])
  pub to_crossbar : (d : ℕ) (dest : DestinationSide) → slice_get dests d ≡ Some dest → IsPrefix (get_or crossbar.received d []) dest.served
  pub to_core : (c : ℕ) (core : CoreSide) → slice_get cores c ≡ Some core → IsPrefix core.received (get_or crossbar.posted c [])

-- each agent keeps its rule, and its received lists are fronts of the sent ones; so their parts fit
pub record AreFitting (w : Setup) (cores : List CoreSide) (dests : List DestinationSide) (crossbar : CrossbarSide) : Type 0 where
  pub tied : AreTied cores dests crossbar
  pub core_keeps : (c : ℕ) (core : CoreSide) → slice_get cores c ≡ Some core → CoreKeeps core
  pub dest_keeps : (d : ℕ) (dest : DestinationSide) → slice_get dests d ≡ Some dest → DestinationKeeps dest
  pub crossbar_keeps : CrossbarKeeps crossbar
  pub fits : Fit w (parts_of cores dests crossbar crossbar_keeps.admissions)

abbrev pub cores_of : List CoreSide → List CoreState
cores_of [] = []
cores_of (side ∷ sides) = side.core ∷ cores_of sides

-- the agents of a run that can be run, with a core agent for each core
pub record AreAgents (w : Setup) (cores : List CoreSide) (dests : List DestinationSide) (crossbar : CrossbarSide) : Type 0 where
  pub runs : IsRunnable w
  pub bytes : AreBytes w.image.ram
  pub wired : AreWired w (ids core_id cores) (ids destination_id dests) (crossbar_id crossbar)
  pub full : length cores ≡ w.config.cores
