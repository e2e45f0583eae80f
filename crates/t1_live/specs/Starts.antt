-- Agents at their start: nothing is sent, served or admitted.
use Rattle.std.specs.Prelude.{ℕ, ◌≡◌, List, [], ◌∷◌, length, Some}
use Rattle.std.specs.List.{slice_get}
use Rattle.t1_core.specs.Start.{new_core}
use Rattle.t1_ring.specs.Row.{AreUnused}
use Rattle.t1_live.specs.Sides.{CoreSide, DestinationSide, CrossbarSide}
use Rattle.t1_live.specs.Whole.{AgentsState}

-- every strand is at its start, and nothing came
pub record CoreStarts (side : CoreSide) : Type 0 where
  pub core : side.core ≡ new_core side.setup.config side.number side.setup.image.entry
  pub sent : AreUnused side.sent
  pub received : side.received ≡ []

abbrev pub AllStart : List CoreSide → Type 0
AllStart [] = Unit {0}
AllStart (side ∷ sides) = CoreStarts side × AllStart sides

abbrev pub ServedNothing : List DestinationSide → Type 0
ServedNothing [] = Unit {0}
ServedNothing (side ∷ sides) = (side.served ≡ []) × ServedNothing sides

pub record AdmittedNothing (side : CrossbarSide) : Type 0 where
  pub log : side.xbar.log ≡ []
  pub posted : AreUnused side.posted

pub record AreAtStart (agents : AgentsState) : Type 0 where
  pub count : length agents.cores ≡ agents.setup.config.cores
  pub numbers : (c : ℕ) (side : CoreSide) → slice_get agents.cores c ≡ Some side → (side.setup ≡ agents.setup) × (side.number ≡ c)
  pub cores : AllStart agents.cores
  pub dests : ServedNothing agents.dests
  pub crossbar : AdmittedNothing agents.crossbar
