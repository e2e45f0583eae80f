-- The laws of the agents' rules.
use Rattle.t1_joint.specs.CoreRule.{IsCore}
use Rattle.t1_joint.specs.Fit.{IsCrossbar, IsDestination}
use Rattle.std.specs.Prelude.{Some}
use Rattle.t1_live.specs.Sides.{CoreSide, DestinationSide, CrossbarSide, CoreKeeps, DestinationKeeps, CrossbarKeeps}
use Rattle.t1_live.specs.Whole.{core_part, destination_part, crossbar_part}

-- what a core agent keeps is the rule of a core, of its own state and what its own ends sent and received
abbrev pub CoreAgentsKeepTheirRule : Type 0
CoreAgentsKeepTheirRule = (side : CoreSide) → CoreKeeps side → IsCore side.setup side.number (core_part (Some side))

-- of a destination agent, that of a destination
abbrev pub DestinationAgentsKeepTheirRule : Type 0
DestinationAgentsKeepTheirRule = (side : DestinationSide) → DestinationKeeps side → IsDestination side.setup side.dest (destination_part (Some side))

-- and of the crossbar agent, that of the crossbar
abbrev pub CrossbarAgentsKeepTheirRule : Type 0
CrossbarAgentsKeepTheirRule = (side : CrossbarSide) (keeps : CrossbarKeeps side) → IsCrossbar side.setup (crossbar_part side keeps.admissions)
