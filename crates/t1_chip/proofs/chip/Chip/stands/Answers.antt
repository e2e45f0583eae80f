use Rattle.std.proofs.Common.{subst}
use Rattle.t1_machine.specs.Start.{setup_of}
use Rattle.t1_machine_rule.specs.Stands.{Stands}
use Rattle.t1_machine_rule.proofs.Stand.{machines_stand}
use Rattle.t1_chip.specs.Chips.{ChipState}
use Rattle.t1_chip.proofs.chip.Chip.stands.Goals as goal

pub returns : goal.returns
returns c =
    subst (λ (s : ChipState). Stands s.setup s.machine) c.self.view_is
    (machines_stand (setup_of c.self.inside.config c.self.inside.image) c.self.inside.machine c.self.invariant.0)
