use Rattle.std.proofs.Common.{sym, subst}
use Rattle.t1_machine.specs.Start.{setup_of}
use Rattle.t1_machine_rule.specs.Ends.{NoneEnabled, Ends}
use Rattle.t1_machine_rule.proofs.Machines.{end_in_histories}
use Rattle.t1_chip.specs.Chips.{ChipState}
use Rattle.t1_chip.proofs.chip.Chip.ends.Goals as goal

pub returns : goal.returns
returns c =
    let none : NoneEnabled c.self.inside.machine = subst (λ (s : ChipState). NoneEnabled s.machine) (sym c.self.view_is) c.requires in
    subst (λ (s : ChipState). Ends s.setup s.machine) c.self.view_is
    (end_in_histories (setup_of c.self.inside.config c.self.inside.image) c.self.inside.machine c.self.invariant.0 none)
