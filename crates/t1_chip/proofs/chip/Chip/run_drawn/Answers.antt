use Rattle.std.proofs.Common.{sym, subst, refl}
use Rattle.t1_chip.specs.Chips.{ChipState}
use Rattle.t1_machine_rule.specs.Ends.{NoneEnabled}
use Rattle.t1_chip.proofs.Running.{draws, drew_none}
use Rattle.t1_chip.proofs.chip.Chip.run_drawn.Goals as goal

pub loop-preserved : goal.loop-preserved
loop-preserved c = λ end r. c.loop.invariant end (draws c.loop.self c.draw.new.self end c.in-Some.field-0 c.in-Some.ensures.state r)

pub returns-clause-machine : goal.returns-clause-machine
returns-clause-machine c = c.loop.invariant c.draw.new.self (drew_none c.loop.self c.draw.new.self c.in_default.ensures.state)

pub returns-clause-finished : goal.returns-clause-finished
returns-clause-finished c =
    subst (λ (s : ChipState). NoneEnabled s.machine) (sym c.in_default.ensures.state) (c.in_default.ensures.none refl)
