use Rattle.std.proofs.Common.{◌∙◌, sym, subst, arith}
use Rattle.t1_machine_rule.specs.Ends.{NoneEnabled}
use Rattle.t1_chip.specs.Chips.{ChipState}
use Rattle.t1_chip.proofs.Finished.{none_enabled}
use Rattle.t1_chip.proofs.chip.Chip.draw.Goals as goal

pub returns-clause-none : goal.returns-clause-none
returns-clause-none c = λ none.
    subst (λ (s : ChipState). NoneEnabled s.machine) c.loop.invariant.same (none_enabled c.loop.self.machine 0 (omega arith) (sym c.next.ensures.found ∙ none))
