use Rattle.t1_bound.specs.Weights.{machine_weight, steps}
use Rattle.t1_chip.specs.Chips.{ChipState, DidSlots}
use Rattle.t1_chip.proofs.chip.Chip.run_drawn.Given as goal

abbrev pub invariant-loop : goal.invariant-loop
invariant-loop l = (end : ChipState) → DidSlots l.self end → DidSlots l.initial.self end

abbrev pub decreases-loop : goal.decreases-loop
decreases-loop l = machine_weight steps l.self.machine
