use Rattle.std.proofs.Common.{◌≡◌, ◌<◌}
use Rattle.t1_machine.specs.Slots.{slots}
use Rattle.t1_machine.specs.Runs.{Turns}
use Rattle.t1_bound.specs.Weights.{machine_weight, steps}
use Rattle.t1_chip.specs.Chips.{ChipState, MovesTo}
use Rattle.t1_chip.proofs.chip.Chip.run_turns.Given as goal

abbrev pub invariant-loop-number : goal.invariant-loop-number
invariant-loop-number l = record {
  chip : l.chip ≡ l.self.machine.chip;
  within : l.from < slots l.self.machine.chip;
  rest : (end : ChipState) → MovesTo l.self (Turns l.from) end → MovesTo l.initial.self (Turns 0) end;
}

abbrev pub decreases-loop-number : goal.decreases-loop-number
decreases-loop-number l = machine_weight steps l.self.machine
