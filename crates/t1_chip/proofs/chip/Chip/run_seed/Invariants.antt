use Rattle.std.proofs.Common.{◌≡◌}
use Rattle.t1_machine.specs.Runs.{Seed}
use Rattle.t1_bound.specs.Weights.{machine_weight, steps}
use Rattle.t1_chip.specs.Chips.{ChipState, MovesTo}
use Rattle.t1_chip.proofs.chip.Chip.run_seed.Given as goal

abbrev pub invariant-loop : goal.invariant-loop
invariant-loop l = record {
  chip : l.chip ≡ l.self.machine.chip;
  rest : (end : ChipState) → MovesTo l.self (Seed l.words) end → MovesTo l.initial.self (Seed l.seed) end;
}

abbrev pub decreases-loop : goal.decreases-loop
decreases-loop l = machine_weight steps l.self.machine
