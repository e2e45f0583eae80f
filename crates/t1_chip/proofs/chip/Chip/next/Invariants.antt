use Rattle.std.proofs.Common.{◌≡◌, ◌<◌, ◌≤◌}
use Rattle.t1_machine.specs.Slots.{slots}
use Rattle.t1_machine.specs.Runs.{enabled_from}
use Rattle.t1_chip.proofs.chip.Chip.next.Given as goal

abbrev pub invariant-loop-left : goal.invariant-loop-left
invariant-loop-left l = record {
  same : l.self ≡ l.initial.self;
  chip : l.chip ≡ l.self.machine.chip;
  within : l.number < slots l.self.machine.chip;
  few : l.left ≤ slots l.self.machine.chip;
  rest : enabled_from l.self.machine l.number l.left ≡ enabled_from l.initial.self.machine l.from (slots l.initial.self.machine.chip);
}

abbrev pub decreases-loop-left : goal.decreases-loop-left
decreases-loop-left l = l.left
