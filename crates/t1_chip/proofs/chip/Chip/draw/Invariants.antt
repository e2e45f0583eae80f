use Rattle.std.proofs.Common.{◌≡◌}
use Rattle.t1_machine.specs.Slots.{slots}
use Rattle.t1_chip.proofs.chip.Chip.draw.Given as goal

abbrev pub invariant-loop : goal.invariant-loop
invariant-loop l = record {
  same : l.self ≡ l.initial.self;
  count : l.count ≡ slots l.self.machine.chip;
}
