use Rattle.std.proofs.Common.{◌≡◌, ◌<◌, ◌-◌}
use Rattle.t1_machine.specs.Machine.{asker_from}
use Rattle.t1_machine.proofs.rooms.asker_from.Given as goal

abbrev pub invariant-loop : goal.invariant-loop
invariant-loop l = (l.core < l.cores) × (asker_from l.requests l.cores l.dest l.core (l.cores - l.counter) ≡ asker_from l.requests l.cores l.dest l.from l.cores)
