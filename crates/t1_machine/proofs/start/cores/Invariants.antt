use Rattle.std.proofs.Common.{◌≡◌, ◌++◌, ◌-◌}
use Rattle.t1_machine.specs.Start.{cores_from}
use Rattle.t1_machine.proofs.start.cores.Given as goal

abbrev pub invariant-loop-core : goal.invariant-loop-core
invariant-loop-core l = l.all.items ++ cores_from l.config l.image.entry l.core (l.config.cores - l.core) ≡ cores_from l.config l.image.entry 0 l.config.cores
