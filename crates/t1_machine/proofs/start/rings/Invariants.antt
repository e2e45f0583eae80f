use Rattle.std.proofs.Common.{◌≡◌, ◌++◌, ◌-◌, [], replicate}
use Rattle.t1_machine.proofs.start.rings.Given as goal

abbrev pub invariant-loop : goal.invariant-loop
invariant-loop g l = l.all.items ++ replicate (l.count - l.counter) [] ≡ replicate l.count []
