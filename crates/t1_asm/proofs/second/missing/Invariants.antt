use Rattle.std.proofs.Common.{◌≡◌, length}
use Rattle.t1_asm.specs.Passes.{some_missing}
use Rattle.t1_asm.proofs.second.missing.Given as goal

abbrev pub invariant-loop-first : goal.invariant-loop-first
invariant-loop-first l = some_missing l.rest ≡ some_missing l.values

abbrev pub decreases-loop-first : goal.decreases-loop-first
decreases-loop-first l = length l.rest
