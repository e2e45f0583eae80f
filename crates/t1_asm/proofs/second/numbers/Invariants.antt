use Rattle.std.proofs.Common.{◌≡◌, length}
use Rattle.t1_asm.specs.Passes.{numbers_onto}
use Rattle.t1_asm.proofs.second.numbers.Given as goal

abbrev pub invariant-loop-first : goal.invariant-loop-first
invariant-loop-first l = numbers_onto l.width l.rest l.out ≡ numbers_onto l.width l.values l.initial.out

abbrev pub decreases-loop-first : goal.decreases-loop-first
decreases-loop-first l = length l.rest
