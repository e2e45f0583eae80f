use Rattle.std.proofs.Common.{◌≡◌}
use Rattle.std.specs.Prelude.{replicate}
use Rattle.t1_asm.specs.Passes.{appended}
use Rattle.t1_asm.proofs.second.Output.zeros.Given as goal

abbrev pub invariant-loop-left : goal.invariant-loop-left
invariant-loop-left l = appended l.self (replicate l.left 0) ≡ appended l.initial.self (replicate l.count 0)

abbrev pub decreases-loop-left : goal.decreases-loop-left
decreases-loop-left l = l.left
