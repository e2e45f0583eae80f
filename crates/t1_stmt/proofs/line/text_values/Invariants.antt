use Rattle.std.proofs.Common.{◌≡◌, length, false, []}
use Rattle.t1_stmt.specs.Lines.{values_after}
use Rattle.t1_stmt.proofs.line.text_values.Given as goal

abbrev pub invariant-loop-first : goal.invariant-loop-first
invariant-loop-first l = values_after l.out l.escaped l.rest ≡ values_after [] false l.quoted

abbrev pub decreases-loop-first : goal.decreases-loop-first
decreases-loop-first l = length l.rest
