-- The strands so far, then those that are left.
use Rattle.std.proofs.Common.{◌≡◌, ◌++◌, ◌-◌, ◌≤◌, length}
use Rattle.t1_select.specs.Queue.{counted}
use Rattle.t1_select.proofs.select.Select.new.Given as goal

abbrev pub invariant-loop-strand : goal.invariant-loop-strand
invariant-loop-strand l = (l.turns.items ++ counted l.strand (l.strands - l.strand) ≡ counted 0 l.strands) × (length l.turns.items ≤ l.strand)
