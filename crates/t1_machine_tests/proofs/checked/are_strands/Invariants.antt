use Rattle.std.proofs.Common.{ℕ, ◌<◌, [], get_or}
use Rattle.t1_event.specs.Items.{items_of}
use Rattle.t1_machine_tests.specs.Checked.{IsStrand}
use Rattle.t1_machine_tests.proofs.checked.are_strands.Given as goal

abbrev pub invariant-loop-strand : goal.invariant-loop-strand
invariant-loop-strand l = (strand : ℕ) → strand < l.strand → IsStrand l.log strand (get_or (items_of l.traces) strand [])
