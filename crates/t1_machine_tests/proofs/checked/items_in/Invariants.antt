use Rattle.std.proofs.Common.{◌≤◌, take}
use Rattle.t1_event.specs.Items.{items_of}
use Rattle.t1_order.specs.Orderable.{accesses_in}
use Rattle.t1_machine_tests.proofs.checked.items_in.Given as goal

abbrev pub invariant-loop-strand : goal.invariant-loop-strand
invariant-loop-strand l = accesses_in (take l.strand (items_of l.traces)) ≤ l.count
