use Rattle.t1_event.specs.Items.{items_of}
use Rattle.t1_order.proofs.Start.{IsStarted}
use Rattle.t1_order.proofs.merge.rest_of.Given as goal

abbrev pub invariant-loop-strand : goal.invariant-loop-strand
invariant-loop-strand l = IsStarted (items_of l.traces) l.strand l.numbers l.times
