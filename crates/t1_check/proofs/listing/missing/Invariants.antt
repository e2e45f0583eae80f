use Rattle.t1_event.specs.Items.{items_of}
use Rattle.t1_check.specs.Positions.{AllPlaced}
use Rattle.t1_check.proofs.listing.missing.Given as goal

abbrev pub invariant-loop-strand : goal.invariant-loop-strand
invariant-loop-strand l = AllPlaced (items_of l.traces) l.table l.strand
