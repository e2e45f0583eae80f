use Rattle.t1_event.specs.Items.{items_of}
use Rattle.t1_check.specs.Positions.{IsBlank}
use Rattle.t1_check.proofs.listing.blank.Given as goal

abbrev pub invariant-loop-strand : goal.invariant-loop-strand
invariant-loop-strand l = IsBlank (items_of l.traces) l.table l.strand
