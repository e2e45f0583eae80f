use Rattle.t1_event.specs.Items.{items_of}
use Rattle.t1_check.specs.Positions.{IsMarked}
use Rattle.t1_check.proofs.listing.positions.Given as goal

abbrev pub invariant-loop-line : goal.invariant-loop-line
invariant-loop-line l = IsMarked (items_of l.traces) l.order l.line l.table
