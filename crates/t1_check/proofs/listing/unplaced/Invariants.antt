use Rattle.t1_check.specs.Positions.{ArePlaced}
use Rattle.t1_check.proofs.listing.unplaced.Given as goal

abbrev pub invariant-loop-number : goal.invariant-loop-number
invariant-loop-number l = ArePlaced l.items l.row l.number
