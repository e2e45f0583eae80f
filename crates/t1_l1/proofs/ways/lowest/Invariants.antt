-- The scan from here on gives what the scan of the whole set gives.
use Rattle.std.proofs.Common.{◌≡◌, ◌+◌, ◌-◌}
use Rattle.t1_shape.specs.Slots.{scan}
use Rattle.t1_l1.proofs.ways.lowest.Given as goal

abbrev pub invariant-loop-way : goal.invariant-loop-way
invariant-loop-way l = scan l.tags l.line l.first l.ways ≡ scan l.tags l.line (l.first + l.way) (l.ways - l.way)
