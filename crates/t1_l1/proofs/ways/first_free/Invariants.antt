-- The search from here on gives what the search of the whole set gives.
use Rattle.std.proofs.Common.{◌≡◌, ◌-◌}
use Rattle.t1_shape.specs.Slots.{empty_way}
use Rattle.t1_l1.proofs.ways.first_free.Given as goal

abbrev pub invariant-loop-way : goal.invariant-loop-way
invariant-loop-way l = empty_way l.tags l.first 0 l.ways ≡ empty_way l.tags l.first l.way (l.ways - l.way)
