use Rattle.std.proofs.Common.{◌≡◌, drop}
use Rattle.t1_check.specs.Crossing.{least, crossed_from}
use Rattle.t1_check.proofs.crossing.crossed.Given as goal

abbrev pub invariant-loop-at : goal.invariant-loop-at
invariant-loop-at l = record {
  low : l.low ≡ least (drop l.at l.goals);
  found : l.found ≡ crossed_from l.at (drop l.at l.bounds) (drop l.at l.goals);
}
