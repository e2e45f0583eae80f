use Rattle.std.proofs.Common.{◌≡◌, take}
use Rattle.t1_read.specs.Faults.{feeds}
use Rattle.t1_read.proofs.lines.first_line.Given as goal

abbrev pub invariant-loop-at : goal.invariant-loop-at
invariant-loop-at l = feeds (take l.at l.text) ≡ 0
