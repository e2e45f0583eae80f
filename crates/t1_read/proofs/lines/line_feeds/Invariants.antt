use Rattle.std.proofs.Common.{◌≡◌, take}
use Rattle.t1_read.specs.Faults.{feeds}
use Rattle.t1_read.proofs.lines.line_feeds.Given as goal

abbrev pub invariant-loop-at : goal.invariant-loop-at
invariant-loop-at l = l.count ≡ feeds (take l.at l.text)
