use Rattle.std.proofs.Common.{◌≡◌, drop}
use Rattle.t1_cli.specs.Runs.{spent_from}
use Rattle.t1_cli.proofs.ended.first_spent.Given as goal

abbrev pub invariant-loop-strand : goal.invariant-loop-strand
invariant-loop-strand l = spent_from l.strand (drop l.strand l.traces) ≡ spent_from 0 l.traces
