use Rattle.std.proofs.Common.{◌≡◌, length}
use Rattle.t1_check.specs.Bounds.{AreBounds, high_at}
use Rattle.t1_check.proofs.rules.bounds.Given as goal

abbrev pub invariant-loop-number : goal.invariant-loop-number
invariant-loop-number l = record {
  len : length l.bounds.items ≡ l.number;
  high : l.high ≡ high_at l.items l.row l.number;
  all : AreBounds l.rule l.items l.row l.bounds.items l.number;
}
