use Rattle.std.proofs.Common.{◌≡◌, length}
use Rattle.t1_check.specs.Bounds.{AreGoals}
use Rattle.t1_check.proofs.rules.goals.Given as goal

abbrev pub invariant-loop-number : goal.invariant-loop-number
invariant-loop-number l = record {
  len : length l.goals.items ≡ l.number;
  all : AreGoals l.rule l.items l.row l.goals.items l.number;
}
