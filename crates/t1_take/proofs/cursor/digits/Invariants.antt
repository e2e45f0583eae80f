use Rattle.std.proofs.Common.{◌≤◌}
use Rattle.t1_take.specs.Digits.{AreDigits}
use Rattle.t1_take.proofs.cursor.digits.Given as goal

abbrev pub invariant-loop-at : goal.invariant-loop-at
invariant-loop-at l = record {
  low : l.start ≤ l.at;
  digits : AreDigits l.text l.start l.at l.value;
}
