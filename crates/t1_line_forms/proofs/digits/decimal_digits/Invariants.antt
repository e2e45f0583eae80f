use Rattle.std.proofs.Common.{take, IsTrue}
use Rattle.std.specs.Str.{all_ascii_digits}
use Rattle.t1_line_forms.proofs.digits.decimal_digits.Given as goal

abbrev pub invariant-loop-at : goal.invariant-loop-at
invariant-loop-at l = IsTrue (all_ascii_digits (take l.at l.text))
