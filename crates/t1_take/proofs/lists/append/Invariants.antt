use Rattle.std.proofs.Common.{◌≡◌, ◌++◌, take}
use Rattle.t1_take.proofs.lists.append.Given as goal

abbrev pub invariant-loop-at : goal.invariant-loop-at
invariant-loop-at l = l.console ≡ l.initial.console ++ take l.at l.bytes
