use Rattle.std.proofs.Common.{◌≡◌, length}
use Rattle.t1_machine_tests.proofs.chip.put_words.Given as goal

abbrev pub invariant-loop-word : goal.invariant-loop-word
invariant-loop-word l = length l.ram ≡ 65536
