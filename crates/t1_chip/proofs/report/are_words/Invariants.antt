use Rattle.std.specs.List.{AllWithin}
use Rattle.t1_machine_rule.specs.Words.{AreWords}
use Rattle.t1_chip.proofs.report.are_words.Given as goal

abbrev pub invariant-loop-trace : goal.invariant-loop-trace
invariant-loop-trace l = AllWithin AreWords l.traces 0 l.trace-index
