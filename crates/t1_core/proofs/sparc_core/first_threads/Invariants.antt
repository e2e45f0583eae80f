-- The strands so far, then those that are left.
use Rattle.std.proofs.Common.{◌≡◌, ◌+◌, ◌++◌, ◌-◌, length}
use Rattle.t1_core.specs.Start.{threads_from}
use Rattle.t1_core.proofs.sparc_core.first_threads.Given as goal

abbrev pub invariant-loop-i : goal.invariant-loop-i
invariant-loop-i l = record {
  count : length l.threads.items ≡ l.i;
  rest : l.threads.items ++ threads_from l.config l.entry (l.number + l.i) (l.config.strands - l.i) ≡ threads_from l.config l.entry l.number l.config.strands;
}
