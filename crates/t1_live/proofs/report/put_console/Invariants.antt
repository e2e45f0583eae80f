use Rattle.std.proofs.Common.{◌≡◌, ◌≤◌, ◌+◌, ◌++◌, length, drop, vec_capacity}
use Rattle.t1_iob.specs.Console.{console_of}
use Rattle.t1_live.proofs.report.put_console.Given as goal

abbrev pub invariant-loop-commit : goal.invariant-loop-commit
invariant-loop-commit l = record {
  items : l.out.items ++ console_of (drop l.commit-index l.log) ≡ l.initial.out.items ++ console_of l.log;
  room : length l.out.items + length (drop l.commit-index l.log) ≤ vec_capacity l.out;
}
