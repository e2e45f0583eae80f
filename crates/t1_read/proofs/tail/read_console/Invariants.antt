use Rattle.std.proofs.Common.{◌≡◌, ◌%◌, ◌≤◌, ◌++◌, ℕ, List, drop, IsTrue, false, length}
use Rattle.t1_num.specs.MemoryLaws.{AreBytes}
use Rattle.t1_log.specs.Log.{console_lines_of}
use Rattle.t1_take.specs.Taken.{Reads}
use Rattle.t1_read.specs.Exact.{NextIsNot}
use Rattle.t1_read.proofs.ConsoleFound.{ConsoleLeft}
use Rattle.t1_read.proofs.tail.read_console.Given as goal

abbrev pub invariant-loop-line : goal.invariant-loop-line
invariant-loop-line l = record {
  whole : IsTrue l.full → length l.console % 32 ≡ 0;
  short : l.full ≡ false → 1 ≤ length l.console % 32;
  bytes : AreBytes l.console;
  low : l._line ≤ l.lines.at;
  reads : Reads l.text l.initial.lines.at l.lines.at (console_lines_of l.console);
  finds : (all rest : List ℕ) → AreBytes all → NextIsNot 107 rest → drop l.initial.lines.at l.text ≡ console_lines_of all ++ rest → ConsoleLeft l.text l.lines.at l.console all rest l.full;
}
