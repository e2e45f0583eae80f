use Rattle.std.proofs.Common.{◌≡◌, ◌≤◌, ◌++◌, ℕ, List, drop, length, All}
use Rattle.t1_event.specs.declared.commit.Commit.{Commit}
use Rattle.t1_event.specs.Items.{items_of}
use Rattle.t1_log.specs.Texts.{lines_from}
use Rattle.t1_log.specs.Log.{commit_line_of}
use Rattle.t1_take.specs.Taken.{Reads}
use Rattle.t1_read.specs.Exact.{NextIsNot}
use Rattle.t1_take.specs.WellFormed.{IsNamed, AreGoodCommits}
use Rattle.t1_take.proofs.Leaving.{IsLeft}
use Rattle.t1_read.proofs.tail.read_commits.Given as goal

abbrev pub invariant-loop-index : goal.invariant-loop-index
invariant-loop-index l = record {
  good : AreGoodCommits l.cores (items_of l.traces) l.log;
  count : length l.log ≡ l.index;
  low : l.index ≤ l.lines.at;
  reads : Reads l.text l.initial.lines.at l.lines.at (lines_from commit_line_of 0 l.log);
  finds : (all : List Commit) (rest : List ℕ) → AreGoodCommits l.cores (items_of l.traces) all → All IsNamed all → NextIsNot 99 rest → drop l.initial.lines.at l.text ≡ lines_from commit_line_of 0 all ++ rest
      → IsLeft commit_line_of l.text l.lines.at l.log all rest;
}
