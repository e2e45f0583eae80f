use Rattle.std.proofs.Common.{◌≡◌, take}
use Rattle.t1_io.specs.Held.{Grew}
use Rattle.t1_log.specs.Log.{commit_line_of}
use Rattle.t1_log.specs.Texts.{lines_from}
use Rattle.t1_log.proofs.log.print_commits.Given as goal

abbrev pub invariant-loop-index : goal.invariant-loop-index
invariant-loop-index g l = record {
  faults : g.K.Sink.faults l.sink ≡ g.K.Sink.faults l.initial.sink;
  printed : Grew (g.K.Sink.held l.initial.sink) (g.K.Sink.held l.sink) (lines_from commit_line_of 0 (take l.index l.log));
}
