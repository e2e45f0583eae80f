use Rattle.std.proofs.Common.{◌≡◌, take}
use Rattle.t1_io.specs.Held.{Grew}
use Rattle.t1_log.specs.Log.{trace_lines_of}
use Rattle.t1_log.specs.Texts.{lines_from}
use Rattle.t1_log.proofs.log.print_traces.Given as goal

abbrev pub invariant-loop-strand : goal.invariant-loop-strand
invariant-loop-strand g l = record {
  faults : g.K.Sink.faults l.sink ≡ g.K.Sink.faults l.initial.sink;
  printed : Grew (g.K.Sink.held l.initial.sink) (g.K.Sink.held l.sink) (lines_from trace_lines_of 0 (take l.strand l.traces));
}
