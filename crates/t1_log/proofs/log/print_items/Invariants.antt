use Rattle.std.proofs.Common.{◌≡◌, take}
use Rattle.t1_io.specs.Held.{Grew}
use Rattle.t1_log.specs.Log.{item_line_of}
use Rattle.t1_log.specs.Texts.{lines_from}
use Rattle.t1_log.proofs.log.print_items.Given as goal

abbrev pub invariant-loop-number : goal.invariant-loop-number
invariant-loop-number g l = record {
  faults : g.K.Sink.faults l.sink ≡ g.K.Sink.faults l.initial.sink;
  printed : Grew (g.K.Sink.held l.initial.sink) (g.K.Sink.held l.sink) (lines_from (item_line_of l.strand) 0 (take l.number l.items));
}
