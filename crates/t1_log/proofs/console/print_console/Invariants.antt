use Rattle.std.proofs.Common.{◌≡◌, ◌+◌, ◌/◌, length, take}
use Rattle.t1_io.specs.Held.{Grew}
use Rattle.t1_log.specs.Texts.{lines_from, blocks_from}
use Rattle.t1_log.specs.Log.{console_line_of}
use Rattle.t1_log.proofs.console.print_console.Given as goal

abbrev pub invariant-loop-number : goal.invariant-loop-number
invariant-loop-number g l = record {
  faults : g.K.Sink.faults l.sink ≡ g.K.Sink.faults l.initial.sink;
  printed : Grew (g.K.Sink.held l.initial.sink) (g.K.Sink.held l.sink)
      (lines_from console_line_of 0 (take l.number (blocks_from ((length l.bytes + 31) / 32) l.bytes)));
}
