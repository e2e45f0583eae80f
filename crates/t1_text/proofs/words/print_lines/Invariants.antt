use Rattle.std.proofs.Common.{◌≡◌, take}
use Rattle.t1_io.specs.Held.{Grew}
use Rattle.t1_log.specs.Texts.{lines_from}
use Rattle.t1_text.specs.Words.{words_of, numbered_line_of}
use Rattle.t1_text.proofs.words.print_lines.Given as goal

abbrev pub invariant-loop-number : goal.invariant-loop-number
invariant-loop-number g l = record {
  faults : g.K.Sink.faults l.sink ≡ g.K.Sink.faults l.initial.sink;
  printed : Grew (g.K.Sink.held l.initial.sink) (g.K.Sink.held l.sink) (lines_from (numbered_line_of l.addr) 0 (take l.number (words_of l.bytes)));
}
