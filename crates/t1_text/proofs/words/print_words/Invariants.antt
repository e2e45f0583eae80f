use Rattle.std.proofs.Common.{◌≡◌, take}
use Rattle.t1_io.specs.Held.{Grew}
use Rattle.t1_log.specs.Texts.{lines_from}
use Rattle.t1_text.specs.Words.{chunk_lines_of}
use Rattle.t1_text.proofs.words.print_words.Given as goal

abbrev pub invariant-loop-chunk : goal.invariant-loop-chunk
invariant-loop-chunk g l = record {
  faults : g.K.Sink.faults l.sink ≡ g.K.Sink.faults l.initial.sink;
  printed : Grew (g.K.Sink.held l.initial.sink) (g.K.Sink.held l.sink) (lines_from (λ number chunk. chunk_lines_of chunk) 0 (take l.chunk-index l.chunk-items));
}
