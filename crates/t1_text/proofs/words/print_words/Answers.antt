use Rattle.std.proofs.Common.{◌∙◌, refl, arith}
use Rattle.t1_io.specs.Held.{GrewPart}
use Rattle.t1_io.proofs.Growth.{Grew-nil}
use Rattle.t1_log.specs.Texts.{lines_from}
use Rattle.t1_log.proofs.Printing.{Grew-more, GrewPart-more, on_err}
use Rattle.t1_text.specs.Words.{object_lines_of}
use Rattle.t1_text.proofs.words.print_words.Goals as goal

pub loop-chunk-init : goal.loop-chunk-init
unfolding lines_from
loop-chunk-init g c = record { faults = refl; printed = Grew-nil _ }

pub loop-chunk-preserved : goal.loop-chunk-preserved
loop-chunk-preserved g c = record {
  faults = c.in_ok-print_chunk.ensures.cause.kept ∙ c.loop-chunk.invariant.faults;
  printed = Grew-more _ _ _ _ _ _ _ (omega arith) c.loop-chunk.invariant.printed (rw c.chunk-item.is at c.in_ok-print_chunk.ensures.all);
}

pub returns-in_err-print_chunk-clause-part : goal.returns-in_err-print_chunk-clause-part
returns-in_err-print_chunk-clause-part g c =
    on_err (GrewPart (g.K.Sink.held c.args.sink.now) (g.K.Sink.held c.print_chunk.new.sink) (object_lines_of c.args.object.now)) _
    (rw (← c.as_slice-chunk-items.ensures)
    (GrewPart-more _ _ _ _ _ _ _ (omega arith) c.loop-chunk.invariant.printed (rw c.chunk-item.is at c.in_err-print_chunk.ensures.part)))
