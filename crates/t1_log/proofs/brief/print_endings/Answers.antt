use Rattle.std.proofs.Common.{◌∙◌, refl, subst, arith}
use Rattle.t1_event.specs.declared.trace.Trace.{Trace}
use Rattle.t1_io.specs.Held.{Grew, GrewPart}
use Rattle.t1_io.proofs.Growth.{Grew-nil}
use Rattle.t1_log.specs.Lines.{last_line_of}
use Rattle.t1_log.specs.Texts.{lines_from}
use Rattle.t1_log.proofs.Printing.{Grew-more, GrewPart-more, on_err}
use Rattle.t1_log.proofs.brief.print_endings.Goals as goal

pub loop-strand-init : goal.loop-strand-init
unfolding lines_from
loop-strand-init g c = record { faults = refl; printed = Grew-nil _ }

pub loop-strand-preserved : goal.loop-strand-preserved
loop-strand-preserved g c = record {
  faults = c.in_ok-print_ending.ensures.cause.kept ∙ c.loop-strand.invariant.faults;
  printed = Grew-more last_line_of c.args.traces.now c.loop-strand.strand c.index-traces-strand.result _ _ _ (omega arith) c.loop-strand.invariant.printed
      (subst (λ (trace : Trace). Grew (g.K.Sink.held c.loop-strand.sink) (g.K.Sink.held c.print_ending.new.sink) (last_line_of c.loop-strand.strand trace))
      c.index-traces-strand.is c.in_ok-print_ending.ensures.all);
}

pub returns-in_err-print_ending-clause-part : goal.returns-in_err-print_ending-clause-part
returns-in_err-print_ending-clause-part g c =
    on_err _ _ (GrewPart-more last_line_of c.args.traces.now c.loop-strand.strand c.index-traces-strand.result _ _ _ (omega arith) c.loop-strand.invariant.printed
    (subst (λ (trace : Trace). GrewPart (g.K.Sink.held c.loop-strand.sink) (g.K.Sink.held c.print_ending.new.sink) (last_line_of c.loop-strand.strand trace))
    c.index-traces-strand.is c.in_err-print_ending.ensures.part))
