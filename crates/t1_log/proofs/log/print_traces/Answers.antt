use Rattle.std.proofs.Common.{◌∙◌, refl, arith}
use Rattle.t1_io.proofs.Growth.{Grew-nil}
use Rattle.t1_log.specs.Texts.{lines_from}
use Rattle.t1_log.proofs.Printing.{Grew-more, GrewPart-more, on_err}
use Rattle.t1_log.proofs.log.print_traces.Goals as goal

pub loop-strand-init : goal.loop-strand-init
unfolding lines_from
loop-strand-init g c = record { faults = refl; printed = Grew-nil _ }

pub loop-strand-preserved : goal.loop-strand-preserved
loop-strand-preserved g c = record {
  faults = c.in_ok-print_trace.ensures.cause.kept ∙ c.loop-strand.invariant.faults;
  printed = Grew-more _ _ _ _ _ _ _ (omega arith) c.loop-strand.invariant.printed (rw c.index-traces-strand.is at c.in_ok-print_trace.ensures.all);
}

pub returns-in_err-print_trace-clause-part : goal.returns-in_err-print_trace-clause-part
returns-in_err-print_trace-clause-part g c =
    on_err _ _ (GrewPart-more _ _ _ _ _ _ _ (omega arith) c.loop-strand.invariant.printed (rw c.index-traces-strand.is at c.in_err-print_trace.ensures.part))
