use Rattle.t1_io.proofs.Growth.{GrewPart-longer}
use Rattle.t1_log.specs.Log.{trace_lines_of}
use Rattle.t1_log.proofs.Printing.{GrewPart-last, on_err}
use Rattle.t1_log.proofs.log.print_trace.Goals as goal

pub returns-in_err-print_items-clause-part : goal.returns-in_err-print_items-clause-part
unfolding trace_lines_of
returns-in_err-print_items-clause-part g c =
    on_err _ _ (GrewPart-longer _ _ _ _ (rw c.as_slice.ensures at c.in_err-print_items.ensures.part))

pub returns-clause-part : goal.returns-clause-part
unfolding trace_lines_of
returns-clause-part g c =
    GrewPart-last _ _ _ _ _ _ (rw c.as_slice.ensures at c.in_ok-print_items.ensures.all) c.print_ending.ensures.part
