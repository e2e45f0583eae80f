use Rattle.t1_io.proofs.Growth.{GrewPart-append, GrewPart-longer}
use Rattle.t1_log.specs.Log.{text_of}
use Rattle.t1_log.proofs.Printing.{Grew-last, GrewPart-last, on_err}
use Rattle.t1_log.proofs.log.print.Goals as goal

pub returns-in_err-print_head-clause-part : goal.returns-in_err-print_head-clause-part
unfolding text_of
returns-in_err-print_head-clause-part g c =
    on_err _ _
    (GrewPart-longer _ _ _ _ (rw c.fixed_line.ensures at c.in_err-print_head.ensures.part))

pub returns-in_err-print_traces-clause-part : goal.returns-in_err-print_traces-clause-part
unfolding text_of
returns-in_err-print_traces-clause-part g c =
    on_err _ _
    (GrewPart-append _ _ _ _ _ (rw c.fixed_line.ensures at c.in_ok-print_head.ensures.all)
    (GrewPart-longer _ _ _ _ (rw c.as_slice.ensures at c.in_err-print_traces.ensures.part)))

pub returns-in_err-print_commits-clause-part : goal.returns-in_err-print_commits-clause-part
unfolding text_of
returns-in_err-print_commits-clause-part g c =
    on_err _ _
    (GrewPart-append _ _ _ _ _ (rw c.fixed_line.ensures at c.in_ok-print_head.ensures.all)
    (GrewPart-append _ _ _ _ _ (rw c.as_slice.ensures at c.in_ok-print_traces.ensures.all)
    (GrewPart-longer _ _ _ _ (rw c.as_slice-2.ensures at c.in_err-print_commits.ensures.part))))

pub returns-in_err-print_order-clause-part : goal.returns-in_err-print_order-clause-part
unfolding text_of
returns-in_err-print_order-clause-part g c =
    on_err _ _
    (GrewPart-append _ _ _ _ _ (rw c.fixed_line.ensures at c.in_ok-print_head.ensures.all)
    (GrewPart-append _ _ _ _ _ (rw c.as_slice.ensures at c.in_ok-print_traces.ensures.all)
    (GrewPart-append _ _ _ _ _ (rw c.as_slice-2.ensures at c.in_ok-print_commits.ensures.all)
    (GrewPart-longer _ _ _ _ (rw c.as_slice-3.ensures at c.in_err-print_order.ensures.part)))))

pub returns-in_err-print_console-clause-part : goal.returns-in_err-print_console-clause-part
unfolding text_of
returns-in_err-print_console-clause-part g c =
    on_err _ _
    (GrewPart-append _ _ _ _ _ (rw c.fixed_line.ensures at c.in_ok-print_head.ensures.all)
    (GrewPart-append _ _ _ _ _ (rw c.as_slice.ensures at c.in_ok-print_traces.ensures.all)
    (GrewPart-append _ _ _ _ _ (rw c.as_slice-2.ensures at c.in_ok-print_commits.ensures.all)
    (GrewPart-append _ _ _ _ _ (rw c.as_slice-3.ensures at c.in_ok-print_order.ensures.all)
    (GrewPart-longer _ _ _ _ (rw c.as_slice-4.ensures at c.in_err-print_console.ensures.part))))))

pub returns-clause-all : goal.returns-clause-all
unfolding text_of
returns-clause-all g c =
    Grew-last _ _ _ _ _ _ (rw c.fixed_line.ensures at c.in_ok-print_head.ensures.all)
    (Grew-last _ _ _ _ _ _ (rw c.as_slice.ensures at c.in_ok-print_traces.ensures.all)
    (Grew-last _ _ _ _ _ _ (rw c.as_slice-2.ensures at c.in_ok-print_commits.ensures.all)
    (Grew-last _ _ _ _ _ _ (rw c.as_slice-3.ensures at c.in_ok-print_order.ensures.all)
    (Grew-last _ _ _ _ _ _ (rw c.as_slice-4.ensures at c.in_ok-print_console.ensures.all)
    (rw c.fixed_line-2.ensures at c.write_line.ensures.all)))))

pub returns-clause-part : goal.returns-clause-part
unfolding text_of
returns-clause-part g c =
    GrewPart-last _ _ _ _ _ _ (rw c.fixed_line.ensures at c.in_ok-print_head.ensures.all)
    (GrewPart-last _ _ _ _ _ _ (rw c.as_slice.ensures at c.in_ok-print_traces.ensures.all)
    (GrewPart-last _ _ _ _ _ _ (rw c.as_slice-2.ensures at c.in_ok-print_commits.ensures.all)
    (GrewPart-last _ _ _ _ _ _ (rw c.as_slice-3.ensures at c.in_ok-print_order.ensures.all)
    (GrewPart-last _ _ _ _ _ _ (rw c.as_slice-4.ensures at c.in_ok-print_console.ensures.all)
    (rw c.fixed_line-2.ensures at c.write_line.ensures.part)))))
