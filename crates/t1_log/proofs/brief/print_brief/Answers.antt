use Rattle.t1_io.proofs.Growth.{GrewPart-append, GrewPart-longer}
use Rattle.t1_log.specs.Brief.{brief_of}
use Rattle.t1_log.proofs.Printing.{Grew-last, GrewPart-last, on_err}
use Rattle.t1_log.proofs.brief.print_brief.Goals as goal

pub returns-in_err-write_line-clause-part : goal.returns-in_err-write_line-clause-part
unfolding brief_of
returns-in_err-write_line-clause-part g c =
    on_err _ _
    (GrewPart-longer _ _ _ _ (rw c.fixed_line.ensures at c.in_err-write_line.ensures.part))

pub returns-in_err-write_line-2-clause-part : goal.returns-in_err-write_line-2-clause-part
unfolding brief_of
returns-in_err-write_line-2-clause-part g c =
    on_err _ _
    (GrewPart-append _ _ _ _ _ (rw c.fixed_line.ensures at c.in_ok-write_line.ensures.all)
    (GrewPart-longer _ _ _ _ (rw c.config_line.ensures at c.in_err-write_line-2.ensures.part)))

pub returns-in_err-print_endings-clause-part : goal.returns-in_err-print_endings-clause-part
unfolding brief_of
returns-in_err-print_endings-clause-part g c =
    on_err _ _
    (GrewPart-append _ _ _ _ _ (rw c.fixed_line.ensures at c.in_ok-write_line.ensures.all)
    (GrewPart-append _ _ _ _ _ (rw c.config_line.ensures at c.in_ok-write_line-2.ensures.all)
    (GrewPart-longer _ _ _ _ (rw c.as_slice.ensures at c.in_err-print_endings.ensures.part))))

pub returns-in_err-write_line-3-clause-part : goal.returns-in_err-write_line-3-clause-part
unfolding brief_of
returns-in_err-write_line-3-clause-part g c =
    on_err _ _
    (GrewPart-append _ _ _ _ _ (rw c.fixed_line.ensures at c.in_ok-write_line.ensures.all)
    (GrewPart-append _ _ _ _ _ (rw c.config_line.ensures at c.in_ok-write_line-2.ensures.all)
    (GrewPart-append _ _ _ _ _ (rw c.as_slice.ensures at c.in_ok-print_endings.ensures.all)
    (GrewPart-longer _ _ _ _ (rw c.totals_of.ensures at c.in_err-write_line-3.ensures.part)))))

pub returns-in_err-print_console-clause-part : goal.returns-in_err-print_console-clause-part
unfolding brief_of
returns-in_err-print_console-clause-part g c =
    on_err _ _
    (GrewPart-append _ _ _ _ _ (rw c.fixed_line.ensures at c.in_ok-write_line.ensures.all)
    (GrewPart-append _ _ _ _ _ (rw c.config_line.ensures at c.in_ok-write_line-2.ensures.all)
    (GrewPart-append _ _ _ _ _ (rw c.as_slice.ensures at c.in_ok-print_endings.ensures.all)
    (GrewPart-append _ _ _ _ _ (rw c.totals_of.ensures at c.in_ok-write_line-3.ensures.all)
    (GrewPart-longer _ _ _ _ (rw c.as_slice-2.ensures at c.in_err-print_console.ensures.part))))))

pub returns-clause-all : goal.returns-clause-all
unfolding brief_of
returns-clause-all g c =
    Grew-last _ _ _ _ _ _ (rw c.fixed_line.ensures at c.in_ok-write_line.ensures.all)
    (Grew-last _ _ _ _ _ _ (rw c.config_line.ensures at c.in_ok-write_line-2.ensures.all)
    (Grew-last _ _ _ _ _ _ (rw c.as_slice.ensures at c.in_ok-print_endings.ensures.all)
    (Grew-last _ _ _ _ _ _ (rw c.totals_of.ensures at c.in_ok-write_line-3.ensures.all)
    (Grew-last _ _ _ _ _ _ (rw c.as_slice-2.ensures at c.in_ok-print_console.ensures.all)
    (rw c.fixed_line-2.ensures at c.write_line-4.ensures.all)))))

pub returns-clause-part : goal.returns-clause-part
unfolding brief_of
returns-clause-part g c =
    GrewPart-last _ _ _ _ _ _ (rw c.fixed_line.ensures at c.in_ok-write_line.ensures.all)
    (GrewPart-last _ _ _ _ _ _ (rw c.config_line.ensures at c.in_ok-write_line-2.ensures.all)
    (GrewPart-last _ _ _ _ _ _ (rw c.as_slice.ensures at c.in_ok-print_endings.ensures.all)
    (GrewPart-last _ _ _ _ _ _ (rw c.totals_of.ensures at c.in_ok-write_line-3.ensures.all)
    (GrewPart-last _ _ _ _ _ _ (rw c.as_slice-2.ensures at c.in_ok-print_console.ensures.all)
    (rw c.fixed_line-2.ensures at c.write_line-4.ensures.part)))))
