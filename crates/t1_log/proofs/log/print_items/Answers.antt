use Rattle.std.proofs.Common.{◌∙◌, refl, arith}
use Rattle.t1_io.proofs.Growth.{Grew-nil}
use Rattle.t1_log.specs.Texts.{lines_from}
use Rattle.t1_log.proofs.Printing.{Grew-more, GrewPart-more, on_err}
use Rattle.t1_log.proofs.log.print_items.Goals as goal

pub loop-number-init : goal.loop-number-init
unfolding lines_from
loop-number-init g c = record { faults = refl; printed = Grew-nil _ }

pub loop-number-preserved : goal.loop-number-preserved
loop-number-preserved g c = record {
  faults = c.in_ok-write_line.ensures.cause.kept ∙ c.loop-number.invariant.faults;
  printed = Grew-more _ _ _ _ _ _ _ (omega arith) c.loop-number.invariant.printed (rw c.item_line.ensures at c.in_ok-write_line.ensures.all);
}

pub returns-in_err-write_line-clause-part : goal.returns-in_err-write_line-clause-part
returns-in_err-write_line-clause-part g c =
    on_err _ _ (GrewPart-more _ _ _ _ _ _ _ (omega arith) c.loop-number.invariant.printed (rw c.item_line.ensures at c.in_err-write_line.ensures.part))
