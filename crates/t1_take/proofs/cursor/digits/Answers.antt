use Rattle.std.proofs.Common.{◌∙◌, sym, arith}
use Rattle.t1_take.proofs.Numerals.{digits_more}
use Rattle.t1_take.proofs.cursor.digits.Goals as goal

pub loop-at-preserved : goal.loop-at-preserved
loop-at-preserved c = record {
  low = omega (arith, c.loop-at.invariant.low);
  digits =
      digits_more c.args.text.now c.args.start c.loop-at.at c.loop-at.value _ c.loop-at.invariant.low c.loop-at-test.true c.loop-at.invariant.digits
      (sym c.is_ascii_digit.ensures.value ∙ c.if-not-is_ascii_digit.false)
      (omega (arith, c.saturating_add-value.ensures, c.saturating_mul.ensures, c.from.ensures, c.saturating_sub.ensures));
}
