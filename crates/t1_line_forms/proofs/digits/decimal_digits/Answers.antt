use Rattle.std.proofs.Common.{◌∙◌, sym}
use Rattle.t1_line_forms.proofs.Cuts.{digits_more}
use Rattle.t1_line_forms.proofs.digits.decimal_digits.Goals as goal

pub loop-at-preserved : goal.loop-at-preserved
loop-at-preserved c = digits_more c.args.text.now c.loop-at.at c.loop-at-test.true c.loop-at.invariant (sym c.is_ascii_digit.ensures.value ∙ c.if-not-is_ascii_digit.false)
