use Rattle.std.proofs.Common.{◌∙◌, sym, subst}
use Rattle.t1_line_forms.specs.Digits.{IsDecimal}
use Rattle.t1_line_forms.proofs.Cuts.{one_cut}
use Rattle.t1_line_forms.proofs.field.cut_number.Goals as goal

pub returns-then-is_decimal-clause-only : goal.returns-then-is_decimal-clause-only
returns-then-is_decimal-clause-only c = λ piece rest e d ends.
    one_cut c.decimal_digits.result.0.now piece c.decimal_digits.result.1.now rest c.decimal_digits.ensures.digits d.are_digits c.decimal_digits.ensures.ends ends (sym c.decimal_digits.ensures.parts ∙ e)

pub returns-else-is_decimal-clause-only : goal.returns-else-is_decimal-clause-only
returns-else-is_decimal-clause-only c = λ piece rest e d ends.
    let one = one_cut c.decimal_digits.result.0.now piece c.decimal_digits.result.1.now rest c.decimal_digits.ensures.digits d.are_digits c.decimal_digits.ensures.ends ends (sym c.decimal_digits.ensures.parts ∙ e) in
    c.if-is_decimal.ensures (subst IsDecimal (sym one.0) d)
