use Rattle.std.proofs.Common.{get_or, take, arith}
use Rattle.std.proofs.lemmas.List.{take_more}
use Rattle.t1_line_forms.proofs.Cuts.{number_last}
use Rattle.t1_line_forms.proofs.digits.number_of.Goals as goal

pub loop-digit-preserved : goal.loop-digit-preserved
loop-digit-preserved c =
    let digits = c.args.digits.now in
    let at = c.loop-digit.digit-index in
    let last = number_last 0 (take at digits) (get_or digits at 0) in
    rw (take_more digits at 0 c.loop-digit-test.true) (omega (arith, last, c.loop-digit.invariant, c.saturating_add-number.ensures, c.saturating_mul.ensures, c.from.ensures, c.saturating_sub.ensures))
