use Rattle.std.proofs.Common.{◌+◌, ◌*◌, ◌%◌, ◌^◌, refl, ap, arith}
use Rattle.t1_take.proofs.HexDigits.{hex_start, hex_goes}
use Rattle.t1_take.proofs.Finding.{hex_none}
use Rattle.t1_take.proofs.cursor.hex_at.Goals as goal

pub loop-place-init : goal.loop-place-init
loop-place-init c = λ _. hex_start c.args.text.now c.args.at

pub loop-place-preserved : goal.loop-place-preserved
loop-place-preserved c = λ few.
    let here = c.loop-place.invariant (omega (arith, few)) in
    let d = c.in-Some.ensures.some in
    hex_goes c.args.text.now c.args.at c.loop-place.place c.loop-place.value c.in-Some.digit _ _ (omega (arith, few)) (omega (arith, c.requires, c.loop-place-test.true)) here refl d.0 d.1 (ap (λ n. (c.loop-place.value * 16 % 2 ^ 64 + n) % 2 ^ 64) c.from.ensures)

pub returns-in-None-clause-none : goal.returns-in-None-clause-none
returns-in-None-clause-none c = λ value. hex_none c.args.text.now c.args.at c.args.digits c.loop-place.place value c.loop-place-test.true c.in-None.ensures.none
