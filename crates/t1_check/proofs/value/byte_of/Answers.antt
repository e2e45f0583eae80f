use Rattle.std.proofs.Common.{◌≡◌, ◌∙◌, ◌*◌, ◌-◌, ◌^◌, ◌/◌, ◌%◌, sym, ap, ℕ, arith}
use Rattle.std.proofs.lemmas.Nat.{and_mask}
use Rattle.t1_check.proofs.Words.{byte_past, byte_high, byte_shifted}
use Rattle.t1_check.proofs.value.byte_of.Goals as goal

pub returns-then-k-from : goal.returns-then-k-from
returns-then-k-from c = sym (byte_past c.args.value c.args.size c.args.k (omega (arith, c.from.ensures, c.if-k-from.true)))

pub returns-then-place-ge8 : goal.returns-then-place-ge8
returns-then-place-ge8 c =
    sym (byte_high c.args.value c.args.size c.args.k (omega (arith, c.ranges.value.fits)) (omega (arith, c.from.ensures, c.if-k-from.false)) (omega (arith, c.from-2.ensures, c.if-place-ge8.true)))

pub returns : goal.returns
returns c =
    let shifted = byte_shifted c.args.value c.args.size c.args.k (omega (arith, c.from.ensures, c.if-k-from.false)) in
    let place : c.from-2.result - 1 - c.args.k ≡ c.args.size - 1 - c.args.k = omega (arith, c.from-2.ensures) in
    and_mask (c.args.value / 2 ^ (8 * (c.from-2.result - 1 - c.args.k))) 8 ∙ (ap (λ (p : ℕ). c.args.value / 2 ^ (8 * p) % 256) place ∙ sym shifted)
