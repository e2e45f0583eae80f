use Rattle.std.proofs.Common.{◌∙◌, ◌/◌, ◌^◌, ◌<◌, ℕ, ap, sym, arith, rules}
use Rattle.std.specs.Int.{bit_at, w128}
use Rattle.std.proofs.Math.Nat.{div-le_self}
use Rattle.std.proofs.lemmas.Nat.Bits.{bit_at-zero, bit_at-trailing_zeros}
use Rattle.t1_chip.proofs.Sets.{shifted}
use Rattle.t1_chip.proofs.slot_set.clear_from.Goals as goal

pub returns-then-above-eq0-clause-clear : goal.returns-then-above-eq0-clause-clear
returns-then-above-eq0-clause-clear c = λ i k. sym (shifted c.args.set c.args.number i) ∙ (ap (λ (n : ℕ). bit_at n i) c.if-above-eq0.true ∙ bit_at-zero i)

pub returns-then-gap-count-clause-clear : goal.returns-then-gap-count-clause-clear
returns-then-gap-count-clause-clear c = λ i k.
    let above : ℕ = c.args.set / 2 ^ c.args.number in
    let small : c.args.set < 2 ^ 128 = search rules in
    let less = div-le_self c.args.set (2 ^ c.args.number) in
    let t = bit_at-trailing_zeros w128 above (omega (arith, c.if-above-eq0.false)) (omega (arith, small, less)) in
    sym (shifted c.args.set c.args.number i) ∙ t.2 i (omega (arith, k, c.if-gap-count.true))

pub returns-clause-clear : goal.returns-clause-clear
returns-clause-clear c = λ i k.
    let above : ℕ = c.args.set / 2 ^ c.args.number in
    let small : c.args.set < 2 ^ 128 = search rules in
    let less = div-le_self c.args.set (2 ^ c.args.number) in
    let t = bit_at-trailing_zeros w128 above (omega (arith, c.if-above-eq0.false)) (omega (arith, small, less)) in
    sym (shifted c.args.set c.args.number i) ∙ t.2 i k
