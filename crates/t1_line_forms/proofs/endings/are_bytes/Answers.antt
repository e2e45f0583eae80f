use Rattle.std.proofs.Common.{◌≡◌, length, sym, ◌∙◌, arith}
use Rattle.std.proofs.lemmas.Bool.{eqb-false}
use Rattle.t1_line_forms.proofs.Tails.{bytes_decided}
use Rattle.t1_line_forms.proofs.endings.are_bytes.Goals as goal

pub returns : goal.returns
returns c =
    let text = c.args.text.now in
    let none : length text ≡ 0 → ⊥ = eqb-false (length text) 0 (sym c.is_empty.ensures ∙ c.if-is_empty.false) in
    bytes_decided c.are_hex_digits.result text c.are_hex_digits.ensures (omega (arith, none)) (omega arith) (omega (arith, c.if-text-eq1.false))
