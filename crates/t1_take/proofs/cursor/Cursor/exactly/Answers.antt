use Rattle.std.proofs.Common.{◌∙◌, ◌<◌, ◌++◌, ℕ, List, length, ap, sym, subst, arith}
use Rattle.std.proofs.lemmas.Fmt.{decimal_nonempty}
use Rattle.t1_take.proofs.cursor.Cursor.exactly.Goals as goal

pub returns-clause-finds : goal.returns-clause-finds
returns-clause-finds c = λ rest e.
    let is = c.as_bytes.ensures.value ∙ c.format.ensures.text in
    c.word.ensures.finds (subst (λ (ds : List ℕ). 0 < length ds) (sym is) (decimal_nonempty c.args.number (omega (arith, c.ranges.number.fits)))) rest (e ∙ ap (λ (ds : List ℕ). ds ++ rest) (sym is))
