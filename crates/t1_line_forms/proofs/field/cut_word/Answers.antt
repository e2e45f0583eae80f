use Rattle.std.proofs.Common.{ℕ, List, ◌++◌, ◌∙◌, sym, ap}
use Rattle.std.proofs.lemmas.List.{append_cancel_left}
use Rattle.t1_line_forms.proofs.field.cut_word.Goals as goal

pub returns-in-Some-clause-only : goal.returns-in-Some-clause-only
returns-in-Some-clause-only c = λ piece rest e p.
    (sym p, append_cancel_left c.args.word.now c.in-Some.rest.now rest (sym c.in-Some.ensures ∙ (e ∙ ap (λ (t : List ℕ). t ++ rest) p)))

pub returns-in-None-clause-only : goal.returns-in-None-clause-only
returns-in-None-clause-only c = λ piece rest e p. c.in-None.ensures rest (e ∙ ap (λ (t : List ℕ). t ++ rest) p)
