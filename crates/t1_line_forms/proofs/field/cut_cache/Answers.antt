use Rattle.std.proofs.Common.{inl, inr}
use Rattle.t1_line_forms.proofs.field.cut_cache.Goals as goal

pub returns-in-None-clause-only : goal.returns-in-None-clause-only
returns-in-None-clause-only c = λ piece rest e p.
    elim p [
      | inl d ↦ absurd (c.in-None.ensures.only piece rest e d)
      | inr i ↦ c.cut_word-in-None.ensures.only piece rest e i
    ]
