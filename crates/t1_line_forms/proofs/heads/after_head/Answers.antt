use Rattle.std.proofs.Common.{◌≡◌, ◌++◌, ℕ, List, sym, subst}
use Rattle.std.specs.Option.{MatchOption}
use Rattle.t1_line_forms.specs.declared.line.Line.{Line}
use Rattle.t1_line_forms.specs.Forms.{head_of}
use Rattle.t1_line_forms.proofs.heads.after_head.Goals as goal

pub returns-in-Config : goal.returns-in-Config
returns-in-Config c =
    subst (λ (kind : Line). MatchOption c.after.result ((rest : List ℕ) → c.args.line.now ≡ head_of kind ++ rest → ⊥) (λ r. c.args.line.now ≡ head_of kind ++ r.now)) (sym c.in-Config.is) c.after.ensures
