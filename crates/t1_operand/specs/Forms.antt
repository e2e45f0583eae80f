-- The form that the operands of an instruction have.
use Rattle.std.specs.Prelude.{ℕ, List, Option, Some, None}
use Rattle.t1_lex.specs.Tokens.{Lexeme}
use Rattle.t1_form.specs.Options.{◌>>=◌}
use Rattle.t1_form.specs.Shapes.{slots_of}
use Rattle.t1_form.specs.declared.form.Form.{Form}
use Rattle.t1_form.specs.declared.form.Forms.{Forms}
use Rattle.t1_form.specs.declared.form.Forms.TheVariants.{One, Two}
use Rattle.t1_expr.specs.Exprs.{Env}
use Rattle.t1_operand.specs.Slots.{slots_at, none_given}
use Rattle.t1_operand.specs.declared.fields.Instruction.{Instruction}

unfoldable pub form_at : Env → ℕ → Form → List Lexeme → Option Instruction
form_at env here r ws = do
  f ← slots_at env here (slots_of r.shape) none_given ws
  Some (record { template = r.template; fields = f })

abbrev pub or_else : {A : Type 0} → Option A → Option A → Option A
or_else None b = b
or_else (Some a) b = Some a

-- the first form that the operands have
unfoldable pub forms_at : Env → ℕ → Forms → List Lexeme → Option Instruction
forms_at env here (One a) ws = form_at env here a ws
forms_at env here (Two a b) ws = or_else (form_at env here a ws) (form_at env here b ws)
