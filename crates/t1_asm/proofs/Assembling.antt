-- Faults of the two passes are those of the whole.
use Rattle.std.proofs.Common.{◌≡◌, ◌∙◌, ℕ, List, ap, sym, Ok}
use Rattle.t1_expr.specs.Exprs.{Env}
use Rattle.t1_stmt.specs.Lines.{lines_of}
use Rattle.t1_asm.specs.Passes.{State, pass, first_step, second_step, state_from, none_named, first_out, finished, then_go, assembled, FailsAt}
use Rattle.t1_stmt.specs.declared.fault.Halt.{Halt}
use Rattle.t1_stmt.specs.declared.fault.Halt.TheVariants as halt

pub fails_first : (line : ℕ) (h : Halt) (text : List ℕ) (env : Env) → env ≡ none_named → FailsAt line h (pass first_step 1 (state_from env) (lines_of text)) → FailsAt line h (assembled text)
unfolding assembled
fails_first line halt.Memory text env e f = tt
fails_first line (halt.Fault k) text env e f = ap (λ r. then_go r (λ s. then_go (pass (second_step s.env) 1 first_out (lines_of text)) (λ out. Ok (finished s out)))) (ap (λ n. pass first_step 1 (state_from n) (lines_of text)) (sym e) ∙ f)

pub fails_second : (line : ℕ) (h : Halt) (text : List ℕ) (env : Env) (s : State) → env ≡ none_named → pass first_step 1 (state_from env) (lines_of text) ≡ Ok s
    → FailsAt line h (pass (second_step s.env) 1 first_out (lines_of text)) → FailsAt line h (assembled text)
unfolding assembled
fails_second line halt.Memory text env s e g f = tt
fails_second line (halt.Fault k) text env s e g f =
    ap (λ r. then_go r (λ s. then_go (pass (second_step s.env) 1 first_out (lines_of text)) (λ out. Ok (finished s out)))) (ap (λ n. pass first_step 1 (state_from n) (lines_of text)) (sym e) ∙ g)
    ∙ ap (λ r. then_go r (λ out. Ok (finished s out))) f
