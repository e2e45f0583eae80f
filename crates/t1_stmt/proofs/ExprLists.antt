-- Lists of expressions.
use Rattle.std.proofs.Common.{◌≡◌, ◌<◌, ◌-◌, ℕ, zero, suc, List, [], ◌∷◌, ◌++◌, ◌≤◌, ◌∙◌, ap, arith, refl, Some, None}
use Rattle.std.proofs.Common.{length}
use Rattle.t1_lex.specs.Tokens.{Lexeme}
use Rattle.t1_lex.specs.Lexemes.{lexemes}
use Rattle.t1_lex.specs.declared.token.Token.{Token}
use Rattle.t1_expr.specs.Exprs.{Env, Value, expr_at}
use Rattle.t1_stmt.specs.Lines.{exprs_from, exprs_after, more_exprs}

pub exprs_step : (left : ℕ) (vs : List Value) (env : Env) (here : ℕ) (ws : List Lexeme) → 0 < left
    → exprs_from left vs env here ws ≡ exprs_after (λ us rest. exprs_from (left - 1) us env here rest) vs (expr_at env here ws)
unfolding exprs_from
exprs_step zero vs env here ws h = absurd (omega arith)
exprs_step (suc n) vs env here ws h =
    let e : n ≡ suc n - 1 = omega arith in
    ap (λ m. exprs_after (λ us rest. exprs_from m us env here rest) vs (expr_at env here ws)) e

pub exprs_none : (left : ℕ) (vs : List Value) (env : Env) (here : ℕ) (ws : List Lexeme) → left ≤ 0 → exprs_from left vs env here ws ≡ None
unfolding exprs_from
exprs_none zero vs env here ws h = refl
exprs_none (suc n) vs env here ws h = absurd (omega arith)

pub exprs_last : (left : ℕ) (vs : List Value) (v : Value) (env : Env) (here : ℕ) (ws : List Lexeme) → 0 < left → expr_at env here ws ≡ Some (v, [])
    → exprs_from left vs env here ws ≡ Some (vs ++ v ∷ [])
unfolding exprs_after more_exprs
exprs_last left vs v env here ws h e =
    exprs_step left vs env here ws h ∙ ap (exprs_after (λ us rest. exprs_from (left - 1) us env here rest) vs) e

pub seen_length : (text : List ℕ) (ts : List Token) → length (lexemes text ts) ≡ length ts
unfolding lexemes
seen_length text [] = refl
seen_length text (t ∷ ts) = ap suc (seen_length text ts)
