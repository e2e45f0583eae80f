use Rattle.std.proofs.Common.{◌≡◌, ◌∙◌, ◌∷◌, [], ap, sym, arith, Some, List, length, refl}
use Rattle.t1_lex.specs.Lexemes.{lexemes}
use Rattle.t1_lex.specs.declared.token.Token.{Token}
use Rattle.t1_expr.specs.Symbols.{env_of}
use Rattle.t1_expr.specs.Exprs.{expr_at}
use Rattle.t1_stmt.specs.Lines.{exprs_from}
use Rattle.t1_stmt.proofs.ExprLists.{exprs_none, exprs_last, seen_length}
use Rattle.t1_stmt.proofs.line.exprs.Goals as goal

none_left : (l : List Token) → length l ≡ 0 → l ≡ []
none_left [] h = refl
none_left (t ∷ ts) h = absurd (omega arith)

pub loop-left-init : goal.loop-left-init
loop-left-init c =
    ap (λ vs. exprs_from (length c.args.tokens.now) vs (env_of c.args.symbols.now) c.args.here (lexemes c.args.text.now c.args.tokens.now)) c.new-values.ensures
    ∙ ap (λ n. exprs_from n [] (env_of c.args.symbols.now) c.args.here (lexemes c.args.text.now c.args.tokens.now)) (sym (seen_length c.args.text.now c.args.tokens.now))

pub returns : goal.returns
returns c = sym c.loop-left.invariant ∙ exprs_none c.loop-left.left _ _ _ _ (omega arith)

pub returns-in-None : goal.returns-in-None
unfolding lexemes
returns-in-None c =
    let e : c.in_ok-value.after.now ≡ [] = none_left c.in_ok-value.after.now c.in-None.ensures.cases in
    let x : expr_at (env_of c.args.symbols.now) c.args.here (lexemes c.args.text.now c.loop-left.rest.now) ≡ Some (c.in_ok-value.value, []) =
    c.in_ok-value.ensures ∙ ap (λ l. Some (c.in_ok-value.value, lexemes c.args.text.now l)) e in
    sym c.loop-left.invariant ∙ exprs_last c.loop-left.left c.loop-left.values c.in_ok-value.value _ _ _ (omega arith) x
    ∙ ap Some (sym c.in_ok-push.ensures.ok)
