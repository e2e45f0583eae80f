use Rattle.std.proofs.Common.{◌≡◌, ◌-◌, ◌≤◌, length, drop}
use Rattle.t1_expr.specs.Exprs.{sum_from, expr_at}
use Rattle.t1_lex.specs.Lexemes.{lexemes}
use Rattle.t1_expr.specs.Symbols.{env_of}
use Rattle.t1_expr.proofs.exprs.expr.Given as goal

abbrev pub invariant-loop-at : goal.invariant-loop-at
invariant-loop-at l = record {
  read : sum_from (env_of l.symbols) l.here l.sum (lexemes l.text (drop l.at l.tokens)) ≡ expr_at (env_of l.symbols) l.here (lexemes l.text l.tokens);
  within : l.at ≤ length l.tokens;
}

abbrev pub decreases-loop-at : goal.decreases-loop-at
decreases-loop-at l = length l.tokens - l.at
