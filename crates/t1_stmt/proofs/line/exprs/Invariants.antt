use Rattle.std.proofs.Common.{◌≡◌, [], length}
use Rattle.t1_lex.specs.Lexemes.{lexemes}
use Rattle.t1_expr.specs.Symbols.{env_of}
use Rattle.t1_stmt.specs.Lines.{exprs_from}
use Rattle.t1_stmt.proofs.line.exprs.Given as goal

abbrev pub invariant-loop-left : goal.invariant-loop-left
invariant-loop-left l = exprs_from l.left l.values (env_of l.symbols) l.here (lexemes l.text l.rest) ≡ exprs_from (length (lexemes l.text l.tokens)) [] (env_of l.symbols) l.here (lexemes l.text l.tokens)

abbrev pub decreases-loop-left : goal.decreases-loop-left
decreases-loop-left l = l.left
