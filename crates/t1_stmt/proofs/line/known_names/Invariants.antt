use Rattle.std.proofs.Common.{◌≡◌, length}
use Rattle.t1_lex.specs.Lexemes.{lexemes}
use Rattle.t1_stmt.specs.Lines.{all_known}
use Rattle.t1_stmt.proofs.line.known_names.Given as goal

abbrev pub invariant-loop-first : goal.invariant-loop-first
invariant-loop-first l = all_known (lexemes l.text l.rest) ≡ all_known (lexemes l.text l.tokens)

abbrev pub decreases-loop-first : goal.decreases-loop-first
decreases-loop-first l = length l.rest
