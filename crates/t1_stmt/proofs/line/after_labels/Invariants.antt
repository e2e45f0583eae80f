use Rattle.std.proofs.Common.{◌≡◌, length}
use Rattle.t1_lex.specs.Lexemes.{lexemes}
use Rattle.t1_stmt.specs.Lines.{labels_of}
use Rattle.t1_stmt.proofs.line.after_labels.Given as goal

abbrev pub invariant-loop-first : goal.invariant-loop-first
invariant-loop-first l = (labels_of (lexemes l.text l.rest)).1 ≡ (labels_of (lexemes l.text l.tokens)).1

abbrev pub decreases-loop-first : goal.decreases-loop-first
decreases-loop-first l = length l.rest
