use Rattle.std.proofs.Common.{◌≡◌, length}
use Rattle.t1_lex.specs.Lexemes.{lexemes}
use Rattle.t1_expr.specs.Symbols.{env_of}
use Rattle.t1_stmt.specs.Lines.{labels_of}
use Rattle.t1_asm.specs.Passes.{labelled}
use Rattle.t1_asm.proofs.first.define_labels.Given as goal

abbrev pub invariant-loop-first : goal.invariant-loop-first
invariant-loop-first l = labelled (env_of l.map) l.here (labels_of (lexemes l.text l.rest)).0 ≡ labelled (env_of l.initial.map) l.here (labels_of (lexemes l.text l.tokens)).0

abbrev pub decreases-loop-first : goal.decreases-loop-first
decreases-loop-first l = length l.rest
