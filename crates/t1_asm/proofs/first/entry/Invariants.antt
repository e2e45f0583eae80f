use Rattle.std.proofs.Common.{◌≡◌, length}
use Rattle.t1_lex.specs.Lexemes.{lexemes}
use Rattle.t1_stmt.specs.Lines.{labels_of}
use Rattle.t1_asm.specs.Passes.{entry_after}
use Rattle.t1_asm.proofs.first.entry.Given as goal

abbrev pub invariant-loop-first : goal.invariant-loop-first
invariant-loop-first l = entry_after l.found l.here (labels_of (lexemes l.text l.rest)).0 ≡ entry_after l.fn.old l.here (labels_of (lexemes l.text l.tokens)).0

abbrev pub decreases-loop-first : goal.decreases-loop-first
decreases-loop-first l = length l.rest
