use Rattle.std.proofs.Common.{◌≡◌, length}
use Rattle.t1_lex.specs.Lexemes.{lexemes}
use Rattle.t1_expr.specs.Symbols.{env_of}
use Rattle.t1_operand.specs.Slots.{slots_at, none_given}
use Rattle.t1_operand.proofs.slots.slots.Given as goal

abbrev pub invariant-loop-first : goal.invariant-loop-first
invariant-loop-first l = slots_at (env_of l.symbols) l.here l.left l.fields (lexemes l.text l.rest) ≡ slots_at (env_of l.symbols) l.here l.wanted none_given (lexemes l.text l.tokens)

abbrev pub decreases-loop-first : goal.decreases-loop-first
decreases-loop-first l = length l.left
