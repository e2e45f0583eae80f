use Rattle.std.proofs.Common.{◌≡◌, length, true}
use Rattle.t1_lex.specs.Lexemes.{lexemes}
use Rattle.t1_operand.specs.Slots.{barriers_from}
use Rattle.t1_operand.proofs.slots.barriers.Given as goal

abbrev pub invariant-loop-first : goal.invariant-loop-first
invariant-loop-first l = barriers_from l.mask l.wanted (lexemes l.text l.rest) ≡ barriers_from 0 true (lexemes l.text l.tokens)

abbrev pub decreases-loop-first : goal.decreases-loop-first
decreases-loop-first l = length l.rest
