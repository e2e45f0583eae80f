use Rattle.std.proofs.Common.{◌≡◌, ◌≤◌, ◌+◌, ◌-◌, length, drop}
use Rattle.t1_lex.specs.Tokens.{after, placed, cut_from, tokens_of}
use Rattle.t1_lex.proofs.lexer.lex_into.Given as goal

abbrev pub invariant-loop-at : goal.invariant-loop-at
invariant-loop-at l = record {
  read : after l.tokens.items (placed l.at l.line (cut_from 0 (drop l.at l.text))) ≡ tokens_of l.text;
  line : l.line ≤ l.at + 1;
  within : l.at ≤ length l.text;
}

abbrev pub decreases-loop-at : goal.decreases-loop-at
decreases-loop-at l = length l.text - l.at
