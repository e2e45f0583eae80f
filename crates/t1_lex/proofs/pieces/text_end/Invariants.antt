use Rattle.std.proofs.Common.{◌≡◌, ◌+◌, false, drop}
use Rattle.t1_lex.specs.Pieces.{text_from}
use Rattle.t1_lex.proofs.pieces.text_end.Given as goal

abbrev pub invariant-loop-b : goal.invariant-loop-b
invariant-loop-b l = record {
  count : l.n ≡ l.b-index + 1;
  rest : text_from l.n l.escaped (drop l.b-index l.bytes) ≡ text_from 1 false l.bytes;
}
