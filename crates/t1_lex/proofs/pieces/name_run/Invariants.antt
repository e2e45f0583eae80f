use Rattle.std.proofs.Common.{◌≡◌, ◌+◌, drop}
use Rattle.t1_lex.specs.Bytes.{is_name_byte}
use Rattle.t1_lex.specs.Pieces.{run_of}
use Rattle.t1_lex.proofs.pieces.name_run.Given as goal

abbrev pub invariant-loop-b : goal.invariant-loop-b
invariant-loop-b l = record {
  count : l.n ≡ l.b-index;
  run : l.n + run_of is_name_byte (drop l.b-index l.bytes) ≡ run_of is_name_byte l.bytes;
}
