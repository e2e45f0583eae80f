use Rattle.std.proofs.Common.{◌≡◌, drop}
use Rattle.t1_lex.specs.Pieces.{value_from}
use Rattle.t1_lex.proofs.pieces.value.Given as goal

abbrev pub invariant-loop-d : goal.invariant-loop-d
invariant-loop-d l = value_from l.base l.n (drop l.d-index l.digits) ≡ value_from l.base 0 l.digits
