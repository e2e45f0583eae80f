use Rattle.std.proofs.Common.{◌≡◌, ◌≤◌, drop}
use Rattle.t1_form.specs.Names.{capped_from}
use Rattle.t1_form.proofs.names.digits.Given as goal

abbrev pub invariant-loop-d : goal.invariant-loop-d
invariant-loop-d l = record {
  read : capped_from l.n (drop l.d-index l.bytes) ≡ capped_from 0 l.bytes;
  small : l.n ≤ 255;
}
