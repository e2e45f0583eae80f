use Rattle.std.proofs.Common.{◌≡◌, ◌<◌, vec_len}
use Rattle.t1_ring.specs.Row.{received_by, rx_marks}
use Rattle.t1_ring.proofs.row.pop_any.Given as goal

abbrev pub invariant-loop : goal.invariant-loop
invariant-loop g l = record {
  marks : rx_marks l.ends.items ≡ rx_marks l.initial.ends.items;
  len : vec_len l.ends ≡ vec_len l.initial.ends;
  got : received_by l.ends.items ≡ received_by l.initial.ends.items;
  at : 0 < l.count → l.at < l.count;
}
