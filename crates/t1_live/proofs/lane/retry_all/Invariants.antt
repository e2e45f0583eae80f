use Rattle.std.proofs.Common.{◌≡◌, vec_len}
use Rattle.t1_ring.specs.Row.{sent_by, tx_marks}
use Rattle.t1_live.proofs.lane.retry_all.Given as goal

abbrev pub invariant-loop-at : goal.invariant-loop-at
invariant-loop-at g l = record {
  len : vec_len l.lanes ≡ vec_len l.initial.lanes;
  marks : tx_marks l.lanes.items ≡ tx_marks l.initial.lanes.items;
  sent : sent_by l.lanes.items ≡ sent_by l.initial.lanes.items;
}
