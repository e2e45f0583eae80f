use Rattle.std.proofs.Common.{◌≡◌, vec_len}
use Rattle.t1_live.specs.Tying.{RowTied}
use Rattle.t1_live.proofs.ties.tie_row.Given as goal

abbrev pub invariant-loop-d : goal.invariant-loop-d
invariant-loop-d l = record {
  core : l.core ≡ l.initial.core;
  dests : l.dests.items ≡ l.initial.dests.items;
  len : vec_len l.dests ≡ vec_len l.initial.dests;
  tied : RowTied l.initial.core l.initial.dests.items l.place l.d;
}
