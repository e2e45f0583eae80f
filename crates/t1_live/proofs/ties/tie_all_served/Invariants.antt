use Rattle.std.proofs.Common.{◌≡◌, vec_len}
use Rattle.t1_live.specs.Tying.{ServedTied}
use Rattle.t1_live.proofs.ties.tie_all_served.Given as goal

abbrev pub invariant-loop-d : goal.invariant-loop-d
invariant-loop-d l = record {
  dests : l.dests.items ≡ l.initial.dests.items;
  len : vec_len l.dests ≡ vec_len l.initial.dests;
  crossbar : l.crossbar ≡ l.initial.crossbar;
  tied : ServedTied l.initial.dests.items l.initial.crossbar l.d;
}
