use Rattle.std.proofs.Common.{◌≡◌, vec_len}
use Rattle.t1_live.specs.Tying.{RowsTied}
use Rattle.t1_live.proofs.ties.tie_rows.Given as goal

abbrev pub invariant-loop-c : goal.invariant-loop-c
invariant-loop-c l = record {
  cores : l.cores.items ≡ l.initial.cores.items;
  cores_len : vec_len l.cores ≡ vec_len l.initial.cores;
  dests : l.dests.items ≡ l.initial.dests.items;
  dests_len : vec_len l.dests ≡ vec_len l.initial.dests;
  tied : RowsTied l.initial.cores.items l.initial.dests.items l.c;
}
