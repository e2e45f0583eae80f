use Rattle.std.proofs.Common.{◌≡◌, vec_len}
use Rattle.t1_live.specs.Tying.{PacketsTied}
use Rattle.t1_live.proofs.ties.tie_all_packets.Given as goal

abbrev pub invariant-loop-c : goal.invariant-loop-c
invariant-loop-c l = record {
  cores : l.cores.items ≡ l.initial.cores.items;
  len : vec_len l.cores ≡ vec_len l.initial.cores;
  crossbar : l.crossbar ≡ l.initial.crossbar;
  tied : PacketsTied l.initial.cores.items l.initial.crossbar l.c;
}
