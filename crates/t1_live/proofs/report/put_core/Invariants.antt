use Rattle.std.proofs.Common.{◌≡◌, ◌≤◌, ◌++◌, vec_capacity}
use Rattle.t1_live.proofs.report.put_core.Given as goal

abbrev pub invariant-loop-trace : goal.invariant-loop-trace
invariant-loop-trace l = record {
  items : l.out.items ≡ l.initial.out.items ++ l.yielded;
  room : vec_capacity l.initial.out ≤ vec_capacity l.out;
}
