use Rattle.std.proofs.Common.{◌≡◌, ◌≤◌, ◌+◌, ◌++◌, length, vec_capacity}
use Rattle.t1_machine_rule.specs.Parts.{traces_in}
use Rattle.t1_live.specs.Whole.{cores_of}
use Rattle.t1_live.proofs.report.put_traces.Given as goal

abbrev pub invariant-loop-core : goal.invariant-loop-core
invariant-loop-core l = record {
  items : l.out.items ++ traces_in (cores_of l.core-iterator.rest.items) ≡ l.initial.out.items ++ traces_in (cores_of l.fn.cores.items);
  room : length l.out.items + length (traces_in (cores_of l.core-iterator.rest.items)) ≤ vec_capacity l.out;
}
