-- The traces so far are those of the strands so far.
use Rattle.std.proofs.Common.{◌≡◌, ◌≤◌, ◌+◌, length, map, vec_capacity}
use Rattle.t1_core.specs.Ends.{trace_of}
use Rattle.t1_core.proofs.sparc_core.Core.into_traces.Given as goal

abbrev pub invariant-loop-thread : goal.invariant-loop-thread
invariant-loop-thread l = record {
  made : l.traces.items ≡ map trace_of l.yielded;
  room : vec_capacity l.initial.traces ≤ vec_capacity l.traces;
}
