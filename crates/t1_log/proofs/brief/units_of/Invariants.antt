use Rattle.std.proofs.Common.{◌≡◌, ◌+◌, ◌*◌, ◌^◌, ◌≤◌, drop}
use Rattle.t1_log.specs.Brief.{units_of}
use Rattle.t1_log.proofs.brief.units_of.Given as goal

abbrev pub invariant-loop-trace : goal.invariant-loop-trace
invariant-loop-trace l = record {
  sum : l.units + units_of (drop l.trace-index l.traces) ≡ units_of l.traces;
  few : l.units ≤ l.trace-index * 2 ^ 32;
}
