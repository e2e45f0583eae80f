use Rattle.std.proofs.Common.{◌≡◌, ◌+◌, ◌*◌, ◌^◌, ◌≤◌, drop}
use Rattle.t1_log.specs.Brief.{items_in}
use Rattle.t1_log.proofs.brief.items_in.Given as goal

abbrev pub invariant-loop-trace : goal.invariant-loop-trace
invariant-loop-trace l = record {
  sum : l.items + items_in (drop l.trace-index l.traces) ≡ items_in l.traces;
  few : l.items ≤ l.trace-index * 2 ^ 32;
}
