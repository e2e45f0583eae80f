use Rattle.std.proofs.Common.{◌≡◌, ◌+◌, ◌≤◌, drop}
use Rattle.t1_log.specs.Brief.{evicted_in}
use Rattle.t1_log.proofs.brief.evicted_in.Given as goal

abbrev pub invariant-loop-commit : goal.invariant-loop-commit
invariant-loop-commit l = record {
  sum : l.evicted + evicted_in (drop l.commit-index l.log) ≡ evicted_in l.log;
  few : l.evicted ≤ l.commit-index;
}
