use Rattle.std.proofs.Common.{◌≡◌, ◌+◌, ◌*◌, ◌≤◌, drop}
use Rattle.t1_log.specs.Brief.{kills_in}
use Rattle.t1_log.proofs.brief.kills_in.Given as goal

abbrev pub invariant-loop-commit : goal.invariant-loop-commit
invariant-loop-commit l = record {
  sum : l.kills + kills_in (drop l.commit-index l.log) ≡ kills_in l.log;
  few : l.kills ≤ l.commit-index * 64;
}
