use Rattle.std.proofs.Common.{◌≡◌, ◌+◌, ◌*◌, ◌≤◌, ◌++◌, length, drop}
use Rattle.t1_log.specs.Log.{kill_fields_of}
use Rattle.t1_log.proofs.commits.put_kills.Given as goal

abbrev pub invariant-loop-kill : goal.invariant-loop-kill
invariant-loop-kill l = record {
  all : l.line ++ kill_fields_of (drop l.kill-index l.kill-items) ≡ l.initial.line ++ kill_fields_of l.kills;
  room : length l.line ≤ length l.initial.line + 15 * l.kill-index;
  items : l.kill-items ≡ l.kills;
}
