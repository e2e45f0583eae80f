use Rattle.std.proofs.Common.{◌≡◌, ◌*◌, ◌≤◌, length}
use Rattle.t1_bank.specs.Copies.{copies_below}
use Rattle.t1_bank.proofs.copies.find_copies.Given as goal

abbrev pub invariant-loop-core : goal.invariant-loop-core
invariant-loop-core l = record {
  value : l.kills ≡ copies_below l.directory l.own l.evicted l.op l.core;
  len : length l.kills ≤ 6 * l.core;
}
