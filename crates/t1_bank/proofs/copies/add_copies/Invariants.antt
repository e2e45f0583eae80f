use Rattle.std.proofs.Common.{◌≡◌, ◌+◌, ◌≤◌, ◌++◌, drop, length}
use Rattle.t1_bank.specs.Copies.{copies_of}
use Rattle.t1_bank.proofs.copies.add_copies.Given as goal

abbrev pub invariant-loop-addr : goal.invariant-loop-addr
invariant-loop-addr l = record {
  value : l.kills ++ copies_of l.directory l.core l.cache (drop l.addr-index l.addrs) ≡ l.initial.kills ++ copies_of l.directory l.core l.cache l.addrs;
  len : length l.kills ≤ length l.initial.kills + l.addr-index;
}
