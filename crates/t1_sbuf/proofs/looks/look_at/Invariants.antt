-- The look from here on, over what the older entries answer, is the look at all.
use Rattle.std.proofs.Common.{◌≡◌, ◌≤◌, drop, length}
use Rattle.t1_sbuf.specs.Looks.{look_from, look_of}
use Rattle.t1_sbuf.proofs.looks.look_at.Given as goal

abbrev pub invariant-loop-entry : goal.invariant-loop-entry
invariant-loop-entry l = record {
  place : l.place ≡ l.entry-index;
  few : length l.entries ≤ 8;
  found : look_from l.found l.place (drop l.entry-index l.entries) l.addr l.size ≡ look_of l.entries l.addr l.size;
}
