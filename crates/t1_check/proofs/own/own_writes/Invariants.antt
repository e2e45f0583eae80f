use Rattle.std.proofs.Common.{◌≡◌, length}
use Rattle.t1_event.specs.Items.{items_of}
use Rattle.t1_check.specs.Sources.{OwnBelow}
use Rattle.t1_check.proofs.own.own_writes.Given as goal

abbrev pub invariant-loop-strand : goal.invariant-loop-strand
invariant-loop-strand l = record {
  len : length l.own ≡ l.strand;
  all : OwnBelow (items_of l.traces) l.table l.own l.strand;
}
