use Rattle.std.proofs.Common.{◌≡◌, ℕ}
use Rattle.t1_event.specs.Items.{items_of}
use Rattle.t1_check.specs.Latest.{at}
use Rattle.t1_check.specs.Sources.{seen_at}
use Rattle.t1_check.specs.Wrong.{AreRight}
use Rattle.t1_check.proofs.value.wrong_read.Given as goal

abbrev pub invariant-loop-line : goal.invariant-loop-line
invariant-loop-line l = record {
  latest : (addr : ℕ) → at l.latest addr ≡ seen_at (items_of l.traces) l.order l.line addr;
  right : AreRight l.image (items_of l.traces) l.order l.table l.line;
}
