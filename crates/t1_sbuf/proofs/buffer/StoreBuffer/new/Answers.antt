-- An empty buffer's cursor is at 0.
use Rattle.std.proofs.Common.{◌≡◌, List, sym, subst}
use Rattle.t1_sbuf.specs.declared.entry.Entry.{Entry}
use Rattle.t1_sbuf.specs.Entries.{AreEntries, next_place}
use Rattle.t1_sbuf.proofs.Sent.{no_entries}
use Rattle.t1_sbuf.proofs.buffer.StoreBuffer.new.Goals as goal

pub invariant_of-result : goal.invariant_of-result
invariant_of-result c = subst (λ (es : List Entry). AreEntries es × (0 ≡ next_place es)) (sym c.new.ensures) no_entries
