-- None of the strands before this one holds a store.
use Rattle.std.proofs.Common.{◌≡◌, drop}
use Rattle.t1_core.specs.Quick.{are_stores_held}
use Rattle.t1_core.proofs.sparc_core.Core.holds_stores.Given as goal

abbrev pub invariant-loop-thread : goal.invariant-loop-thread
invariant-loop-thread l = are_stores_held l.thread-items ≡ are_stores_held (drop l.thread-index l.thread-items)
