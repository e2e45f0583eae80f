-- Each strand before this one is over.
use Rattle.std.proofs.Common.{◌≡◌, drop}
use Rattle.t1_core.specs.Ends.{all_over}
use Rattle.t1_core.proofs.sparc_core.Core.finished.Given as goal

abbrev pub invariant-loop-thread : goal.invariant-loop-thread
invariant-loop-thread l = all_over l.thread-items ≡ all_over (drop l.thread-index l.thread-items)
