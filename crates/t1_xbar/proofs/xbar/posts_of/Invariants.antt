use Rattle.std.proofs.Common.{◌≡◌, ◌≤◌, ◌-◌, ◌++◌, length}
use Rattle.t1_xbar.specs.Admission.{posts_from, full_from}
use Rattle.t1_xbar.proofs.xbar.posts_of.Given as goal

abbrev pub invariant-loop-core : goal.invariant-loop-core
invariant-loop-core l = record {
  few : length l.posts ≤ l.core;
  posts : l.posts ++ posts_from l.index l.served l.core (l.cores - l.core) ≡ posts_from l.index l.served 0 l.cores;
  full : full_from l.rooms l.index l.served l.core (l.cores - l.core) ≡ full_from l.rooms l.index l.served 0 l.cores;
}
