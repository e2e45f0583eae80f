use Rattle.std.proofs.Common.{◌≡◌, ℕ, ◌<◌, Some}
use Rattle.std.specs.List.{slice_get}
use Rattle.t1_event.specs.declared.commit.Commit.{Commit}
use Rattle.t1_event.specs.Items.{items_of}
use Rattle.t1_machine_tests.specs.Checked.{IsCommitIn}
use Rattle.t1_machine_tests.proofs.checked.are_commits.Given as goal

abbrev pub invariant-loop-index : goal.invariant-loop-index
invariant-loop-index l = (n : ℕ) (commit : Commit) → n < l.index → slice_get l.log n ≡ Some commit → IsCommitIn (items_of l.traces) n commit
