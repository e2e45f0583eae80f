use Rattle.std.proofs.Common.{ℕ, ◌<◌, ◌≤◌, ◌^◌, [], get_or, length}
use Rattle.t1_event.specs.Items.{items_of}
use Rattle.t1_check.specs.Checked.{AreInWord}
use Rattle.t1_log_tests.proofs.checked.can_be_checked.Given as goal

abbrev pub invariant-loop-strand : goal.invariant-loop-strand
invariant-loop-strand l =
    (s : ℕ) → s < l.strand → AreInWord (get_or (items_of l.report.traces) s []) × (length (get_or (items_of l.report.traces) s []) ≤ 2 ^ 32)
