-- Joint histories are orderable.
use Rattle.std.specs.Prelude.{◌≤◌, List, length}
use Rattle.t1_event.specs.declared.commit.Commit.{Commit}
use Rattle.t1_event.specs.declared.trace.Trace.{Trace}
use Rattle.t1_event.specs.Items.{items_of}
use Rattle.t1_joint.specs.Start.{Setup}
use Rattle.t1_joint.specs.JointHistory.{IsJointHistory}
use Rattle.t1_order.specs.Orderable.{AreShort, AreOrderable}

abbrev pub JointHistoriesAreOrderable : Type 0
JointHistoriesAreOrderable =
    (w : Setup) (traces : List Trace) (log : List Commit) → IsJointHistory w traces log → length (items_of traces) ≤ 64 → AreShort (items_of traces)
    → AreOrderable (items_of traces) log
