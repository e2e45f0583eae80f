-- Laws of joint histories.
use Rattle.std.specs.Prelude.{List}
use Rattle.t1_event.specs.declared.commit.Commit.{Commit}
use Rattle.t1_event.specs.declared.report.Place.{Place}
use Rattle.t1_event.specs.declared.trace.Trace.{Trace}
use Rattle.t1_event.specs.Items.{items_of}
use Rattle.t1_event.specs.Order.{IsListing, ObeysTso}
use Rattle.t1_event.specs.Keys.{IsOrderByKeys}
use Rattle.t1_joint.specs.Start.{Setup}
use Rattle.t1_joint.specs.JointHistory.{IsJointHistory, run_of}
use Rattle.t1_joint.specs.Covered.{IsCovered, LinesHoldMemory}

-- the order by keys of a joint history is a memory order and obeys total store order
abbrev pub JointHistoriesObeyTso : Type 0
JointHistoriesObeyTso =
    (w : Setup) (traces : List Trace) (log : List Commit) (order : List Place) → IsJointHistory w traces log → IsOrderByKeys (items_of traces) order
    → IsListing (items_of traces) order × ObeysTso w.image.ram (items_of traces) order

-- its log is covered, and each valid line of a cache holds its bytes of memory at that time
abbrev pub JointHistoriesAreCovered : Type 0
JointHistoriesAreCovered =
    (w : Setup) (traces : List Trace) (log : List Commit) → IsJointHistory w traces log
    → IsCovered (run_of w traces log) × LinesHoldMemory (run_of w traces log)
