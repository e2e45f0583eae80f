-- Laws of parts that fit.
use Rattle.std.specs.Prelude.{ℕ, List}
use Rattle.t1_event.specs.declared.report.Place.{Place}
use Rattle.t1_event.specs.Items.{items_of}
use Rattle.t1_event.specs.Order.{IsListing, ObeysTso}
use Rattle.t1_event.specs.Keys.{IsOrderByKeys}
use Rattle.t1_joint.specs.Start.{Setup}
use Rattle.t1_joint.specs.Parts.{Parts}
use Rattle.t1_joint.specs.Proper.{AreProper}
use Rattle.t1_joint.specs.Fit.{Fit, AreOver, traces_of}
use Rattle.t1_joint.specs.JointHistory.{IsSetup, IsJointHistory}
use Rattle.t1_fit.specs.Example.{example_setup, example_parts, example_order}

-- the packets that each core received are proper, at any time
abbrev pub FittingPartsHaveProperPackets : Type 0
FittingPartsHaveProperPackets = (w : Setup) (p : Parts) → IsSetup w → Fit w p → (core : ℕ) → AreProper w.config.chip core (p.core core).sent (p.core core).received

-- with every strand ended and every buffer empty, the traces and the log are a joint history
abbrev pub FittingPartsAreAJointHistory : Type 0
FittingPartsAreAJointHistory = (w : Setup) (p : Parts) → IsSetup w → Fit w p → AreOver w p → IsJointHistory w (traces_of w p) p.crossbar.log

-- so the order of their accesses by keys obeys total store order
abbrev pub FittingPartsObeyTso : Type 0
FittingPartsObeyTso =
    (w : Setup) (p : Parts) (order : List Place) → IsSetup w → Fit w p → AreOver w p → IsOrderByKeys (items_of (traces_of w p)) order
    → IsListing (items_of (traces_of w p)) order × ObeysTso w.image.ram (items_of (traces_of w p)) order

-- parts that fit and are over exist, with an order: the example, which admitted one access
abbrev pub FittingPartsExist : Type 0
FittingPartsExist =
    IsSetup example_setup × Fit example_setup example_parts × AreOver example_setup example_parts
    × IsOrderByKeys (items_of (traces_of example_setup example_parts)) example_order
