-- Laws of the serial machine.
use Rattle.std.specs.Prelude.{ℕ, List}
use Rattle.t1_event.specs.declared.report.Place.{Place}
use Rattle.t1_event.specs.Items.{items_of}
use Rattle.t1_event.specs.Keys.{IsOrderByKeys}
use Rattle.t1_joint.specs.Start.{Setup}
use Rattle.t1_machine.specs.Machine.{MachineState}
use Rattle.t1_machine.specs.Runs.{machine_after}
use Rattle.t1_machine.specs.Start.{IsRunnable, machine_start}
use Rattle.t1_machine_rule.specs.Kept.{Kept}
use Rattle.t1_machine_rule.specs.Parts.{traces_in}
use Rattle.t1_machine_rule.specs.Stands.{IsRunOf, Stands}
use Rattle.t1_machine_rule.specs.Ends.{NoneEnabled, IsOver, Ends, Reports}

-- every list of slots from a start keeps what each slot keeps
abbrev pub SlotsKeep : Type 0
SlotsKeep = (w : Setup) (numbers : List ℕ) → IsRunnable w → Kept w (machine_after (machine_start w) numbers)

-- so, over an image of bytes, the parts of each machine fit, its state is covered, and each request that is
-- unanswered stands in one ring
abbrev pub MachinesStand : Type 0
MachinesStand = (w : Setup) (m : MachineState) → IsRunOf w m → Stands w m

-- a machine has an enabled slot, or every strand has ended and every buffer and ring is empty
abbrev pub MachinesAreNeverStuck : Type 0
MachinesAreNeverStuck = (w : Setup) (m : MachineState) → IsRunOf w m → NoneEnabled m → IsOver w m

-- and where that is so, no slot is enabled
abbrev pub NoSlotIsLeft : Type 0
NoSlotIsLeft = (w : Setup) (m : MachineState) → IsRunOf w m → IsOver w m → NoneEnabled m

-- where no slot is enabled, the traces and the log are a joint history
abbrev pub MachinesEndInJointHistories : Type 0
MachinesEndInJointHistories = (w : Setup) (m : MachineState) → IsRunOf w m → NoneEnabled m → Ends w m

-- the order of its accesses by keys obeys total store order, and the report with it has a text
abbrev pub ReportsObeyTso : Type 0
ReportsObeyTso =
    (w : Setup) (m : MachineState) (order : List Place) → IsRunOf w m → NoneEnabled m → IsOrderByKeys (items_of (traces_in m.cores)) order
    → Reports w m order
