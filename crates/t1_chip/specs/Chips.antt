-- The chip: a configuration with an image, and a machine that slots led to from their start.
use Rattle.t1_shape.specs.Shapes.{Shape}
use Rattle.std.specs.Prelude.{ℕ, ◌≡◌, ◌==◌, Bool, true, false, if◌then◌else◌, List, Option, Some, None}
use Rattle.t1_joint.specs.Start.{Setup}
use Rattle.t1_event.specs.declared.report.Report.{Report}
use Rattle.t1_event.specs.Items.{items_of}
use Rattle.t1_event.specs.Keys.{IsOrderByKeys}
use Rattle.t1_machine.specs.Slots.{slot_at, slots}
use Rattle.t1_machine.specs.Machine.{MachineState, after_slot}
use Rattle.t1_machine.specs.declared.schedule.Schedule.{Schedule}
use Rattle.t1_machine.specs.Runs.{Standing, IsRun, begun_as, machine_after}
use Rattle.t1_machine_rule.specs.Ends.{report_of}
use Rattle.t1_chip.specs.declared.chip.Step.{Step}
use Rattle.t1_chip.specs.declared.chip.Step.TheVariants as step

pub record ChipState : Type 0 where
  pub setup : Setup
  pub machine : MachineState

abbrev pub is_done : Step → Bool
is_done step.Done = true
is_done step.Idle = false

-- the machine after the slot that was found, if any
abbrev pub after_found : MachineState → Option ℕ → MachineState
after_found m None = m
after_found m (Some number) = after_slot m (slot_at m.chip number)

-- the number past the last is the first
abbrev pub wrapped : Shape → ℕ → ℕ
wrapped chip number = if number == slots chip then 0 else number

-- a chip whose machine did the slots that a schedule does from here until none is enabled
pub record MovesTo (before : ChipState) (standing : Standing) (after : ChipState) : Type 0 where
  pub setup : after.setup ≡ before.setup
  pub numbers : List ℕ
  pub run : IsRun before.machine standing numbers after.machine

abbrev pub RunsToEnd : ChipState → Schedule → ChipState → Type 0
RunsToEnd before by after = MovesTo before (begun_as by) after

-- a chip whose machine did a list of slots
pub record DidSlots (before after : ChipState) : Type 0 where
  pub setup : after.setup ≡ before.setup
  pub numbers : List ℕ
  pub machine : after.machine ≡ machine_after before.machine numbers

-- its report: the traces of its cores, its log, the memory order by keys, and the console bytes of its log
pub record Reported (chip : ChipState) (report : Report) : Type 0 where
  pub is : report ≡ report_of chip.setup chip.machine report.order
  pub order : IsOrderByKeys (items_of report.traces) report.order
