-- Lists of slots from a start, and the steps among them; runs by a schedule that stands anywhere.
use Rattle.std.specs.Prelude.{ℕ, ◌+◌, if◌then◌else◌, List, [], ◌∷◌}
use Rattle.t1_joint.specs.Start.{Setup}
use Rattle.t1_machine.specs.Slots.{slot_at}
use Rattle.t1_machine.specs.Machine.{MachineState, is_enabled, after_slot}
use Rattle.t1_machine.specs.Runs.{machine_after, Standing, IsRun}
use Rattle.t1_machine.specs.Start.{machine_start}

-- a machine of this setup after a list of slots
abbrev pub machine_at : Setup → List ℕ → MachineState
machine_at w numbers = machine_after (machine_start w) numbers

-- how many slots of a list are steps: enabled when they are done
unfoldable pub steps_done : MachineState → List ℕ → ℕ
steps_done m [] = 0
steps_done m (n ∷ ns) = (if is_enabled m (slot_at m.chip n) then 1 else 0) + steps_done (after_slot m (slot_at m.chip n)) ns

-- the machine where a schedule that stands here ends, from this one on
pub record RunsFrom (m : MachineState) (standing : Standing) (last : MachineState) : Type 0 where
  pub numbers : List ℕ
  pub run : IsRun m standing numbers last
