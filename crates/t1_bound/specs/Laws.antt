-- Laws of the steps of a machine, for every list of slots from a start.
use Rattle.std.specs.Prelude.{ℕ, ◌≡◌, ◌+◌, ◌*◌, ◌≤◌, List, length}
use Rattle.t1_event.specs.declared.report.Config.{Config}
use Rattle.t1_joint.specs.Start.{Setup}
use Rattle.t1_machine.specs.declared.schedule.Schedule.{Schedule}
use Rattle.t1_machine.specs.Machine.{MachineState, HasSpare}
use Rattle.t1_machine.specs.Runs.{begun_as, IsRun, RunsTo}
use Rattle.t1_machine.specs.Start.{IsRunnable, most_commits, machine_start}
use Rattle.t1_bound.specs.Weights.{steps, machine_weight, machine_tokens, units_done}
use Rattle.t1_bound.specs.Runs.{machine_at, steps_done}

abbrev pub strands_in : Config → ℕ
strands_in config = config.cores * config.strands

-- the steps of any list of slots are at most 24 for each unit that was done and each strand; and at most 24
-- for each unit that the budgets allow
pub record AreBounded (w : Setup) (numbers : List ℕ) : Type 0 where
  pub by_units : steps_done (machine_start w) numbers ≤ 24 * (units_done (machine_at w numbers) + strands_in w.config)
  pub by_budgets : steps_done (machine_start w) numbers ≤ 24 * (strands_in w.config * w.config.budget)

abbrev pub StepsAreBounded : Type 0
StepsAreBounded = (w : Setup) (numbers : List ℕ) → IsRunnable w → AreBounded w numbers

-- the account of it: the steps that were done, with the tokens of what is left to do in units that are under
-- way, are at most 24 for each unit that was done and each strand
abbrev pub StepsArePaid : Type 0
StepsArePaid =
    (w : Setup) (numbers : List ℕ) → IsRunnable w
    → steps_done (machine_start w) numbers + machine_tokens steps (machine_at w numbers) ≤ 24 * (units_done (machine_at w numbers) + strands_in w.config)

abbrev pub TheLogIsNoLongerThanTheSteps : Type 0
TheLogIsNoLongerThanTheSteps =
    (w : Setup) (numbers : List ℕ) → IsRunnable w → length (machine_at w numbers).xbar.log ≤ steps_done (machine_start w) numbers

-- the log's room is 2 commits for each unit that the budgets allow; the log is within it, and below it wherever
-- a destination served an access that is still to be admitted
pub record HasLogRoom (w : Setup) (m : MachineState) : Type 0 where
  pub room : m.xbar.room ≡ most_commits w.config
  pub fits : length m.xbar.log ≤ m.xbar.room
  pub spare : HasSpare m

abbrev pub TheLogHasRoom : Type 0
TheLogHasRoom = (w : Setup) (numbers : List ℕ) → IsRunnable w → HasLogRoom w (machine_at w numbers)

-- a run by a schedule, from a machine on: it has at most as many slots as that machine weighs, and at most 24
-- for each unit that was done at its end and each strand
pub record IsShort (w : Setup) (m : MachineState) (numbers : List ℕ) (last : MachineState) : Type 0 where
  pub by_weight : length numbers ≤ machine_weight steps m
  pub by_units : length numbers ≤ 24 * (units_done last + strands_in w.config)

-- a run by this schedule ends, and each such run is short
pub record EndsSoon (w : Setup) (m : MachineState) (as_of : Schedule) : Type 0 where
  pub last : MachineState
  pub ends : RunsTo m as_of last
  pub short : (numbers : List ℕ) (after : MachineState) → IsRun m (begun_as as_of) numbers after → IsShort w m numbers after

abbrev pub RunsEnd : Type 0
RunsEnd = (w : Setup) (numbers : List ℕ) (as_of : Schedule) → IsRunnable w → EndsSoon w (machine_at w numbers) as_of
