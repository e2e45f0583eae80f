-- Why a strand of the machine would wait.
use Rattle.std.specs.Prelude.{ℕ, Option, Some, None}
use Rattle.std.specs.List.{slice_get}
use Rattle.t1_core.specs.declared.answers.Wait.{Wait}
use Rattle.t1_core.specs.declared.answers.Wait.TheVariants.{Ended}
use Rattle.t1_core.specs.Steps.{CoreState, wait_of}
use Rattle.t1_machine.specs.Machine.{MachineState, request_rooms}

abbrev pub wait_in : MachineState → ℕ → ℕ → Option CoreState → Option Wait
wait_in m c s None = Some Ended
wait_in m c s (Some core) = wait_of core s (request_rooms m.requests c)

-- a strand of a core, with the room of the core's request rings
abbrev pub wait_at : MachineState → ℕ → ℕ → Option Wait
wait_at m c s = wait_in m c s (slice_get m.cores c)
