-- What every step of a machine keeps, for the bound.
use Rattle.std.specs.Prelude.{ℕ, ◌<◌, ◌≤◌, All}
use Rattle.t1_core.specs.declared.phase.Phase.{Phase}
use Rattle.t1_core.specs.declared.phase.Phase.TheVariants as phase
use Rattle.t1_core.specs.Threads.{ThreadState}
use Rattle.t1_core.specs.Steps.{CoreState}
use Rattle.t1_machine.specs.Machine.{MachineState}
use Rattle.t1_bound.specs.Weights.{machine_weight, commits}

abbrev pub IsLiveAt : ℕ → ℕ → Phase → Type 0
IsLiveAt units budget phase.Fetch = units < budget
IsLiveAt units budget (phase.Have word) = units < budget
IsLiveAt units budget (phase.OutFetch way seen) = units < budget
IsLiveAt units budget (phase.OutData word way seen) = units < budget
IsLiveAt units budget (phase.Ended e) = Unit {0}

-- a strand that has not ended has units left
abbrev pub IsLive : ThreadState → Type 0
IsLive t = IsLiveAt t.strand.units t.budget t.phase

abbrev pub IsLiveCore : CoreState → Type 0
IsLiveCore c = All IsLive c.threads

-- the log, with the commits that may still come, has its room
pub record IsSound (m : MachineState) : Type 0 where
  pub live : All IsLiveCore m.cores
  pub few : m.xbar.cores ≤ 8
  pub room : machine_weight commits m ≤ m.xbar.room
  pub small : m.xbar.room ≤ 2000000
