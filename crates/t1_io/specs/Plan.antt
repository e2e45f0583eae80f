-- Which calls of a source or a sink in memory fail.
use Rattle.std.specs.Prelude.{◌+◌, ◌-◌, ◌^◌, min, ℕ, List}
use Rattle.t1_io.specs.Causes.{risen}

-- the numbers of the calls that fail, the calls so far, and the faults so far
pub record Planned : Type 0 where
  pub fails : List ℕ
  pub calls : ℕ
  pub faults : ℕ

-- a plan before the first call
abbrev pub fresh_plan : List ℕ → Planned
fresh_plan fails = record { fails = fails; calls = 0; faults = 0 }

-- the number of the next call, counted from 1: it stays at the last value of 64 bits
abbrev pub next_call : ℕ → ℕ
next_call calls = min (calls + 1) (2 ^ 64 - 1)

-- the plan after a call that did not fail
abbrev pub plan_after_ok : Planned → Planned
plan_after_ok plan = record { fails = plan.fails; calls = next_call plan.calls; faults = plan.faults }

-- the plan after a call that failed
abbrev pub plan_after_failed : Planned → Planned
plan_after_failed plan = record { fails = plan.fails; calls = next_call plan.calls; faults = risen plan.faults }
