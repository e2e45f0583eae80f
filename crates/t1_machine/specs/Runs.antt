-- Lists of slots, and the list that a schedule does.
use Rattle.std.specs.Prelude.{ℕ, zero, suc, ◌≡◌, ◌+◌, ◌%◌, ◌==◌, Bool, if◌then◌else◌, List, [], ◌∷◌, Option, Some, None}
use Rattle.rand_xoshiro.specs.SplitMix64.{mix_u64}
use Rattle.t1_shape.specs.Shapes.{Shape}
use Rattle.t1_machine.specs.declared.schedule.Schedule.{Schedule}
use Rattle.t1_machine.specs.declared.schedule.Schedule.TheVariants as schedule
use Rattle.t1_machine.specs.Slots.{slots, slot_at}
use Rattle.t1_machine.specs.Machine.{MachineState, after_slot, is_enabled}

-- the machine after slots, which are told by their numbers
unfoldable pub machine_after : MachineState → List ℕ → MachineState
machine_after m [] = m
machine_after m (n ∷ ns) = machine_after (after_slot m (slot_at m.chip n)) ns

-- ---- the first enabled slot

abbrev pub next_number : Shape → ℕ → ℕ
next_number chip n = if n + 1 == slots chip then 0 else n + 1

-- the first enabled of so many slots, cyclically from a number on
unfoldable pub enabled_from : MachineState → ℕ → ℕ → Option ℕ
enabled_from m n zero = None
enabled_from m n (suc more) = if is_enabled m (slot_at m.chip n) then Some n else enabled_from m (next_number m.chip n) more

-- ---- schedules

-- where a schedule stands: the number that it tries first, or the state of its generator
pub data Standing : Type 0 where
  Turns : ℕ → Standing
  Seed : ℕ → Standing

abbrev pub begun_as : Schedule → Standing
begun_as schedule.Turns = Turns 0
begun_as (schedule.Seed seed) = Seed seed

-- the number that it tries first: a word of the generator, modulo the number of slots
abbrev pub tries : Shape → Standing → ℕ
tries chip (Turns n) = n
tries chip (Seed state) = (mix_u64 state).0 % slots chip

-- where it stands after it did a slot: one past it, or one word on
abbrev pub standing_after : Shape → Standing → ℕ → Standing
standing_after chip (Turns n) done = Turns (next_number chip done)
standing_after chip (Seed state) done = Seed (mix_u64 state).1

abbrev pub next_of : MachineState → Standing → Option ℕ
next_of m standing = enabled_from m (tries m.chip standing) (slots m.chip)

-- the slots that a schedule does until none is enabled, and the machine after them
pub data IsRun : MachineState → Standing → List ℕ → MachineState → Type 0 where
  Ends : (m : MachineState) (standing : Standing) → next_of m standing ≡ None → IsRun m standing [] m
  Goes : (m : MachineState) (standing : Standing) (n : ℕ) (ns : List ℕ) (last : MachineState) → next_of m standing ≡ Some n
      → IsRun (after_slot m (slot_at m.chip n)) (standing_after m.chip standing n) ns last → IsRun m standing (n ∷ ns) last

-- the machine where a schedule ends, from this one on
pub record RunsTo (m : MachineState) (as_of : Schedule) (last : MachineState) : Type 0 where
  pub numbers : List ℕ
  pub run : IsRun m (begun_as as_of) numbers last
