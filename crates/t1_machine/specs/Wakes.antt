-- Which slots a step may enable.
use Rattle.std.specs.Prelude.{ℕ, ◌≡◌, ◌<◌, Bool, true, false, Option, Some, None}
use Rattle.std.specs.Int.{bit_at}
use Rattle.t1_core.specs.declared.answers.Did.{Did}
use Rattle.t1_core.specs.declared.answers.Did.TheVariants as did
use Rattle.t1_machine.specs.declared.slot.Slot.{Slot}
use Rattle.t1_machine.specs.declared.slot.Slot.TheVariants as slot
use Rattle.t1_machine.specs.declared.woken.Woken.{Woken}
use Rattle.t1_machine.specs.declared.woken.Woken.TheVariants as woken
use Rattle.t1_machine.specs.Slots.{most_cores, IsSlot}
use Rattle.t1_machine.specs.Machine.{MachineState, most_dests, is_enabled}

-- Exec or a Drain of this core
abbrev pub IsOwn : ℕ → Slot → Type 0
IsOwn core (slot.Exec c) = c ≡ core
IsOwn core (slot.Drain c strand) = c ≡ core
IsOwn core (slot.Take c) = ⊥
IsOwn core (slot.Serve dest) = ⊥
IsOwn core (slot.Admit dest) = ⊥

abbrev pub IsServe : ℕ → Slot → Type 0
IsServe dest (slot.Exec c) = ⊥
IsServe dest (slot.Drain c strand) = ⊥
IsServe dest (slot.Take c) = ⊥
IsServe dest (slot.Serve d) = d ≡ dest
IsServe dest (slot.Admit d) = ⊥

abbrev pub IsAdmitOf : ℕ → Slot → Type 0
IsAdmitOf dest (slot.Exec c) = ⊥
IsAdmitOf dest (slot.Drain c strand) = ⊥
IsAdmitOf dest (slot.Take c) = ⊥
IsAdmitOf dest (slot.Serve d) = ⊥
IsAdmitOf dest (slot.Admit d) = d ≡ dest

abbrev pub IsAdmit : Slot → Type 0
IsAdmit (slot.Exec c) = ⊥
IsAdmit (slot.Drain c strand) = ⊥
IsAdmit (slot.Take c) = ⊥
IsAdmit (slot.Serve d) = ⊥
IsAdmit (slot.Admit d) = Unit {0}

-- Take of a core that has its bit
abbrev pub IsTakeIn : ℕ → Slot → Type 0
IsTakeIn cores (slot.Exec c) = ⊥
IsTakeIn cores (slot.Drain c strand) = ⊥
IsTakeIn cores (slot.Take c) = bit_at cores c ≡ 1
IsTakeIn cores (slot.Serve d) = ⊥
IsTakeIn cores (slot.Admit d) = ⊥

-- a slot is none of the woken
abbrev pub IsAsleep : Woken → Slot → Type 0
IsAsleep woken.Nothing s = Unit {0}
IsAsleep (woken.Core core) s = IsOwn core s → ⊥
IsAsleep (woken.Sent core dest) s = (IsOwn core s → ⊥) × (IsServe dest s → ⊥)
IsAsleep (woken.Took core) s = (IsOwn core s → ⊥) × (IsAdmit s → ⊥)
IsAsleep (woken.Served core dest) s = (IsOwn core s → ⊥) × (IsAdmitOf dest s → ⊥)
IsAsleep (woken.Admitted dest cores) s = (IsServe dest s → ⊥) × (IsAdmit s → ⊥) × (IsTakeIn cores s → ⊥)

-- a slot that is none of the woken, and was not enabled, is not enabled
abbrev pub WakesOnly : MachineState → MachineState → Woken → Type 0
WakesOnly before after w = (s : Slot) → IsSlot before.chip s → IsAsleep w s → is_enabled before s ≡ false → is_enabled after s ≡ false

-- its core and its destination are those of the chip
abbrev pub IsWithin : Woken → Type 0
IsWithin woken.Nothing = Unit {0}
IsWithin (woken.Core core) = core < most_cores
IsWithin (woken.Sent core dest) = (core < most_cores) × (dest < most_dests)
IsWithin (woken.Took core) = core < most_cores
IsWithin (woken.Served core dest) = (core < most_cores) × (dest < most_dests)
IsWithin (woken.Admitted dest cores) = dest < most_dests

-- what a step wakes
pub record Wakes (before after : MachineState) (w : Woken) : Type 0 where
  pub within : IsWithin w
  pub only : WakesOnly before after w

-- what an exec wakes
abbrev pub woken_by : ℕ → Did → Woken
woken_by core did.Moved = woken.Core core
woken_by core (did.Waits wait) = woken.Core core
woken_by core (did.Sent dest request) = woken.Sent core dest
