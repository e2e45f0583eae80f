-- Sets of slots, as words with a bit for each, and what a machine's set of slots tells.
use Rattle.std.specs.Prelude.{ℕ, ◌≡◌, ◌<◌, false}
use Rattle.std.specs.Int.{bit_at}
use Rattle.t1_shape.specs.Shapes.{Shape}
use Rattle.t1_machine.specs.declared.slot.Slot.{Slot}
use Rattle.t1_machine.specs.Slots.{slots, slot_at}
use Rattle.t1_machine.specs.Machine.{MachineState, is_enabled}

-- the slot of this number is not in the set, and not of this kind
pub record Outside (chip : Shape) (set n : ℕ) (kind : Slot → Type 0) : Type 0 where
  pub clear : bit_at set n ≡ 0
  pub other : kind (slot_at chip n) → ⊥

-- a slot that is not in the set is not enabled
abbrev pub AreClear : MachineState → ℕ → Type 0
AreClear m set = (n : ℕ) → n < slots m.chip → bit_at set n ≡ 0 → is_enabled m (slot_at m.chip n) ≡ false
