-- The slots of the serial machine by number: what each of them does.
use Rattle.std.specs.Prelude.{ℕ, ◌+◌, ◌-◌, ◌*◌, ◌/◌, ◌%◌, ◌<◌, nat_lt, if◌then◌else◌}
use Rattle.t1_shape.specs.Shapes.{Shape}
use Rattle.t1_shape.specs.Numbers.{most_strands, destinations}
use Rattle.t1_machine.specs.declared.slot.Slot.{Slot}
use Rattle.t1_machine.specs.declared.slot.Slot.TheVariants.{Exec, Drain, Take, Serve, Admit}

-- the most cores of a machine
abbrev pub most_cores : ℕ
most_cores = 8

-- slots are counted: Exec of each core, Drain of each strand of each core, Take of each core, Serve and
-- Admit of each destination
abbrev pub first_drain : ℕ
first_drain = most_cores

abbrev pub first_take : Shape → ℕ
first_take shape = first_drain + most_cores * most_strands shape

abbrev pub first_serve : Shape → ℕ
first_serve shape = first_take shape + most_cores

abbrev pub first_admit : Shape → ℕ
first_admit shape = first_serve shape + destinations shape

abbrev pub slots : Shape → ℕ
slots shape = first_admit shape + destinations shape

-- the slot of a number
abbrev pub slot_at : Shape → ℕ → Slot
slot_at shape n =
    if nat_lt n first_drain then Exec n
    else if nat_lt n (first_take shape) then Drain ((n - first_drain) / most_strands shape) ((n - first_drain) % most_strands shape)
    else if nat_lt n (first_serve shape) then Take (n - first_take shape)
    else if nat_lt n (first_admit shape) then Serve (n - first_serve shape)
    else Admit (n - first_admit shape)

-- a slot of the machine's numbers
abbrev pub IsSlot : Shape → Slot → Type 0
IsSlot shape (Exec core) = core < most_cores
IsSlot shape (Drain core strand) = (core < most_cores) × (strand < most_strands shape)
IsSlot shape (Take core) = core < most_cores
IsSlot shape (Serve dest) = dest < destinations shape
IsSlot shape (Admit dest) = dest < destinations shape
