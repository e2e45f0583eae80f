-- How many bytes the slots of a text take at most.
use Rattle.std.specs.Prelude.{ℕ, ◌+◌, ◌<◌, List, [], ◌∷◌}
use Rattle.t1_form.specs.declared.slot.Slot.{Slot}
use Rattle.t1_form.specs.declared.slot.Slot.TheVariants as slot
use Rattle.t1_operand.specs.declared.fields.Source.{Source}
use Rattle.t1_operand.specs.declared.fields.Source.TheVariants.{Register, Value}
use Rattle.t1_operand.specs.declared.fields.Fields.{Fields}

abbrev pub slot_room : Slot → ℕ
slot_room (slot.Mark b) = 2
slot_room slot.Rd = 3
slot_room slot.Rs1 = 3
slot_room slot.Rs2 = 21
slot_room slot.Operand = 21
slot_room slot.Number = 20
slot_room slot.Target = 18
slot_room slot.AsiNumber = 21
slot_room slot.Extra = 20
slot_room slot.Address = 24
slot_room slot.Within = 24
slot_room slot.Pair = 24
slot_room slot.Offset = 24
slot_room slot.Codes = 4
slot_room slot.Asi = 5
slot_room slot.State = 14
slot_room slot.Privileged = 12
slot_room _ = 0

unfoldable pub room_of : List Slot → ℕ
room_of [] = 0
room_of (s ∷ ss) = slot_room s + room_of ss

abbrev pub IsShownSource : Source → Type 0
IsShownSource (Register r) = r < 32
IsShownSource (Value v) = Unit {0}

-- each register is one
pub record AreRegisters (f : Fields) : Type 0 where
  pub rd : f.rd < 32
  pub rs1 : f.rs1 < 32
  pub source : IsShownSource f.source

-- a mark is a byte of ASCII
abbrev pub IsAscii : Slot → Type 0
IsAscii (slot.Mark b) = b < 128
IsAscii _ = Unit {0}

abbrev pub AreAscii : List Slot → Type 0
AreAscii [] = Unit {0}
AreAscii (s ∷ ss) = IsAscii s × AreAscii ss
