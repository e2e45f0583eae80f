-- The operands of each form.
use Rattle.std.specs.Prelude.{List, [], ◌∷◌}
use Rattle.t1_form.specs.declared.slot.Slot.{Slot}
use Rattle.t1_form.specs.declared.slot.Slot.TheVariants.{Mark, Rd, Rs1, Both, Rs2, Rs2Rd, Operand, Number, Target, AsiNumber, Extra, Address, Within, Pair, Offset, Codes, Annul, Predict, Asi, State, Privileged, Barrier, One, Primary}
use Rattle.t1_form.specs.declared.slot.Shape.{Shape}
use Rattle.t1_form.specs.declared.slot.Shape.TheVariants as shape

abbrev pub comma : Slot
comma = Mark 44

abbrev pub left : Slot
left = Mark 91

abbrev pub right : Slot
right = Mark 93

-- the operands of each form
unfoldable pub slots_of : Shape → List Slot
slots_of shape.Nothing = []
slots_of shape.Three = Rs1 ∷ comma ∷ Operand ∷ comma ∷ Rd ∷ []
slots_of shape.OperandRd = Operand ∷ comma ∷ Rd ∷ []
slots_of shape.Compare = Rs1 ∷ comma ∷ Operand ∷ []
slots_of shape.Test = Rs2 ∷ []
slots_of shape.OnlyRd = Rd ∷ []
slots_of shape.Step = Both ∷ One ∷ []
slots_of shape.Turn = Both ∷ []
slots_of shape.Negate = Rs2Rd ∷ []
slots_of shape.NumberRd = Number ∷ comma ∷ Rd ∷ []
slots_of shape.Target = Target ∷ []
slots_of shape.BranchIcc = Annul ∷ Target ∷ []
slots_of shape.BranchCodes = Annul ∷ Predict ∷ Codes ∷ comma ∷ Target ∷ []
slots_of shape.BranchRegister = Annul ∷ Predict ∷ Rs1 ∷ comma ∷ Target ∷ []
slots_of shape.JumpRd = Address ∷ comma ∷ Rd ∷ []
slots_of shape.Jump = Address ∷ []
slots_of shape.TrapIcc = Operand ∷ []
slots_of shape.TrapCodes = Codes ∷ comma ∷ Address ∷ []
slots_of shape.MoveCodes = Codes ∷ comma ∷ Operand ∷ comma ∷ Rd ∷ []
slots_of shape.Load = left ∷ Within ∷ right ∷ comma ∷ Rd ∷ []
slots_of shape.LoadNamed = left ∷ Pair ∷ right ∷ AsiNumber ∷ comma ∷ Rd ∷ []
slots_of shape.LoadAsi = left ∷ Offset ∷ right ∷ Asi ∷ comma ∷ Rd ∷ []
slots_of shape.Store = Rd ∷ comma ∷ left ∷ Within ∷ right ∷ []
slots_of shape.StoreNamed = Rd ∷ comma ∷ left ∷ Pair ∷ right ∷ AsiNumber ∷ []
slots_of shape.StoreAsi = Rd ∷ comma ∷ left ∷ Offset ∷ right ∷ Asi ∷ []
slots_of shape.Fetch = left ∷ Within ∷ right ∷ comma ∷ Extra ∷ []
slots_of shape.FetchNamed = left ∷ Pair ∷ right ∷ AsiNumber ∷ comma ∷ Extra ∷ []
slots_of shape.FetchAsi = left ∷ Offset ∷ right ∷ Asi ∷ comma ∷ Extra ∷ []
slots_of shape.Compared = left ∷ Rs1 ∷ right ∷ comma ∷ Rs2 ∷ comma ∷ Rd ∷ Primary ∷ []
slots_of shape.ComparedNamed = left ∷ Rs1 ∷ right ∷ AsiNumber ∷ comma ∷ Rs2 ∷ comma ∷ Rd ∷ []
slots_of shape.ComparedAsi = left ∷ Rs1 ∷ right ∷ Asi ∷ comma ∷ Rs2 ∷ comma ∷ Rd ∷ []
slots_of shape.ReadState = State ∷ comma ∷ Rd ∷ []
slots_of shape.WriteState = Rs1 ∷ comma ∷ Operand ∷ comma ∷ State ∷ []
slots_of shape.ReadPrivileged = Privileged ∷ comma ∷ Rd ∷ []
slots_of shape.WritePrivileged = Rs1 ∷ comma ∷ Operand ∷ comma ∷ Privileged ∷ []
slots_of shape.Barrier = Barrier ∷ []
slots_of shape.BarrierNumber = Number ∷ []
slots_of shape.Number = Number ∷ []
