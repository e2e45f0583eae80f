-- The shape of each instruction's operands in its text, and what they say.
use Rattle.std.specs.Prelude.{ℕ, suc, ◌+◌, ◌-◌, ◌*◌, ◌%◌, ◌^◌, Bool, true, false, ℤ, pos, negsuc, Option, Some, None}
use Rattle.t1_insn.specs.declared.operand.Src.{Src}
use Rattle.t1_insn.specs.declared.operand.Src.TheVariants.{Reg, Imm}
use Rattle.t1_insn.specs.declared.operand.Mem.{Mem}
use Rattle.t1_insn.specs.declared.operand.Mem.TheVariants.{Plain, Alt, AltReg}
use Rattle.t1_insn.specs.declared.instruction.Insn.{Insn}
use Rattle.t1_insn.specs.declared.instruction.Insn.TheVariants as insn
use Rattle.t1_form.specs.declared.slot.Shape.{Shape}
use Rattle.t1_form.specs.declared.slot.Shape.TheVariants as shape
use Rattle.t1_operand.specs.declared.fields.Source.{Source}
use Rattle.t1_operand.specs.declared.fields.Source.TheVariants.{Register, Value}
use Rattle.t1_operand.specs.declared.fields.Fields.{Fields}

-- [A], an address space by a number behind it, and %asi behind it
abbrev pub load_shape : Mem → Shape
load_shape (Plain src) = shape.Load
load_shape (Alt rs2 asi) = shape.LoadNamed
load_shape (AltReg imm) = shape.LoadAsi

abbrev pub store_shape : Mem → Shape
store_shape (Plain src) = shape.Store
store_shape (Alt rs2 asi) = shape.StoreNamed
store_shape (AltReg imm) = shape.StoreAsi

abbrev pub prefetch_shape : Mem → Shape
prefetch_shape (Plain src) = shape.Fetch
prefetch_shape (Alt rs2 asi) = shape.FetchNamed
prefetch_shape (AltReg imm) = shape.FetchAsi

abbrev pub cas_shape : Option ℕ → Shape
cas_shape (Some asi) = shape.ComparedNamed
cas_shape None = shape.ComparedAsi

unfoldable pub shape_of : Insn → Shape
shape_of (insn.Bpcc cond annul wide taken disp) = shape.BranchCodes
shape_of (insn.Bicc cond annul disp) = shape.BranchIcc
shape_of (insn.Bpr rcond annul taken rs1 disp) = shape.BranchRegister
shape_of (insn.Sethi rd imm) = shape.NumberRd
shape_of (insn.Call disp) = shape.Target
shape_of (insn.Membar mask) = shape.BarrierNumber
shape_of (insn.Alu op cc rd rs1 src) = shape.Three
shape_of (insn.Shift op wide rd rs1 src) = shape.Three
shape_of (insn.ReadAsr asr rd) = shape.ReadState
shape_of (insn.WriteAsr asr rs1 src) = shape.WriteState
shape_of (insn.ReadPr reg rd) = shape.ReadPrivileged
shape_of (insn.WritePr reg rs1 src) = shape.WritePrivileged
shape_of (insn.Movcc cond wide rd src) = shape.MoveCodes
shape_of (insn.Movr rcond rd rs1 src) = shape.Three
shape_of (insn.Jmpl rd rs1 src) = shape.JumpRd
shape_of (insn.Return rs1 src) = shape.Jump
shape_of (insn.Flush rs1 src) = shape.Jump
shape_of (insn.Trap cond wide rs1 src) = shape.TrapCodes
shape_of (insn.Save rd rs1 src) = shape.Three
shape_of (insn.Restore rd rs1 src) = shape.Three
shape_of (insn.Load kind rd rs1 mem) = load_shape mem
shape_of (insn.Store kind rd rs1 mem) = store_shape mem
shape_of (insn.Ldstub rd rs1 mem) = load_shape mem
shape_of (insn.Swap rd rs1 mem) = load_shape mem
shape_of (insn.Prefetch fcn rs1 mem) = prefetch_shape mem
shape_of (insn.Cas wide rd rs1 rs2 asi) = cas_shape asi
shape_of _ = shape.Nothing

-- an immediate as a 64-bit value
abbrev pub value_of : ℤ → ℕ
value_of (pos n) = n
value_of (negsuc n) = 2 ^ 64 - suc n

abbrev pub source_of : Src → Source
source_of (Reg r) = Register r
source_of (Imm imm) = Value (Some (value_of imm))

abbrev pub mem_source : Mem → Source
mem_source (Plain src) = source_of src
mem_source (Alt rs2 asi) = Register rs2
mem_source (AltReg imm) = Value (Some (value_of imm))

abbrev pub mem_asi : Mem → Option ℕ
mem_asi (Alt rs2 asi) = Some asi
mem_asi _ = Some 0

abbrev pub cas_asi : Option ℕ → Option ℕ
cas_asi (Some asi) = Some asi
cas_asi None = Some 0

-- so many words away
unfoldable pub target_of : ℕ → ℤ → ℕ
target_of addr (pos n) = (addr + 4 * n) % 2 ^ 64
target_of addr (negsuc n) = (addr + 2 ^ 64 - 4 * suc n) % 2 ^ 64

-- operands without a flag: registers, a second operand, a value
abbrev pub plain_fields : ℕ → ℕ → Source → Option ℕ → Fields
plain_fields rd rs1 source value = record { rd = rd; rs1 = rs1; source = source; value = value; extra = Some 0; number = 0; annul = false; taken = true; wide = false }

-- with the number of a state register
abbrev pub state_fields : ℕ → ℕ → Source → ℕ → Fields
state_fields rd rs1 source number = record { rd = rd; rs1 = rs1; source = source; value = Some 0; extra = Some 0; number = number; annul = false; taken = true; wide = false }

-- with condition codes
abbrev pub codes_fields : ℕ → ℕ → Source → Bool → Fields
codes_fields rd rs1 source wide = record { rd = rd; rs1 = rs1; source = source; value = Some 0; extra = Some 0; number = 0; annul = false; taken = true; wide = wide }

-- of a branch
abbrev pub branch_fields : Bool → Bool → Bool → ℕ → ℕ → Fields
branch_fields annul wide taken rs1 target = record { rd = 0; rs1 = rs1; source = Register 0; value = Some target; extra = Some 0; number = 0; annul = annul; taken = taken; wide = wide }

abbrev pub prefetch_fields : ℕ → ℕ → Mem → Fields
prefetch_fields fcn rs1 mem = record { rd = 0; rs1 = rs1; source = mem_source mem; value = mem_asi mem; extra = Some fcn; number = 0; annul = false; taken = true; wide = false }

unfoldable pub fields_of : ℕ → Insn → Fields
fields_of addr (insn.Bpcc cond annul wide taken disp) = branch_fields annul wide taken 0 (target_of addr disp)
fields_of addr (insn.Bicc cond annul disp) = branch_fields annul false true 0 (target_of addr disp)
fields_of addr (insn.Bpr rcond annul taken rs1 disp) = branch_fields annul false taken rs1 (target_of addr disp)
fields_of addr (insn.Sethi rd imm) = plain_fields rd 0 (Register 0) (Some imm)
fields_of addr (insn.Call disp) = branch_fields false false true 0 (target_of addr disp)
fields_of addr (insn.Membar mask) = plain_fields 0 0 (Register 0) (Some mask)
fields_of addr (insn.Alu op cc rd rs1 src) = plain_fields rd rs1 (source_of src) (Some 0)
fields_of addr (insn.Shift op wide rd rs1 src) = plain_fields rd rs1 (source_of src) (Some 0)
fields_of addr (insn.ReadAsr asr rd) = state_fields rd 0 (Register 0) asr
fields_of addr (insn.WriteAsr asr rs1 src) = state_fields 0 rs1 (source_of src) asr
fields_of addr (insn.ReadPr reg rd) = state_fields rd 0 (Register 0) reg
fields_of addr (insn.WritePr reg rs1 src) = state_fields 0 rs1 (source_of src) reg
fields_of addr (insn.Movcc cond wide rd src) = codes_fields rd 0 (source_of src) wide
fields_of addr (insn.Movr rcond rd rs1 src) = plain_fields rd rs1 (source_of src) (Some 0)
fields_of addr (insn.Jmpl rd rs1 src) = plain_fields rd rs1 (source_of src) (Some 0)
fields_of addr (insn.Return rs1 src) = plain_fields 0 rs1 (source_of src) (Some 0)
fields_of addr (insn.Flush rs1 src) = plain_fields 0 rs1 (source_of src) (Some 0)
fields_of addr (insn.Trap cond wide rs1 src) = codes_fields 0 rs1 (source_of src) wide
fields_of addr (insn.Save rd rs1 src) = plain_fields rd rs1 (source_of src) (Some 0)
fields_of addr (insn.Restore rd rs1 src) = plain_fields rd rs1 (source_of src) (Some 0)
fields_of addr (insn.Load kind rd rs1 mem) = plain_fields rd rs1 (mem_source mem) (mem_asi mem)
fields_of addr (insn.Store kind rd rs1 mem) = plain_fields rd rs1 (mem_source mem) (mem_asi mem)
fields_of addr (insn.Ldstub rd rs1 mem) = plain_fields rd rs1 (mem_source mem) (mem_asi mem)
fields_of addr (insn.Swap rd rs1 mem) = plain_fields rd rs1 (mem_source mem) (mem_asi mem)
fields_of addr (insn.Prefetch fcn rs1 mem) = prefetch_fields fcn rs1 mem
fields_of addr (insn.Cas wide rd rs1 rs2 asi) = plain_fields rd rs1 (Register rs2) (cas_asi asi)
fields_of addr _ = plain_fields 0 0 (Register 0) (Some 0)
