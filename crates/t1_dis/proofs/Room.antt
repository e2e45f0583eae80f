-- A line has room for its operands, and shows registers that are there.
use Rattle.std.proofs.Common.{◌≤◌, ℕ, arith, Bool, true, false}
use Rattle.t1_insn.specs.Ranges.{IsInRange, IsSignedSource, IsNumberSource, IsCount, IsMem}
use Rattle.t1_insn.specs.declared.operand.Src.{Src}
use Rattle.t1_insn.specs.declared.operand.Src.TheVariants.{Reg, Imm}
use Rattle.t1_insn.specs.declared.operand.Mem.{Mem}
use Rattle.t1_insn.specs.declared.operand.Mem.TheVariants.{Plain, Alt, AltReg}
use Rattle.t1_insn.specs.declared.instruction.Insn.{Insn}
use Rattle.t1_insn.specs.declared.instruction.Insn.TheVariants as insn
use Rattle.t1_form.specs.declared.slot.Shape.{Shape}
use Rattle.t1_form.specs.declared.slot.Shape.TheVariants as shape
use Rattle.t1_form.specs.Shapes.{slots_of}
use Rattle.t1_dis.specs.Operands.{source_of, mem_source, fields_of}
use Rattle.t1_dis.specs.Room.{room_of, IsShownSource, AreRegisters, AreAscii}

pub shape_room : (s : Shape) → room_of (slots_of s) ≤ 75
unfolding slots_of room_of
shape_room shape.Nothing = omega arith
shape_room shape.Three = omega arith
shape_room shape.OperandRd = omega arith
shape_room shape.Compare = omega arith
shape_room shape.Test = omega arith
shape_room shape.OnlyRd = omega arith
shape_room shape.Step = omega arith
shape_room shape.Turn = omega arith
shape_room shape.Negate = omega arith
shape_room shape.NumberRd = omega arith
shape_room shape.Target = omega arith
shape_room shape.BranchIcc = omega arith
shape_room shape.BranchCodes = omega arith
shape_room shape.BranchRegister = omega arith
shape_room shape.JumpRd = omega arith
shape_room shape.Jump = omega arith
shape_room shape.TrapIcc = omega arith
shape_room shape.TrapCodes = omega arith
shape_room shape.MoveCodes = omega arith
shape_room shape.Load = omega arith
shape_room shape.LoadNamed = omega arith
shape_room shape.LoadAsi = omega arith
shape_room shape.Store = omega arith
shape_room shape.StoreNamed = omega arith
shape_room shape.StoreAsi = omega arith
shape_room shape.Fetch = omega arith
shape_room shape.FetchNamed = omega arith
shape_room shape.FetchAsi = omega arith
shape_room shape.Compared = omega arith
shape_room shape.ComparedNamed = omega arith
shape_room shape.ComparedAsi = omega arith
shape_room shape.ReadState = omega arith
shape_room shape.WriteState = omega arith
shape_room shape.ReadPrivileged = omega arith
shape_room shape.WritePrivileged = omega arith
shape_room shape.Barrier = omega arith
shape_room shape.BarrierNumber = omega arith
shape_room shape.Number = omega arith

pub shape_ascii : (s : Shape) → AreAscii (slots_of s)
unfolding slots_of
shape_ascii shape.Nothing = tt
shape_ascii shape.Three = (tt, (omega arith, (tt, (omega arith, (tt, tt)))))
shape_ascii shape.OperandRd = (tt, (omega arith, (tt, tt)))
shape_ascii shape.Compare = (tt, (omega arith, (tt, tt)))
shape_ascii shape.Test = (tt, tt)
shape_ascii shape.OnlyRd = (tt, tt)
shape_ascii shape.Step = (tt, (tt, tt))
shape_ascii shape.Turn = (tt, tt)
shape_ascii shape.Negate = (tt, tt)
shape_ascii shape.NumberRd = (tt, (omega arith, (tt, tt)))
shape_ascii shape.Target = (tt, tt)
shape_ascii shape.BranchIcc = (tt, (tt, tt))
shape_ascii shape.BranchCodes = (tt, (tt, (tt, (omega arith, (tt, tt)))))
shape_ascii shape.BranchRegister = (tt, (tt, (tt, (omega arith, (tt, tt)))))
shape_ascii shape.JumpRd = (tt, (omega arith, (tt, tt)))
shape_ascii shape.Jump = (tt, tt)
shape_ascii shape.TrapIcc = (tt, tt)
shape_ascii shape.TrapCodes = (tt, (omega arith, (tt, tt)))
shape_ascii shape.MoveCodes = (tt, (omega arith, (tt, (omega arith, (tt, tt)))))
shape_ascii shape.Load = (omega arith, (tt, (omega arith, (omega arith, (tt, tt)))))
shape_ascii shape.LoadNamed = (omega arith, (tt, (omega arith, (tt, (omega arith, (tt, tt))))))
shape_ascii shape.LoadAsi = (omega arith, (tt, (omega arith, (tt, (omega arith, (tt, tt))))))
shape_ascii shape.Store = (tt, (omega arith, (omega arith, (tt, (omega arith, tt)))))
shape_ascii shape.StoreNamed = (tt, (omega arith, (omega arith, (tt, (omega arith, (tt, tt))))))
shape_ascii shape.StoreAsi = (tt, (omega arith, (omega arith, (tt, (omega arith, (tt, tt))))))
shape_ascii shape.Fetch = (omega arith, (tt, (omega arith, (omega arith, (tt, tt)))))
shape_ascii shape.FetchNamed = (omega arith, (tt, (omega arith, (tt, (omega arith, (tt, tt))))))
shape_ascii shape.FetchAsi = (omega arith, (tt, (omega arith, (tt, (omega arith, (tt, tt))))))
shape_ascii shape.Compared = (omega arith, (tt, (omega arith, (omega arith, (tt, (omega arith, (tt, (tt, tt))))))))
shape_ascii shape.ComparedNamed = (omega arith, (tt, (omega arith, (tt, (omega arith, (tt, (omega arith, (tt, tt))))))))
shape_ascii shape.ComparedAsi = (omega arith, (tt, (omega arith, (tt, (omega arith, (tt, (omega arith, (tt, tt))))))))
shape_ascii shape.ReadState = (tt, (omega arith, (tt, tt)))
shape_ascii shape.WriteState = (tt, (omega arith, (tt, (omega arith, (tt, tt)))))
shape_ascii shape.ReadPrivileged = (tt, (omega arith, (tt, tt)))
shape_ascii shape.WritePrivileged = (tt, (omega arith, (tt, (omega arith, (tt, tt)))))
shape_ascii shape.Barrier = (tt, tt)
shape_ascii shape.BarrierNumber = (tt, tt)
shape_ascii shape.Number = (tt, tt)

signed_shown : (k : ℕ) (src : Src) → IsSignedSource k src → IsShownSource (source_of src)
signed_shown k (Reg r) h = h
signed_shown k (Imm imm) h = tt

number_shown : (k : ℕ) (src : Src) → IsNumberSource k src → IsShownSource (source_of src)
number_shown k (Reg r) h = h
number_shown k (Imm imm) h = tt

count_shown : (wide : Bool) (src : Src) → IsCount wide src → IsShownSource (source_of src)
count_shown true src h = number_shown 6 src h
count_shown false src h = number_shown 5 src h

mem_shown : (mem : Mem) → IsMem mem → IsShownSource (mem_source mem)
mem_shown (Plain src) h = signed_shown 13 src h
mem_shown (Alt rs2 asi) h = h.0
mem_shown (AltReg imm) h = tt

pub registers_shown : (addr : ℕ) (i : Insn) → IsInRange i → AreRegisters (fields_of addr i)
unfolding fields_of
registers_shown addr insn.Illegal h = record { rd = omega arith; rs1 = omega arith; source = omega arith }
registers_shown addr insn.FpOff h = record { rd = omega arith; rs1 = omega arith; source = omega arith }
registers_shown addr (insn.ReadHpr reg rd) h = record { rd = omega arith; rs1 = omega arith; source = omega arith }
registers_shown addr (insn.WriteHpr reg rs1 src) h = record { rd = omega arith; rs1 = omega arith; source = omega arith }
registers_shown addr insn.Stbar h = record { rd = omega arith; rs1 = omega arith; source = omega arith }
registers_shown addr insn.Flushw h = record { rd = omega arith; rs1 = omega arith; source = omega arith }
registers_shown addr insn.Saved h = record { rd = omega arith; rs1 = omega arith; source = omega arith }
registers_shown addr insn.Restored h = record { rd = omega arith; rs1 = omega arith; source = omega arith }
registers_shown addr insn.Done h = record { rd = omega arith; rs1 = omega arith; source = omega arith }
registers_shown addr insn.Retry h = record { rd = omega arith; rs1 = omega arith; source = omega arith }
registers_shown addr (insn.Bpcc cond annul wide taken disp) h = record { rd = omega arith; rs1 = omega arith; source = omega arith }
registers_shown addr (insn.Bicc cond annul disp) h = record { rd = omega arith; rs1 = omega arith; source = omega arith }
registers_shown addr (insn.Bpr rcond annul taken rs1 disp) h = record { rd = omega arith; rs1 = h.1; source = omega arith }
registers_shown addr (insn.Sethi rd imm) h = record { rd = h.0; rs1 = omega arith; source = omega arith }
registers_shown addr (insn.Call disp) h = record { rd = omega arith; rs1 = omega arith; source = omega arith }
registers_shown addr (insn.Membar mask) h = record { rd = omega arith; rs1 = omega arith; source = omega arith }
registers_shown addr (insn.Alu op cc rd rs1 src) h = record { rd = h.1.0; rs1 = h.1.1; source = signed_shown 13 src h.1.2 }
registers_shown addr (insn.Shift op wide rd rs1 src) h = record { rd = h.0; rs1 = h.1; source = count_shown wide src h.2 }
registers_shown addr (insn.ReadAsr asr rd) h = record { rd = h.1; rs1 = omega arith; source = omega arith }
registers_shown addr (insn.WriteAsr asr rs1 src) h = record { rd = omega arith; rs1 = h.1.0; source = signed_shown 13 src h.1.1 }
registers_shown addr (insn.ReadPr reg rd) h = record { rd = h.1; rs1 = omega arith; source = omega arith }
registers_shown addr (insn.WritePr reg rs1 src) h = record { rd = omega arith; rs1 = h.1.0; source = signed_shown 13 src h.1.1 }
registers_shown addr (insn.Movcc cond wide rd src) h = record { rd = h.1; rs1 = omega arith; source = signed_shown 11 src h.2 }
registers_shown addr (insn.Movr rcond rd rs1 src) h = record { rd = h.1; rs1 = h.2; source = signed_shown 10 src h.3 }
registers_shown addr (insn.Jmpl rd rs1 src) h = record { rd = h.0; rs1 = h.1; source = signed_shown 13 src h.2 }
registers_shown addr (insn.Return rs1 src) h = record { rd = omega arith; rs1 = h.0; source = signed_shown 13 src h.1 }
registers_shown addr (insn.Flush rs1 src) h = record { rd = omega arith; rs1 = h.0; source = signed_shown 13 src h.1 }
registers_shown addr (insn.Trap cond wide rs1 src) h = record { rd = omega arith; rs1 = h.1; source = number_shown 8 src h.2 }
registers_shown addr (insn.Save rd rs1 src) h = record { rd = h.0; rs1 = h.1; source = signed_shown 13 src h.2 }
registers_shown addr (insn.Restore rd rs1 src) h = record { rd = h.0; rs1 = h.1; source = signed_shown 13 src h.2 }
registers_shown addr (insn.Load kind rd rs1 mem) h = record { rd = h.1.0; rs1 = h.1.1; source = mem_shown mem h.1.2 }
registers_shown addr (insn.Store kind rd rs1 mem) h = record { rd = h.1.0; rs1 = h.1.1; source = mem_shown mem h.1.2 }
registers_shown addr (insn.Ldstub rd rs1 mem) h = record { rd = h.0; rs1 = h.1; source = mem_shown mem h.2 }
registers_shown addr (insn.Swap rd rs1 mem) h = record { rd = h.0; rs1 = h.1; source = mem_shown mem h.2 }
registers_shown addr (insn.Prefetch fcn rs1 mem) h = record { rd = omega arith; rs1 = h.1; source = mem_shown mem h.2 }
registers_shown addr (insn.Cas wide rd rs1 rs2 asi) h = record { rd = h.0; rs1 = h.1; source = h.2 }
