-- The op3 of each operation (SPARC V9, appendix E, tables 32 and 33).
use Rattle.std.specs.Prelude.{ℕ, ◌+◌, Bool, true, false, Option, Some, None}
use Rattle.t1_insn.specs.declared.operation.AluOp.{AluOp}
use Rattle.t1_insn.specs.declared.operation.AluOp.TheVariants.{Add, And, Or, Xor, Sub, Andn, Orn, Xnor, Addc, Mulx, Umul, Smul, Subc, Udivx, Udiv, Sdiv, Taddcc, Tsubcc, TaddccTv, TsubccTv, Mulscc, Sdivx}
use Rattle.t1_insn.specs.declared.operation.ShiftOp.{ShiftOp}
use Rattle.t1_insn.specs.declared.operation.ShiftOp.TheVariants.{Sll, Srl, Sra}
use Rattle.t1_insn.specs.declared.operation.LoadKind.{LoadKind}
use Rattle.t1_insn.specs.declared.operation.LoadKind.TheVariants as load
use Rattle.t1_insn.specs.declared.operation.StoreKind.{StoreKind}
use Rattle.t1_insn.specs.declared.operation.StoreKind.TheVariants as store
use Rattle.t1_insn.specs.declared.operand.Mem.{Mem}
use Rattle.t1_insn.specs.declared.operand.Mem.TheVariants.{Plain}

-- an operation that leaves the condition codes alone, or one that sets them
unfoldable pub alu_number : AluOp → Bool → Option ℕ
alu_number Add false = Some 0x00
alu_number And false = Some 0x01
alu_number Or false = Some 0x02
alu_number Xor false = Some 0x03
alu_number Sub false = Some 0x04
alu_number Andn false = Some 0x05
alu_number Orn false = Some 0x06
alu_number Xnor false = Some 0x07
alu_number Addc false = Some 0x08
alu_number Mulx false = Some 0x09
alu_number Umul false = Some 0x0a
alu_number Smul false = Some 0x0b
alu_number Subc false = Some 0x0c
alu_number Udivx false = Some 0x0d
alu_number Udiv false = Some 0x0e
alu_number Sdiv false = Some 0x0f
alu_number Add true = Some 0x10
alu_number And true = Some 0x11
alu_number Or true = Some 0x12
alu_number Xor true = Some 0x13
alu_number Sub true = Some 0x14
alu_number Andn true = Some 0x15
alu_number Orn true = Some 0x16
alu_number Xnor true = Some 0x17
alu_number Addc true = Some 0x18
alu_number Umul true = Some 0x1a
alu_number Smul true = Some 0x1b
alu_number Subc true = Some 0x1c
alu_number Udiv true = Some 0x1e
alu_number Sdiv true = Some 0x1f
alu_number Taddcc true = Some 0x20
alu_number Tsubcc true = Some 0x21
alu_number TaddccTv true = Some 0x22
alu_number TsubccTv true = Some 0x23
alu_number Mulscc true = Some 0x24
alu_number Sdivx false = Some 0x2d
alu_number _ _ = None

abbrev pub shift_number : ShiftOp → ℕ
shift_number Sll = 0x25
shift_number Srl = 0x26
shift_number Sra = 0x27

unfoldable pub load_number : LoadKind → ℕ
load_number load.Uw = 0x00
load_number load.Ub = 0x01
load_number load.Uh = 0x02
load_number load.Tw = 0x03
load_number load.Sw = 0x08
load_number load.Sb = 0x09
load_number load.Sh = 0x0a
load_number load.X = 0x0b

unfoldable pub store_number : StoreKind → ℕ
store_number store.W = 0x04
store_number store.B = 0x05
store_number store.H = 0x06
store_number store.Tw = 0x07
store_number store.X = 0x0e

-- the alternate forms stand 10 hex above the plain ones
abbrev pub access_number : Mem → ℕ → ℕ
access_number (Plain src) op3 = op3
access_number _ op3 = 0x10 + op3
