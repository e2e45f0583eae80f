-- The words of op 2 are decoded again.
use Rattle.std.proofs.Common.{◌≡◌, ℕ, ◌+◌, ◌*◌, ◌/◌, ◌%◌, ◌^◌, ◌<◌, Bool, true, false, refl, ◌∙◌, arith}
use Rattle.std.specs.Prelude.{Some, IfSome, IsTrue}
use Rattle.t1_insn.specs.declared.operand.Src.{Src}
use Rattle.t1_insn.specs.declared.operation.AluOp.{AluOp}
use Rattle.t1_insn.specs.declared.operation.AluOp.TheVariants as alu
use Rattle.t1_insn.specs.declared.operation.ShiftOp.{ShiftOp}
use Rattle.t1_insn.specs.declared.operation.ShiftOp.TheVariants.{Sll, Srl, Sra}
use Rattle.t1_insn.specs.declared.instruction.Insn.{Insn}
use Rattle.t1_insn.specs.declared.instruction.Insn.TheVariants.{Stbar, Flushw, Saved, Restored, Done, Retry, Membar, Alu, Shift, ReadAsr, WriteAsr, ReadPr, WritePr, ReadHpr, WriteHpr, Movcc, Movr, Jmpl, Return, Flush, Trap, Save, Restore}
use Rattle.t1_insn.specs.Ranges.{has_form, is_register_condition, is_read_asr, is_write_asr, is_read_privileged, is_hyperprivileged, is_write_privileged}
use Rattle.t1_decode.specs.Fields.{rd_of, rs1_of, source_of, signed_source_of, number_source_of}
use Rattle.t1_decode.specs.Rows.{row_of}
use Rattle.t1_decode.specs.AluTable.{alu_rows}
use Rattle.t1_decode.specs.Forms.{shift_of, read_asr_of, read_privileged_of, read_hyper_of, write_hyper_of, movcc_of, movr_of, write_asr_of, write_privileged_of, saved_of, done_of, trap_of}
use Rattle.t1_decode.specs.Words.{insn_of, arithmetic_of, control_of}
use Rattle.t1_encode.specs.Fields.{codes_bits}
use Rattle.t1_encode.specs.Numbers.{alu_number, shift_number}
use Rattle.t1_encode.proofs.Bits.{IsOperand}
use Rattle.t1_encode.proofs.Pictures.{IsFormat3, op_2, source_low, signed_source_low, number_source_low}

-- op3 n makes such an instruction of rd, rs1 and the second operand
abbrev pub Makes : ℕ → (ℕ → ℕ → Src → Insn) → Type 0
Makes n make = (word : ℕ) → arithmetic_of word n ≡ make (rd_of word) (rs1_of word) (source_of word)

pub operands_again : (n rd rs1 low word : ℕ) (src : Src) (make : ℕ → ℕ → Src → Insn) → Makes n make
    → IsFormat3 2 rd n rs1 low word → signed_source_of 13 low ≡ src → insn_of word ≡ make rd rs1 src
operands_again n rd rs1 low word src make m f e =
    op_2 word n f.op f.op3 ∙ m word ∙ rw (f.rd, f.rs1, source_low word low f.low, e) refl

-- arithmetic
pub record IsAluNumber (op : AluOp) (cc : Bool) (n : ℕ) : Type 0 where
  pub small : n < 64
  pub row : row_of n alu_rows ≡ Some (op, cc)
  pub form : IsTrue (has_form op cc)

pub alu_number_row : (op : AluOp) (cc : Bool) → IfSome (alu_number op cc) (λ n. IsAluNumber op cc n)
unfolding alu_number
alu_number_row alu.Mulx true = tt
alu_number_row alu.Udivx true = tt
alu_number_row alu.Sdivx true = tt
alu_number_row alu.Taddcc false = tt
alu_number_row alu.Tsubcc false = tt
alu_number_row alu.TaddccTv false = tt
alu_number_row alu.TsubccTv false = tt
alu_number_row alu.Mulscc false = tt
alu_number_row _ true = record { small = omega arith; row = refl; form = refl }
alu_number_row _ false = record { small = omega arith; row = refl; form = refl }

pub alu_makes : (n : ℕ) (op : AluOp) (cc : Bool) → row_of n alu_rows ≡ Some (op, cc) → Makes n (Alu op cc)
unfolding arithmetic_of
alu_makes n op cc e word = rw e refl

-- jumps and windows
pub jmpl_makes : Makes 0x38 Jmpl
unfolding arithmetic_of control_of
jmpl_makes word = refl

pub return_makes : Makes 0x39 (λ rd rs1 src. Return rs1 src)
unfolding arithmetic_of control_of
return_makes word = refl

pub flush_makes : Makes 0x3b (λ rd rs1 src. Flush rs1 src)
unfolding arithmetic_of control_of
flush_makes word = refl

pub save_makes : Makes 0x3c Save
unfolding arithmetic_of control_of
save_makes word = refl

pub restore_makes : Makes 0x3d Restore
unfolding arithmetic_of control_of
restore_makes word = refl

-- state registers
pub read_asr_again : (asr rd word : ℕ) → IsFormat3 2 rd 0x28 asr 0 word → is_read_asr asr ≡ true → insn_of word ≡ ReadAsr asr rd
unfolding arithmetic_of control_of read_asr_of
read_asr_again asr rd word f t = op_2 word 0x28 f.op f.op3 ∙ rw (f.rs1, t, f.rd) refl

pub read_privileged_again : (reg rd word : ℕ) → IsFormat3 2 rd 0x2a reg 0 word → is_read_privileged reg ≡ true → insn_of word ≡ ReadPr reg rd
unfolding arithmetic_of control_of read_privileged_of
read_privileged_again reg rd word f t = op_2 word 0x2a f.op f.op3 ∙ rw (f.rs1, t, f.rd) refl

pub write_asr_again : (asr rs1 low word : ℕ) (src : Src) → IsFormat3 2 asr 0x30 rs1 low word → is_write_asr asr ≡ true
    → signed_source_of 13 low ≡ src → insn_of word ≡ WriteAsr asr rs1 src
unfolding arithmetic_of control_of write_asr_of
write_asr_again asr rs1 low word src f t e = op_2 word 0x30 f.op f.op3 ∙ rw (f.rd, t, f.rs1, source_low word low f.low, e) refl

pub write_privileged_again : (reg rs1 low word : ℕ) (src : Src) → IsFormat3 2 reg 0x32 rs1 low word → is_write_privileged reg ≡ true
    → signed_source_of 13 low ≡ src → insn_of word ≡ WritePr reg rs1 src
unfolding arithmetic_of control_of write_privileged_of
write_privileged_again reg rs1 low word src f t e = op_2 word 0x32 f.op f.op3 ∙ rw (f.rd, t, f.rs1, source_low word low f.low, e) refl

pub read_hyper_again : (reg rd word : ℕ) → IsFormat3 2 rd 0x29 reg 0 word → is_hyperprivileged reg ≡ true → insn_of word ≡ ReadHpr reg rd
unfolding arithmetic_of control_of read_hyper_of
read_hyper_again reg rd word f t = op_2 word 0x29 f.op f.op3 ∙ rw (f.rs1, t, f.rd) refl

pub write_hyper_again : (reg rs1 low word : ℕ) (src : Src) → IsFormat3 2 reg 0x33 rs1 low word → is_hyperprivileged reg ≡ true
    → signed_source_of 13 low ≡ src → insn_of word ≡ WriteHpr reg rs1 src
unfolding arithmetic_of control_of write_hyper_of
write_hyper_again reg rs1 low word src f t e = op_2 word 0x33 f.op f.op3 ∙ rw (f.rd, t, f.rs1, source_low word low f.low, e) refl

pub membar_again : (mask word : ℕ) → mask < 2 ^ 7 → IsFormat3 2 0 0x28 15 (1 * 2 ^ 13 + (mask * 2 ^ 0 + 0)) word → insn_of word ≡ Membar mask
unfolding arithmetic_of control_of read_asr_of
membar_again mask word h f =
    let low : word % 2 ^ 14 ≡ 1 * 2 ^ 13 + (mask * 2 ^ 0 + 0) = f.low in
    let i : word / 2 ^ 13 % 2 ≡ 1 = omega arith in
    let m : word / 2 ^ 0 % 2 ^ 7 ≡ mask = omega arith in
    op_2 word 0x28 f.op f.op3 ∙ rw (f.rs1, f.rd, i, m) refl

-- words without operands
pub stbar_again : insn_of 0x8143c000 ≡ Stbar
unfolding insn_of arithmetic_of control_of read_asr_of
stbar_again = refl

pub flushw_again : insn_of 0x81580000 ≡ Flushw
unfolding insn_of arithmetic_of control_of
flushw_again = refl

pub saved_again : insn_of 0x81880000 ≡ Saved
unfolding insn_of arithmetic_of control_of saved_of
saved_again = refl

pub restored_again : insn_of 0x83880000 ≡ Restored
unfolding insn_of arithmetic_of control_of saved_of
restored_again = refl

pub done_again : insn_of 0x81f00000 ≡ Done
unfolding insn_of arithmetic_of control_of done_of
done_again = refl

pub retry_again : insn_of 0x83f00000 ≡ Retry
unfolding insn_of arithmetic_of control_of done_of
retry_again = refl

-- shifts
shift_makes : (op : ShiftOp) (word : ℕ) → arithmetic_of word (shift_number op) ≡ shift_of op word
unfolding arithmetic_of control_of
shift_makes Sll word = refl
shift_makes Srl word = refl
shift_makes Sra word = refl

pub wide_shift_again : (op : ShiftOp) (rd rs1 low word : ℕ) (src : Src) → IsOperand 6 low
    → IsFormat3 2 rd (shift_number op) rs1 (2 ^ 12 + low) word → number_source_of 6 low ≡ src → insn_of word ≡ Shift op true rd rs1 src
unfolding shift_of
wide_shift_again op rd rs1 low word src o f e =
    let lows : word % 2 ^ 14 ≡ 2 ^ 12 + low = f.low in
    let wide : word / 2 ^ 12 % 2 ≡ 1 = omega (arith, o.i, o.bits) in
    let same : number_source_of 6 word ≡ number_source_of 6 low =
    number_source_low 6 word low (omega (arith, o.i, o.bits)) (omega (arith, o.i, o.bits)) (omega (arith, o.i, o.bits)) in
    op_2 word (shift_number op) f.op f.op3 ∙ shift_makes op word ∙ rw (wide, f.rd, f.rs1, same, e) refl

pub narrow_shift_again : (op : ShiftOp) (rd rs1 low word : ℕ) (src : Src) → IsOperand 5 low
    → IsFormat3 2 rd (shift_number op) rs1 low word → number_source_of 5 low ≡ src → insn_of word ≡ Shift op false rd rs1 src
unfolding shift_of
narrow_shift_again op rd rs1 low word src o f e =
    let lows : word % 2 ^ 14 ≡ low = f.low in
    let narrow : word / 2 ^ 12 % 2 ≡ 0 = omega (arith, o.i, o.bits) in
    let same : number_source_of 5 word ≡ number_source_of 5 low =
    number_source_low 5 word low (omega (arith, o.i, o.bits)) (omega (arith, o.i, o.bits)) (omega (arith, o.i, o.bits)) in
    op_2 word (shift_number op) f.op f.op3 ∙ shift_makes op word ∙ rw (narrow, f.rd, f.rs1, same, e) refl

-- moves and traps on condition codes
pub movcc_again : (cond rd low word : ℕ) (wide : Bool) (src : Src) → cond < 16 → IsOperand 11 low
    → IsFormat3 2 rd 0x2c (16 + cond) (codes_bits wide * 2 ^ 11 + low) word → signed_source_of 11 low ≡ src → insn_of word ≡ Movcc cond wide rd src
unfolding arithmetic_of control_of movcc_of
movcc_again cond rd low word true src h o f e =
    let lows : word % 2 ^ 14 ≡ 2 * 2 ^ 11 + low = f.low in
    let upper : word / 2 ^ 14 % 2 ^ 5 ≡ 16 + cond = f.rs1 in
    let integer : word / 2 ^ 18 % 2 ≡ 1 = omega arith in
    let condition : word / 2 ^ 14 % 2 ^ 4 ≡ cond = omega arith in
    let codes : word / 2 ^ 11 % 2 ^ 2 ≡ 2 = omega (arith, o.i, o.bits) in
    let same : signed_source_of 11 word ≡ signed_source_of 11 low =
    signed_source_low 11 word low (omega (arith, o.i, o.bits)) (omega (arith, o.i, o.bits)) (omega (arith, o.i, o.bits)) in
    op_2 word 0x2c f.op f.op3 ∙ rw (integer, codes, condition, f.rd, same, e) refl
movcc_again cond rd low word false src h o f e =
    let lows : word % 2 ^ 14 ≡ 0 * 2 ^ 11 + low = f.low in
    let upper : word / 2 ^ 14 % 2 ^ 5 ≡ 16 + cond = f.rs1 in
    let integer : word / 2 ^ 18 % 2 ≡ 1 = omega arith in
    let condition : word / 2 ^ 14 % 2 ^ 4 ≡ cond = omega arith in
    let codes : word / 2 ^ 11 % 2 ^ 2 ≡ 0 = omega (arith, o.i, o.bits) in
    let same : signed_source_of 11 word ≡ signed_source_of 11 low =
    signed_source_low 11 word low (omega (arith, o.i, o.bits)) (omega (arith, o.i, o.bits)) (omega (arith, o.i, o.bits)) in
    op_2 word 0x2c f.op f.op3 ∙ rw (integer, codes, condition, f.rd, same, e) refl

pub trap_again : (cond rs1 low word : ℕ) (wide : Bool) (src : Src) → cond < 16 → IsOperand 8 low
    → IsFormat3 2 cond 0x3a rs1 (codes_bits wide * 2 ^ 11 + low) word → number_source_of 8 low ≡ src → insn_of word ≡ Trap cond wide rs1 src
unfolding arithmetic_of control_of trap_of
trap_again cond rs1 low word true src h o f e =
    let lows : word % 2 ^ 14 ≡ 2 * 2 ^ 11 + low = f.low in
    let upper : word / 2 ^ 25 % 2 ^ 5 ≡ cond = f.rd in
    let condition : word / 2 ^ 25 % 2 ^ 4 ≡ cond = omega arith in
    let codes : word / 2 ^ 11 % 2 ^ 2 ≡ 2 = omega (arith, o.i, o.bits) in
    let same : number_source_of 8 word ≡ number_source_of 8 low =
    number_source_low 8 word low (omega (arith, o.i, o.bits)) (omega (arith, o.i, o.bits)) (omega (arith, o.i, o.bits)) in
    op_2 word 0x3a f.op f.op3 ∙ rw (codes, condition, f.rs1, same, e) refl
trap_again cond rs1 low word false src h o f e =
    let lows : word % 2 ^ 14 ≡ 0 * 2 ^ 11 + low = f.low in
    let upper : word / 2 ^ 25 % 2 ^ 5 ≡ cond = f.rd in
    let condition : word / 2 ^ 25 % 2 ^ 4 ≡ cond = omega arith in
    let codes : word / 2 ^ 11 % 2 ^ 2 ≡ 0 = omega (arith, o.i, o.bits) in
    let same : number_source_of 8 word ≡ number_source_of 8 low =
    number_source_low 8 word low (omega (arith, o.i, o.bits)) (omega (arith, o.i, o.bits)) (omega (arith, o.i, o.bits)) in
    op_2 word 0x3a f.op f.op3 ∙ rw (codes, condition, f.rs1, same, e) refl

pub movr_again : (rcond rd rs1 low word : ℕ) (src : Src) → rcond < 8 → is_register_condition rcond ≡ true → IsOperand 10 low
    → IsFormat3 2 rd 0x2f rs1 (rcond * 2 ^ 10 + low) word → signed_source_of 10 low ≡ src → insn_of word ≡ Movr rcond rd rs1 src
unfolding arithmetic_of control_of movr_of
movr_again rcond rd rs1 low word src h t o f e =
    let lows : word % 2 ^ 14 ≡ rcond * 2 ^ 10 + low = f.low in
    let condition : word / 2 ^ 10 % 2 ^ 3 ≡ rcond = omega (arith, o.i, o.bits) in
    let same : signed_source_of 10 word ≡ signed_source_of 10 low =
    signed_source_low 10 word low (omega (arith, o.i, o.bits)) (omega (arith, o.i, o.bits)) (omega (arith, o.i, o.bits)) in
    op_2 word 0x2f f.op f.op3 ∙ rw (condition, t, f.rd, f.rs1, same, e) refl
