-- The words of op 0 and op 1 are decoded again.
use Rattle.std.proofs.Common.{◌≡◌, ℕ, ◌+◌, ◌*◌, ◌/◌, ◌%◌, ◌^◌, ◌<◌, ◌==◌, Bool, true, false, refl, ◌∙◌, arith, ℤ}
use Rattle.t1_insn.specs.declared.instruction.Insn.TheVariants.{Bpcc, Bicc, Bpr, Sethi, Call}
use Rattle.t1_insn.specs.Ranges.{is_register_condition}
use Rattle.t1_decode.specs.Fields.{signed_of}
use Rattle.t1_decode.specs.Forms.{bpcc_of, bpr_of}
use Rattle.t1_decode.specs.Words.{insn_of, branch_of}
use Rattle.t1_encode.specs.Fields.{flag_bits, codes_bits}
use Rattle.t1_encode.proofs.Pictures.{op_0}

-- the fields that branches share
record IsBranch (annul : Bool) (condition form rest word : ℕ) : Type 0 where
  op : word / 2 ^ 30 % 2 ^ 2 ≡ 0
  annul_bit : word / 2 ^ 29 % 2 ≡ flag_bits annul
  condition_bits : word / 2 ^ 25 % 2 ^ 4 ≡ condition
  op2 : word / 2 ^ 22 % 2 ^ 3 ≡ form
  low : word % 2 ^ 22 ≡ rest

branch_fields : (annul : Bool) (condition form rest word : ℕ) → condition < 16 → form < 8 → rest < 2 ^ 22
    → word ≡ flag_bits annul * 2 ^ 29 + (condition * 2 ^ 25 + (form * 2 ^ 22 + rest)) → IsBranch annul condition form rest word
branch_fields true condition form rest word a b c h = record {
  op = omega arith;
  annul_bit = omega arith;
  condition_bits = omega arith;
  op2 = omega arith;
  low = omega arith;
}
branch_fields false condition form rest word a b c h = record {
  op = omega arith;
  annul_bit = omega arith;
  condition_bits = omega arith;
  op2 = omega arith;
  low = omega arith;
}

flag_small : (b : Bool) → flag_bits b < 2
flag_small true = omega arith
flag_small false = omega arith

flag_back : (b : Bool) → (flag_bits b == 1) ≡ b
flag_back true = refl
flag_back false = refl

pub bicc_again : (cond bits word : ℕ) (annul : Bool) (disp : ℤ) → cond < 16 → bits < 2 ^ 22 → signed_of 22 bits ≡ disp
    → word ≡ flag_bits annul * 2 ^ 29 + (cond * 2 ^ 25 + (2 * 2 ^ 22 + bits)) → insn_of word ≡ Bicc cond annul disp
unfolding branch_of
bicc_again cond bits word annul disp a b e h =
    let f = branch_fields annul cond 2 bits word a (omega arith) b h in
    let low : word % 2 ^ 22 ≡ bits = f.low in
    let d : word / 2 ^ 0 % 2 ^ 22 ≡ bits = omega arith in
    op_0 word f.op ∙ rw (f.op2, f.condition_bits, f.annul_bit, flag_back annul, d, e) refl

pub bpcc_again : (cond bits word : ℕ) (annul wide taken : Bool) (disp : ℤ) → cond < 16 → bits < 2 ^ 19 → signed_of 19 bits ≡ disp
    → word ≡ flag_bits annul * 2 ^ 29 + (cond * 2 ^ 25 + (1 * 2 ^ 22 + (codes_bits wide * 2 ^ 20 + (flag_bits taken * 2 ^ 19 + bits))))
    → insn_of word ≡ Bpcc cond annul wide taken disp
unfolding branch_of bpcc_of
bpcc_again cond bits word annul true taken disp a b e h =
    let t : flag_bits taken < 2 = flag_small taken in
    let f = branch_fields annul cond 1 (2 * 2 ^ 20 + (flag_bits taken * 2 ^ 19 + bits)) word a (omega arith) (omega arith) h in
    let low : word % 2 ^ 22 ≡ 2 * 2 ^ 20 + (flag_bits taken * 2 ^ 19 + bits) = f.low in
    let codes : word / 2 ^ 20 % 2 ^ 2 ≡ 2 = omega arith in
    let prediction : word / 2 ^ 19 % 2 ≡ flag_bits taken = omega arith in
    let d : word / 2 ^ 0 % 2 ^ 19 ≡ bits = omega arith in
    op_0 word f.op ∙ rw (f.op2, codes, f.condition_bits, f.annul_bit, flag_back annul, prediction, flag_back taken, d, e) refl
bpcc_again cond bits word annul false taken disp a b e h =
    let t : flag_bits taken < 2 = flag_small taken in
    let f = branch_fields annul cond 1 (0 * 2 ^ 20 + (flag_bits taken * 2 ^ 19 + bits)) word a (omega arith) (omega arith) h in
    let low : word % 2 ^ 22 ≡ 0 * 2 ^ 20 + (flag_bits taken * 2 ^ 19 + bits) = f.low in
    let codes : word / 2 ^ 20 % 2 ^ 2 ≡ 0 = omega arith in
    let prediction : word / 2 ^ 19 % 2 ≡ flag_bits taken = omega arith in
    let d : word / 2 ^ 0 % 2 ^ 19 ≡ bits = omega arith in
    op_0 word f.op ∙ rw (f.op2, codes, f.condition_bits, f.annul_bit, flag_back annul, prediction, flag_back taken, d, e) refl

pub bpr_again : (rcond rs1 bits word : ℕ) (annul taken : Bool) (disp : ℤ) → rcond < 8 → is_register_condition rcond ≡ true
    → rs1 < 32 → bits < 2 ^ 16 → signed_of 16 bits ≡ disp
    → word ≡ flag_bits annul * 2 ^ 29 + (rcond * 2 ^ 25 + (3 * 2 ^ 22 + (bits / 2 ^ 14 * 2 ^ 20 + (flag_bits taken * 2 ^ 19 + (rs1 * 2 ^ 14 + bits % 2 ^ 14)))))
    → insn_of word ≡ Bpr rcond annul taken rs1 disp
unfolding branch_of bpr_of
bpr_again rcond rs1 bits word annul taken disp a r g b e h =
    let t : flag_bits taken < 2 = flag_small taken in
    let f = branch_fields annul rcond 3 (bits / 2 ^ 14 * 2 ^ 20 + (flag_bits taken * 2 ^ 19 + (rs1 * 2 ^ 14 + bits % 2 ^ 14))) word (omega arith) (omega arith) (omega arith) h in
    let upper : word / 2 ^ 25 % 2 ^ 4 ≡ rcond = f.condition_bits in
    let low : word % 2 ^ 22 ≡ bits / 2 ^ 14 * 2 ^ 20 + (flag_bits taken * 2 ^ 19 + (rs1 * 2 ^ 14 + bits % 2 ^ 14)) = f.low in
    let clear : word / 2 ^ 28 % 2 ≡ 0 = omega arith in
    let condition : word / 2 ^ 25 % 2 ^ 3 ≡ rcond = omega arith in
    let prediction : word / 2 ^ 19 % 2 ≡ flag_bits taken = omega arith in
    let register : word / 2 ^ 14 % 2 ^ 5 ≡ rs1 = omega arith in
    let d : word / 2 ^ 20 % 2 ^ 2 * 2 ^ 14 + word / 2 ^ 0 % 2 ^ 14 ≡ bits = omega arith in
    op_0 word f.op ∙ rw (f.op2, clear, condition, r, f.annul_bit, flag_back annul, prediction, flag_back taken, register, d, e) refl

pub sethi_again : (rd imm word : ℕ) → rd < 32 → imm < 2 ^ 22 → word ≡ rd * 2 ^ 25 + (4 * 2 ^ 22 + imm) → insn_of word ≡ Sethi rd imm
unfolding branch_of
sethi_again rd imm word a b h =
    let op : word / 2 ^ 30 % 2 ^ 2 ≡ 0 = omega arith in
    let op2 : word / 2 ^ 22 % 2 ^ 3 ≡ 4 = omega arith in
    let register : word / 2 ^ 25 % 2 ^ 5 ≡ rd = omega arith in
    let d : word / 2 ^ 0 % 2 ^ 22 ≡ imm = omega arith in
    op_0 word op ∙ rw (op2, register, d) refl

pub call_again : (bits word : ℕ) (disp : ℤ) → bits < 2 ^ 30 → signed_of 30 bits ≡ disp → word ≡ 1 * 2 ^ 30 + bits → insn_of word ≡ Call disp
unfolding insn_of
call_again bits word disp a e h =
    let op : word / 2 ^ 30 % 2 ^ 2 ≡ 1 = omega arith in
    let d : word / 2 ^ 0 % 2 ^ 30 ≡ bits = omega arith in
    rw (op, d, e) refl
