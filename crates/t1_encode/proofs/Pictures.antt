-- The fields of a word that was put together from them.
use Rattle.std.proofs.Common.{◌≡◌, ℕ, ◌+◌, ◌-◌, ◌*◌, ◌/◌, ◌%◌, ◌^◌, ◌<◌, refl, arith}
use Rattle.t1_decode.specs.Fields.{signed_source_of, number_source_of, alternate_of, space_of}
use Rattle.t1_decode.specs.Words.{insn_of, branch_of, arithmetic_of, memory_of}

-- a word of format 3, whose bits from 13 down are those of low
pub record IsFormat3 (o d n s l word : ℕ) : Type 0 where
  pub op : word / 2 ^ 30 % 2 ^ 2 ≡ o
  pub rd : word / 2 ^ 25 % 2 ^ 5 ≡ d
  pub op3 : word / 2 ^ 19 % 2 ^ 6 ≡ n
  pub rs1 : word / 2 ^ 14 % 2 ^ 5 ≡ s
  pub low : word % 2 ^ 14 ≡ l
  pub size : word < 2 ^ 32

pub format_3_fields : (op rd op3 rs1 low word : ℕ) → op < 4 → rd < 32 → op3 < 64 → rs1 < 32 → low < 2 ^ 14
    → word ≡ op * 2 ^ 30 + (rd * 2 ^ 25 + (op3 * 2 ^ 19 + (rs1 * 2 ^ 14 + low))) → IsFormat3 op rd op3 rs1 low word
format_3_fields op rd op3 rs1 low word a b c d e h = record {
  op = omega arith;
  rd = omega arith;
  op3 = omega arith;
  rs1 = omega arith;
  low = omega arith;
  size = omega arith;
}

-- the group of a word
pub op_0 : (word : ℕ) → word / 2 ^ 30 % 2 ^ 2 ≡ 0 → insn_of word ≡ branch_of word
unfolding insn_of
op_0 word a = rw a refl

pub op_2 : (word op3 : ℕ) → word / 2 ^ 30 % 2 ^ 2 ≡ 2 → word / 2 ^ 19 % 2 ^ 6 ≡ op3 → insn_of word ≡ arithmetic_of word op3
unfolding insn_of
op_2 word op3 a b = rw (a, b) refl

pub op_3 : (word op3 : ℕ) → word / 2 ^ 30 % 2 ^ 2 ≡ 3 → word / 2 ^ 19 % 2 ^ 6 ≡ op3 → insn_of word ≡ memory_of word op3
unfolding insn_of
op_3 word op3 a b = rw (a, b) refl

-- the second operand is that of the low bits
pub signed_source_low : (k word low : ℕ) → word / 2 ^ 13 % 2 ≡ low / 2 ^ 13 % 2
    → word / 2 ^ 0 % 2 ^ (k - 1 + 1 - 0) ≡ low / 2 ^ 0 % 2 ^ (k - 1 + 1 - 0) → word / 2 ^ 0 % 2 ^ 5 ≡ low / 2 ^ 0 % 2 ^ 5
    → signed_source_of k word ≡ signed_source_of k low
unfolding signed_source_of
signed_source_low k word low i n r = rw (i, n, r) refl

pub number_source_low : (k word low : ℕ) → word / 2 ^ 13 % 2 ≡ low / 2 ^ 13 % 2
    → word / 2 ^ 0 % 2 ^ (k - 1 + 1 - 0) ≡ low / 2 ^ 0 % 2 ^ (k - 1 + 1 - 0) → word / 2 ^ 0 % 2 ^ 5 ≡ low / 2 ^ 0 % 2 ^ 5
    → number_source_of k word ≡ number_source_of k low
unfolding number_source_of
number_source_low k word low i n r = rw (i, n, r) refl

pub alternate_low : (word low : ℕ) → word % 2 ^ 14 ≡ low → alternate_of word ≡ alternate_of low
unfolding alternate_of
alternate_low word low h =
    let i : word / 2 ^ 13 % 2 ≡ low / 2 ^ 13 % 2 = omega arith in
    let n : word / 2 ^ 0 % 2 ^ 13 ≡ low / 2 ^ 0 % 2 ^ 13 = omega arith in
    let r : word / 2 ^ 0 % 2 ^ 5 ≡ low / 2 ^ 0 % 2 ^ 5 = omega arith in
    let a : word / 2 ^ 5 % 2 ^ 8 ≡ low / 2 ^ 5 % 2 ^ 8 = omega arith in
    rw (i, n, r, a) refl

pub space_low : (word low : ℕ) → word % 2 ^ 14 ≡ low → space_of word ≡ space_of low
unfolding space_of
space_low word low h =
    let i : word / 2 ^ 13 % 2 ≡ low / 2 ^ 13 % 2 = omega arith in
    let a : word / 2 ^ 5 % 2 ^ 8 ≡ low / 2 ^ 5 % 2 ^ 8 = omega arith in
    rw (i, a) refl

pub source_low : (word low : ℕ) → word % 2 ^ 14 ≡ low → signed_source_of 13 word ≡ signed_source_of 13 low
source_low word low h = signed_source_low 13 word low (omega arith) (omega arith) (omega arith)
