-- The fields of an instruction word (SPARC V9, appendix A.1). Bit 0 is the lowest.
use Rattle.std.specs.Prelude.{ℕ, ◌-◌, ◌/◌, ◌%◌, ◌^◌, ◌==◌, nat_lt, if◌then◌else◌, Bool, Option, Some, None, ℤ, pos, ◌-ℤ◌}
use Rattle.t1_num.specs.Fields.{field_of}
use Rattle.t1_insn.specs.declared.operand.Src.{Src}
use Rattle.t1_insn.specs.declared.operand.Src.TheVariants.{Reg, Imm}
use Rattle.t1_insn.specs.declared.operand.Mem.{Mem}
use Rattle.t1_insn.specs.declared.operand.Mem.TheVariants.{Alt, AltReg}

-- bit k is 1
abbrev pub is_set : ℕ → ℕ → Bool
is_set word k = word / 2 ^ k % 2 == 1

-- the two's complement number that k bits stand for
unfoldable pub signed_of : ℕ → ℕ → ℤ
signed_of k bits = if nat_lt bits (2 ^ (k - 1)) then pos bits else (pos bits -ℤ pos (2 ^ k))

-- the registers
abbrev pub rd_of : ℕ → ℕ
rd_of word = field_of word 29 25

abbrev pub rs1_of : ℕ → ℕ
rs1_of word = field_of word 18 14

abbrev pub rs2_of : ℕ → ℕ
rs2_of word = field_of word 4 0

-- the condition of a branch or of a trap
abbrev pub cond_of : ℕ → ℕ
cond_of word = field_of word 28 25

-- the second operand, where i is 1 the k low bits as a signed number
unfoldable pub signed_source_of : ℕ → ℕ → Src
signed_source_of k word = if is_set word 13 then Imm (signed_of k (field_of word (k - 1) 0)) else Reg (rs2_of word)

-- the second operand, where i is 1 the k low bits as a number
unfoldable pub number_source_of : ℕ → ℕ → Src
number_source_of k word = if is_set word 13 then Imm (pos (field_of word (k - 1) 0)) else Reg (rs2_of word)

-- the second operand of most instructions: simm13 where i is 1, else rs2
abbrev pub source_of : ℕ → Src
source_of word = signed_source_of 13 word

-- that of an alternate access: where i is 1 the ASI register names the space, else imm_asi does
unfoldable pub alternate_of : ℕ → Mem
alternate_of word = if is_set word 13 then AltReg (signed_of 13 (field_of word 12 0)) else Alt (rs2_of word) (field_of word 12 5)

-- the space of a compare and swap; None is the ASI register
unfoldable pub space_of : ℕ → Option ℕ
space_of word = if is_set word 13 then None else Some (field_of word 12 5)
