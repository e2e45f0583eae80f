-- The fields of a word: each is the bits of a value, where it has so many.
use Rattle.std.specs.Prelude.{ℕ, suc, ◌+◌, ◌-◌, ◌*◌, ◌%◌, ◌^◌, ◌==◌, nat_lt, if◌then◌else◌, Bool, true, false, List, [], ◌∷◌, Option, Some, None, ℤ, pos, negsuc}
use Rattle.t1_insn.specs.declared.operand.Src.{Src}
use Rattle.t1_insn.specs.declared.operand.Src.TheVariants.{Reg, Imm}
use Rattle.t1_insn.specs.declared.operand.Mem.{Mem}
use Rattle.t1_insn.specs.declared.operand.Mem.TheVariants.{Plain, Alt, AltReg}
use Rattle.t1_insn.specs.declared.operation.LoadKind.{LoadKind}
use Rattle.t1_insn.specs.declared.operation.StoreKind.{StoreKind}
use Rattle.t1_insn.specs.Ranges.{is_register_condition, is_read_asr, is_write_asr, is_read_privileged, is_hyperprivileged, is_write_privileged}
use Rattle.t1_decode.specs.Forms.{is_twin_load, is_twin_store}

-- a field at its lowest bit, and the fields below it
abbrev pub joined : ℕ → Option ℕ → Option ℕ → Option ℕ
joined low None rest = None
joined low (Some bits) None = None
joined low (Some bits) (Some rest) = Some (bits * 2 ^ low + rest)

-- the word of these fields, each with its lowest bit; what is named by none of them is 0
abbrev pub word_of : List (ℕ × Option ℕ) → Option ℕ
word_of [] = Some 0
word_of (field ∷ fields) = joined field.0 field.1 (word_of fields)

-- n, where it is one of those that a field may hold
abbrev pub allowed : Bool → ℕ → Option ℕ
allowed test n = if test then Some n else None

-- a number of k bits
unfoldable pub number_bits : ℕ → ℕ → Option ℕ
number_bits k n = allowed (nat_lt n (2 ^ k)) n

-- a signed number of k bits, as its two's complement
unfoldable pub signed_bits : ℕ → ℤ → Option ℕ
signed_bits k (pos n) = allowed (nat_lt n (2 ^ (k - 1))) n
signed_bits k (negsuc n) = allowed (nat_lt n (2 ^ (k - 1))) (2 ^ k - suc n)

-- an immediate that is a number of k bits
unfoldable pub unsigned_bits : ℕ → ℤ → Option ℕ
unsigned_bits k (pos n) = number_bits k n
unsigned_bits k (negsuc n) = None

abbrev pub flag_bits : Bool → ℕ
flag_bits false = 0
flag_bits true = 1

-- icc, or xcc (wide)
abbrev pub codes_bits : Bool → ℕ
codes_bits false = 0
codes_bits true = 2

unfoldable pub register_condition_bits : ℕ → Option ℕ
register_condition_bits rcond = allowed (is_register_condition rcond) rcond

-- the state registers that are read and written
unfoldable pub read_asr_bits : ℕ → Option ℕ
read_asr_bits asr = allowed (is_read_asr asr) asr

unfoldable pub write_asr_bits : ℕ → Option ℕ
write_asr_bits asr = allowed (is_write_asr asr) asr

unfoldable pub read_privileged_bits : ℕ → Option ℕ
read_privileged_bits reg = allowed (is_read_privileged reg) reg

unfoldable pub hyper_bits : ℕ → Option ℕ
hyper_bits reg = allowed (is_hyperprivileged reg) reg

unfoldable pub write_privileged_bits : ℕ → Option ℕ
write_privileged_bits reg = allowed (is_write_privileged reg) reg

-- i and the second operand: rs2, or an immediate of k signed bits
unfoldable pub source_bits : ℕ → Src → Option ℕ
source_bits k (Reg rs2) = number_bits 5 rs2
source_bits k (Imm imm) = word_of ((13, Some 1) ∷ (0, signed_bits k imm) ∷ [])

-- i and the second operand: rs2, or an immediate that is a number of k bits
unfoldable pub number_source_bits : ℕ → Src → Option ℕ
number_source_bits k (Reg rs2) = number_bits 5 rs2
number_source_bits k (Imm imm) = word_of ((13, Some 1) ∷ (0, unsigned_bits k imm) ∷ [])

-- i and the count of a shift
abbrev pub count_bits : Bool → Src → Option ℕ
count_bits true src = number_source_bits 6 src
count_bits false src = number_source_bits 5 src

-- i, imm_asi and the second operand of an access
unfoldable pub mem_bits : Mem → Option ℕ
mem_bits (Plain src) = source_bits 13 src
mem_bits (Alt rs2 asi) = word_of ((5, number_bits 8 asi) ∷ (0, number_bits 5 rs2) ∷ [])
mem_bits (AltReg imm) = source_bits 13 (Imm imm)

-- i, imm_asi and rs2 of a compare and swap
unfoldable pub space_bits : ℕ → Option ℕ → Option ℕ
space_bits rs2 (Some asi) = word_of ((5, number_bits 8 asi) ∷ (0, number_bits 5 rs2) ∷ [])
space_bits rs2 None = word_of ((13, Some 1) ∷ (0, number_bits 5 rs2) ∷ [])

-- the register of an access: the first of two is even
abbrev pub register_bits : Bool → ℕ → Option ℕ
register_bits true rd = if rd % 2 == 0 then number_bits 5 rd else None
register_bits false rd = number_bits 5 rd

unfoldable pub load_register_bits : LoadKind → ℕ → Option ℕ
load_register_bits kind rd = register_bits (is_twin_load kind) rd

unfoldable pub store_register_bits : StoreKind → ℕ → Option ℕ
store_register_bits kind rd = register_bits (is_twin_store kind) rd
