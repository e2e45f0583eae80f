-- Guests that are drawn from a seed.
use Rattle.std.specs.Prelude.{ℕ, zero, suc, ◌+◌, ◌*◌, ◌/◌, ◌%◌, ◌==◌, if◌then◌else◌, false, List, [], ◌∷◌, ◌++◌, unwrap_or, pos}
use Rattle.rand_xoshiro.specs.SplitMix64.{mix_u64}
use Rattle.t1_num.specs.Memory.{with_number_at}
use Rattle.t1_insn.specs.declared.operand.Src.TheVariants.{Imm}
use Rattle.t1_insn.specs.declared.operand.Mem.{Mem}
use Rattle.t1_insn.specs.declared.operand.Mem.TheVariants.{Plain}
use Rattle.t1_insn.specs.declared.operation.AluOp.TheVariants.{Add, Xor}
use Rattle.t1_insn.specs.declared.operation.LoadKind.TheVariants as load
use Rattle.t1_insn.specs.declared.operation.StoreKind.TheVariants as store
use Rattle.t1_insn.specs.declared.instruction.Insn.{Insn}
use Rattle.t1_insn.specs.declared.instruction.Insn.TheVariants.{Alu, Load, Store, Swap, Membar, Sethi, WriteAsr}
use Rattle.t1_encode.specs.Words.{encoded}
use Rattle.t1_elf.specs.declared.object.Object.{Object}
use Rattle.t1_elf.specs.Images.{zeros_of}

-- the places that all strands share begin at this address, which is in %l0
abbrev pub base_register : ℕ
base_register = 16

-- one of 64 places of 8 bytes there, by its offset in bytes
abbrev pub offset_of : ℕ → ℕ
offset_of word = 8 * (word / 8 % 64)

-- one of the registers %g1 to %g4
abbrev pub register_of : ℕ → ℕ
register_of word = 1 + word / 512 % 4

-- a number below 2,048
abbrev pub number_of : ℕ → ℕ
number_of word = word / 4096 % 2048

abbrev pub place_of : ℕ → Mem
place_of word = Plain (Imm (pos (offset_of word)))

-- the instruction that a drawn word gives, by its lowest three bits
unfoldable pub insn_of_draw : ℕ → Insn
insn_of_draw word =
    if word % 8 == 0 then Alu Add false (register_of word) (register_of word) (Imm (pos (number_of word))) else
    if word % 8 == 1 then Alu Xor false (register_of word) (register_of word) (Imm (pos (number_of word))) else
    if word % 8 == 2 then Load load.X (register_of word) base_register (place_of word) else
    if word % 8 == 3 then Store store.X (register_of word) base_register (place_of word) else
    if word % 8 == 4 then Load load.Ub (register_of word) base_register (place_of word) else
    if word % 8 == 5 then Store store.B (register_of word) base_register (place_of word) else
    if word % 8 == 6 then Swap (register_of word) base_register (place_of word) else
    Membar 2

-- the instructions of so many words, drawn one after another from a state of the generator
unfoldable pub insns_from : ℕ → ℕ → List Insn
insns_from state zero = []
insns_from state (suc n) = insn_of_draw (mix_u64 state).0 ∷ insns_from (mix_u64 state).1 n

-- `sethi %hi(0x8000), %l0`
abbrev pub first_insn : Insn
first_insn = Sethi base_register (0x8000 / 1024)

-- `wr %g0, 0, %asr26`, which halts the strand
abbrev pub last_insn : Insn
last_insn = WriteAsr 26 0 (Imm (pos 0))

-- the instructions of a guest
abbrev pub guest_insns : ℕ → ℕ → List Insn
guest_insns seed size = first_insn ∷ (insns_from seed size ++ last_insn ∷ [])

-- the four bytes of an instruction's word
unfoldable pub bytes_of_insn : Insn → List ℕ
bytes_of_insn insn = with_number_at (zeros_of 4) 0 4 (unwrap_or (encoded insn) 0)

-- the bytes of instructions, one after another
unfoldable pub code_of : List Insn → List ℕ
code_of [] = []
code_of (insn ∷ insns) = bytes_of_insn insn ++ code_of insns

-- where a guest begins
abbrev pub start : ℕ
start = 0x1000

-- a guest: one chunk, at whose beginning each strand starts
abbrev pub generated : ℕ → ℕ → Object
generated seed size = record { entry = start; chunks = (record { addr = start; bytes = code_of (guest_insns seed size); zeros = 0 }) ∷ [] }
