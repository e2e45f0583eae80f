-- A value in its range has bits.
use Rattle.std.proofs.Common.{ℕ, suc, ◌-◌, ◌^◌, ◌<◌, ◌≤◌, [], ◌∷◌, Bool, true, false, refl, arith, ℤ, pos, negsuc, nat_lt}
use Rattle.std.specs.Prelude.{Option, Some, None, IsSome, IsTrue, option_map}
use Rattle.std.proofs.lemmas.Bool.Decides.{Decides-ltb}
use Rattle.std.proofs.lemmas.Int.{ints}
use Rattle.std.proofs.lemmas.Nat.{pow_pos}
use Rattle.t1_insn.specs.Ranges.{IsSigned, IsSignedSource, IsUnsigned, IsNumberSource, IsCount, IsMem, IsSpace, IsLoadRegister, IsStoreRegister, has_form, is_register_condition, is_read_asr, is_write_asr, is_read_privileged, is_hyperprivileged, is_write_privileged}
use Rattle.t1_insn.specs.declared.operand.Src.{Src}
use Rattle.t1_insn.specs.declared.operand.Src.TheVariants.{Reg, Imm}
use Rattle.t1_insn.specs.declared.operand.Mem.{Mem}
use Rattle.t1_insn.specs.declared.operand.Mem.TheVariants.{Plain, Alt, AltReg}
use Rattle.t1_insn.specs.declared.operation.AluOp.{AluOp}
use Rattle.t1_insn.specs.declared.operation.AluOp.TheVariants as alu
use Rattle.t1_insn.specs.declared.operation.LoadKind.{LoadKind}
use Rattle.t1_insn.specs.declared.operation.LoadKind.TheVariants as load
use Rattle.t1_insn.specs.declared.operation.StoreKind.{StoreKind}
use Rattle.t1_insn.specs.declared.operation.StoreKind.TheVariants as store
use Rattle.t1_encode.specs.Fields.{number_bits, signed_bits, unsigned_bits, source_bits, number_source_bits, count_bits, mem_bits, space_bits, load_register_bits, store_register_bits, register_condition_bits, read_asr_bits, write_asr_bits, read_privileged_bits, hyper_bits, write_privileged_bits}
use Rattle.t1_encode.specs.Numbers.{alu_number}
use Rattle.t1_encode.proofs.Parts.{word_some, allowed_some}

pub number_some : (k n : ℕ) → n < 2 ^ k → IsSome (number_bits k n)
unfolding number_bits
number_some k n h = allowed_some (nat_lt n (2 ^ k)) n ((Decides-ltb n (2 ^ k)).1 h)

pub signed_some : (k : ℕ) (z : ℤ) → IsSigned k z → IsSome (signed_bits k z)
unfolding signed_bits
signed_some k (pos n) h =
    let half : 0 < 2 ^ (k - 1) = pow_pos (k - 1) in
    let most : n ≤ 2 ^ (k - 1) - 1 = omega (arith, ints, h.1) in
    allowed_some (nat_lt n (2 ^ (k - 1))) n ((Decides-ltb n (2 ^ (k - 1))).1 (omega arith))
signed_some k (negsuc n) h =
    let half : 0 < 2 ^ (k - 1) = pow_pos (k - 1) in
    let most : n ≤ 2 ^ (k - 1) - 1 = omega (arith, ints, h.0) in
    allowed_some (nat_lt n (2 ^ (k - 1))) (2 ^ k - suc n) ((Decides-ltb n (2 ^ (k - 1))).1 (omega arith))

unsigned_some : (k : ℕ) (z : ℤ) → IsUnsigned k z → IsSome (unsigned_bits k z)
unfolding unsigned_bits
unsigned_some k (pos n) h =
    let all : 0 < 2 ^ k = pow_pos k in
    let most : n ≤ 2 ^ k - 1 = omega (arith, ints, h.1) in
    number_some k n (omega arith)
unsigned_some k (negsuc n) h = absurd (omega (arith, ints, h.0))

pub source_some : (k : ℕ) (src : Src) → IsSignedSource k src → IsSome (source_bits k src)
unfolding source_bits
source_some k (Reg r) h = number_some 5 r h
source_some k (Imm z) h = word_some ((13, Some 1) ∷ (0, signed_bits k z) ∷ []) (refl, (signed_some k z h, tt))

pub number_source_some : (k : ℕ) (src : Src) → IsNumberSource k src → IsSome (number_source_bits k src)
unfolding number_source_bits
number_source_some k (Reg r) h = number_some 5 r h
number_source_some k (Imm z) h = word_some ((13, Some 1) ∷ (0, unsigned_bits k z) ∷ []) (refl, (unsigned_some k z h, tt))

pub count_some : (wide : Bool) (src : Src) → IsCount wide src → IsSome (count_bits wide src)
count_some true src h = number_source_some 6 src h
count_some false src h = number_source_some 5 src h

pub mem_some : (mem : Mem) → IsMem mem → IsSome (mem_bits mem)
unfolding mem_bits
mem_some (Plain src) h = source_some 13 src h
mem_some (Alt rs2 asi) h = word_some ((5, number_bits 8 asi) ∷ (0, number_bits 5 rs2) ∷ []) (number_some 8 asi h.1, (number_some 5 rs2 h.0, tt))
mem_some (AltReg imm) h = source_some 13 (Imm imm) h

pub space_some : (rs2 : ℕ) (asi : Option ℕ) → rs2 < 32 → IsSpace asi → IsSome (space_bits rs2 asi)
unfolding space_bits
space_some rs2 (Some asi) h k = word_some ((5, number_bits 8 asi) ∷ (0, number_bits 5 rs2) ∷ []) (number_some 8 asi k, (number_some 5 rs2 h, tt))
space_some rs2 None h k = word_some ((13, Some 1) ∷ (0, number_bits 5 rs2) ∷ []) (refl, (number_some 5 rs2 h, tt))

pub load_register_some : (kind : LoadKind) (rd : ℕ) → IsLoadRegister kind rd → rd < 32 → IsSome (load_register_bits kind rd)
unfolding load_register_bits
load_register_some load.Tw rd h l = rw h (number_some 5 rd l)
load_register_some _ rd h l = number_some 5 rd l

pub store_register_some : (kind : StoreKind) (rd : ℕ) → IsStoreRegister kind rd → rd < 32 → IsSome (store_register_bits kind rd)
unfolding store_register_bits
store_register_some store.Tw rd h l = rw h (number_some 5 rd l)
store_register_some _ rd h l = number_some 5 rd l

pub alu_number_some : (op : AluOp) (cc : Bool) → IsTrue (has_form op cc) → IsSome (alu_number op cc)
unfolding alu_number
alu_number_some alu.Add true h = h
alu_number_some alu.Add false h = h
alu_number_some _ true h = h
alu_number_some _ false h = h

pub register_condition_some : (n : ℕ) → IsTrue (is_register_condition n) → IsSome (register_condition_bits n)
unfolding register_condition_bits
register_condition_some n h = allowed_some (is_register_condition n) n h

pub read_asr_some : (n : ℕ) → IsTrue (is_read_asr n) → IsSome (read_asr_bits n)
unfolding read_asr_bits
read_asr_some n h = allowed_some (is_read_asr n) n h

pub write_asr_some : (n : ℕ) → IsTrue (is_write_asr n) → IsSome (write_asr_bits n)
unfolding write_asr_bits
write_asr_some n h = allowed_some (is_write_asr n) n h

pub read_privileged_some : (n : ℕ) → IsTrue (is_read_privileged n) → IsSome (read_privileged_bits n)
unfolding read_privileged_bits
read_privileged_some n h = allowed_some (is_read_privileged n) n h

pub hyper_some : (n : ℕ) → IsTrue (is_hyperprivileged n) → IsSome (hyper_bits n)
unfolding hyper_bits
hyper_some n h = allowed_some (is_hyperprivileged n) n h

pub write_privileged_some : (n : ℕ) → IsTrue (is_write_privileged n) → IsSome (write_privileged_bits n)
unfolding write_privileged_bits
write_privileged_some n h = allowed_some (is_write_privileged n) n h

pub mapped_some : (o : Option ℕ) (f : ℕ → ℕ) → IsSome o → IsSome (option_map f o)
mapped_some None f h = h
mapped_some (Some n) f h = h
