-- The words of op 3 are decoded again.
use Rattle.std.proofs.Common.{◌≡◌, ℕ, ◌+◌, ◌*◌, ◌/◌, ◌%◌, ◌^◌, ◌<◌, ◌==◌, ◌&&◌, [], ◌∷◌, Bool, true, false, refl, ◌∙◌, arith, ℤ}
use Rattle.std.specs.Prelude.{if◌then◌else◌, Option, Some, None, IfSome}
use Rattle.std.proofs.lemmas.Bool.Decides.{nat_tests}
use Rattle.t1_insn.specs.declared.operand.Src.TheVariants.{Reg, Imm}
use Rattle.t1_insn.specs.declared.operand.Mem.{Mem}
use Rattle.t1_insn.specs.declared.operand.Mem.TheVariants.{Plain, Alt, AltReg}
use Rattle.t1_insn.specs.declared.operation.LoadKind.{LoadKind}
use Rattle.t1_insn.specs.declared.operation.LoadKind.TheVariants as load
use Rattle.t1_insn.specs.declared.operation.StoreKind.{StoreKind}
use Rattle.t1_insn.specs.declared.operation.StoreKind.TheVariants as store
use Rattle.t1_insn.specs.declared.instruction.Insn.{Insn}
use Rattle.t1_insn.specs.declared.instruction.Insn.TheVariants.{Illegal, Load, Store, Ldstub, Swap, Prefetch, Cas}
use Rattle.t1_insn.specs.Ranges.{IsMem, IsSpace, IsLoadRegister, IsStoreRegister}
use Rattle.t1_decode.specs.Fields.{rd_of, rs1_of, source_of, signed_of, signed_source_of, alternate_of, space_of}
use Rattle.t1_decode.specs.Forms.{is_twin_load, is_twin_store, load_of, store_of, cas_of}
use Rattle.t1_decode.specs.Words.{insn_of, memory_of, plain_access_of, alternate_access_of, other_access_of}
use Rattle.t1_encode.specs.Fields.{number_bits, mem_bits, space_bits, load_register_bits, store_register_bits}
use Rattle.t1_encode.specs.Numbers.{load_number, store_number, access_number}
use Rattle.t1_encode.specs.Words.{cas_number}
use Rattle.t1_encode.proofs.Parts.{word_holds}
use Rattle.t1_encode.proofs.Bits.{number_holds, source_holds, width_13}
use Rattle.t1_encode.proofs.Pictures.{IsFormat3, op_3, source_low, alternate_low, space_low}

-- the operand of an access is that of these bits
abbrev pub IsMemAt : Mem → ℕ → Type 0
IsMemAt (Plain src) low = signed_source_of 13 low ≡ src
IsMemAt mem low = alternate_of low ≡ mem

-- op3 n, and 10 hex above it, make such an access of rd, rs1 and the operand
pub record Makes (n : ℕ) (make : ℕ → ℕ → Mem → Insn) : Type 0 where
  pub plain : (word : ℕ) → memory_of word n ≡ make (rd_of word) (rs1_of word) (Plain (source_of word))
  pub alternate : (word : ℕ) → memory_of word (0x10 + n) ≡ make (rd_of word) (rs1_of word) (alternate_of word)

pub access_again : (n rd rs1 low word : ℕ) (mem : Mem) (make : ℕ → ℕ → Mem → Insn) → Makes n make
    → IsFormat3 3 rd (access_number mem n) rs1 low word → IsMemAt mem low → insn_of word ≡ make rd rs1 mem
access_again n rd rs1 low word (Plain src) make m f e =
    op_3 word n f.op f.op3 ∙ m.plain word ∙ rw (f.rd, f.rs1, source_low word low f.low, e) refl
access_again n rd rs1 low word (Alt rs2 asi) make m f e =
    op_3 word (0x10 + n) f.op f.op3 ∙ m.alternate word ∙ rw (f.rd, f.rs1, alternate_low word low f.low, e) refl
access_again n rd rs1 low word (AltReg imm) make m f e =
    op_3 word (0x10 + n) f.op f.op3 ∙ m.alternate word ∙ rw (f.rd, f.rs1, alternate_low word low f.low, e) refl

-- loads and stores, but of an odd pair
abbrev pub loaded : LoadKind → ℕ → ℕ → Mem → Insn
loaded kind rd rs1 mem = if is_twin_load kind && (rd % 2 == 1) then Illegal else Load kind rd rs1 mem

pub load_makes : (kind : LoadKind) → Makes (load_number kind) (loaded kind)
unfolding memory_of plain_access_of alternate_access_of load_number load_of
load_makes load.Uw = record { plain = λ word. refl; alternate = λ word. refl }
load_makes _ = record { plain = λ word. refl; alternate = λ word. refl }

abbrev pub stored : StoreKind → ℕ → ℕ → Mem → Insn
stored kind rd rs1 mem = if is_twin_store kind && (rd % 2 == 1) then Illegal else Store kind rd rs1 mem

pub store_makes : (kind : StoreKind) → Makes (store_number kind) (stored kind)
unfolding memory_of plain_access_of alternate_access_of store_number store_of
store_makes store.W = record { plain = λ word. refl; alternate = λ word. refl }
store_makes _ = record { plain = λ word. refl; alternate = λ word. refl }

pub ldstub_makes : Makes 0x0d Ldstub
unfolding memory_of plain_access_of alternate_access_of
ldstub_makes = record { plain = λ word. refl; alternate = λ word. refl }

pub swap_makes : Makes 0x0f Swap
unfolding memory_of plain_access_of alternate_access_of
swap_makes = record { plain = λ word. refl; alternate = λ word. refl }

pub prefetch_makes : Makes 0x2d Prefetch
unfolding memory_of other_access_of
prefetch_makes = record { plain = λ word. refl; alternate = λ word. refl }

-- the first register of two
even_holds : (even : Bool) (register : Option ℕ) (P : ℕ → Type 0) → (even ≡ true → IfSome register P) → IfSome (if even then register else None) P
even_holds true register P h = h refl
even_holds false register P h = tt

pub load_register_holds : (kind : LoadKind) (rd : ℕ) (P : ℕ → Type 0)
    → (rd < 32 → (is_twin_load kind && (rd % 2 == 1)) ≡ false → IsLoadRegister kind rd → P rd) → IfSome (load_register_bits kind rd) P
unfolding load_register_bits
load_register_holds load.Tw rd P h = even_holds (rd % 2 == 0) (number_bits 5 rd) P (λ t. number_holds 5 rd P (λ l.
    let even : rd % 2 ≡ 0 = grind (arith, nat_tests) in
    h l (rw even refl) even))
load_register_holds _ rd P h = number_holds 5 rd P (λ l. h l refl tt)

pub store_register_holds : (kind : StoreKind) (rd : ℕ) (P : ℕ → Type 0)
    → (rd < 32 → (is_twin_store kind && (rd % 2 == 1)) ≡ false → IsStoreRegister kind rd → P rd) → IfSome (store_register_bits kind rd) P
unfolding store_register_bits
store_register_holds store.Tw rd P h = even_holds (rd % 2 == 0) (number_bits 5 rd) P (λ t. number_holds 5 rd P (λ l.
    let even : rd % 2 ≡ 0 = grind (arith, nat_tests) in
    h l (rw even refl) even))
store_register_holds _ rd P h = number_holds 5 rd P (λ l. h l refl tt)

-- operands
space_and_register : (rs2 asi : ℕ) → rs2 < 32 → asi < 256 → alternate_of (asi * 2 ^ 5 + (rs2 * 2 ^ 0 + 0)) ≡ Alt rs2 asi
unfolding alternate_of
space_and_register rs2 asi h k =
    let i : (asi * 2 ^ 5 + (rs2 * 2 ^ 0 + 0)) / 2 ^ 13 % 2 ≡ 0 = omega arith in
    let r : (asi * 2 ^ 5 + (rs2 * 2 ^ 0 + 0)) / 2 ^ 0 % 2 ^ 5 ≡ rs2 = omega arith in
    let a : (asi * 2 ^ 5 + (rs2 * 2 ^ 0 + 0)) / 2 ^ 5 % 2 ^ 8 ≡ asi = omega arith in
    rw (i, r, a) refl

alternate_immediate : (low : ℕ) (imm : ℤ) → signed_source_of 13 low ≡ Imm imm → alternate_of low ≡ AltReg imm
unfolding signed_source_of alternate_of
alternate_immediate low imm e = chosen (low / 2 ^ 13 % 2 == 1) (signed_of 13 (low / 2 ^ 0 % 2 ^ 13)) (low / 2 ^ 0 % 2 ^ 5) e
  where
    chosen : (i : Bool) (z : ℤ) (r : ℕ) → (if i then Imm z else Reg r) ≡ Imm imm → (if i then AltReg z else Alt r (low / 2 ^ 5 % 2 ^ 8)) ≡ AltReg imm
    chosen true z r h = cc
    chosen false z r h = cc

pub mem_holds : (mem : Mem) (P : ℕ → Type 0) → ((low : ℕ) → low < 2 ^ 14 → IsMemAt mem low → IsMem mem → P low) → IfSome (mem_bits mem) P
unfolding mem_bits
mem_holds (Plain src) P h = source_holds 13 width_13 src P (λ low o e r. h low (omega (arith, o.i)) e r)
mem_holds (Alt rs2 asi) P h =
    word_holds ((5, number_bits 8 asi) ∷ (0, number_bits 5 rs2) ∷ []) P (number_holds 8 asi _ (λ a. number_holds 5 rs2 _ (λ r.
    h (asi * 2 ^ 5 + (rs2 * 2 ^ 0 + 0)) (omega arith) (space_and_register rs2 asi r a) (r, a))))
mem_holds (AltReg imm) P h =
    source_holds 13 width_13 (Imm imm) P (λ low o e r. h low (omega (arith, o.i)) (alternate_immediate low imm e) r)

-- compare and swap
pub space_holds : (rs2 : ℕ) (asi : Option ℕ) (P : ℕ → Type 0)
    → ((low : ℕ) → low < 2 ^ 14 → low / 2 ^ 0 % 2 ^ 5 ≡ rs2 → space_of low ≡ asi → rs2 < 32 → IsSpace asi → P low) → IfSome (space_bits rs2 asi) P
unfolding space_bits space_of
space_holds rs2 (Some asi) P h =
    word_holds ((5, number_bits 8 asi) ∷ (0, number_bits 5 rs2) ∷ []) P (number_holds 8 asi _ (λ a. number_holds 5 rs2 _ (λ r.
    let i : (asi * 2 ^ 5 + (rs2 * 2 ^ 0 + 0)) / 2 ^ 13 % 2 ≡ 0 = omega arith in
    let n : (asi * 2 ^ 5 + (rs2 * 2 ^ 0 + 0)) / 2 ^ 5 % 2 ^ 8 ≡ asi = omega arith in
    h (asi * 2 ^ 5 + (rs2 * 2 ^ 0 + 0)) (omega arith) (omega arith) (rw (i, n) refl) r a)))
space_holds rs2 None P h =
    word_holds ((13, Some 1) ∷ (0, number_bits 5 rs2) ∷ []) P (number_holds 5 rs2 _ (λ r.
    let i : (1 * 2 ^ 13 + (rs2 * 2 ^ 0 + 0)) / 2 ^ 13 % 2 ≡ 1 = omega arith in
    h (1 * 2 ^ 13 + (rs2 * 2 ^ 0 + 0)) (omega arith) (omega arith) (rw i refl) r tt))

pub cas_again : (wide : Bool) (rd rs1 rs2 low word : ℕ) (asi : Option ℕ) → low / 2 ^ 0 % 2 ^ 5 ≡ rs2 → space_of low ≡ asi
    → IsFormat3 3 rd (cas_number wide) rs1 low word → insn_of word ≡ Cas wide rd rs1 rs2 asi
unfolding memory_of other_access_of cas_of
cas_again true rd rs1 rs2 low word asi r e f =
    let register : word / 2 ^ 0 % 2 ^ 5 ≡ rs2 = omega (arith, f.low) in
    op_3 word 0x3e f.op f.op3 ∙ rw (f.rd, f.rs1, register, space_low word low f.low, e) refl
cas_again false rd rs1 rs2 low word asi r e f =
    let register : word / 2 ^ 0 % 2 ^ 5 ≡ rs2 = omega (arith, f.low) in
    op_3 word 0x3c f.op f.op3 ∙ rw (f.rd, f.rs1, register, space_low word low f.low, e) refl
