-- The word of each instruction, as the pictures of the formats have it: the fields from high to low,
-- each at its lowest bit. Reserved bits are 0 (SPARC V9, appendices A and E, and UltraSPARC Architecture 2005).
use Rattle.std.specs.Prelude.{ℕ, ◌/◌, ◌%◌, ◌^◌, List, [], ◌∷◌, Bool, true, false, Option, Some, option_map}
use Rattle.t1_insn.specs.declared.instruction.Insn.{Insn}
use Rattle.t1_insn.specs.declared.instruction.Insn.TheVariants.{Illegal, FpOff, Stbar, Flushw, Saved, Restored, Done, Retry, Bpcc, Bicc, Bpr, Sethi, Call, Membar, Alu, Shift, ReadAsr, WriteAsr, ReadPr, ReadHpr, WritePr, WriteHpr, Movcc, Movr, Jmpl, Return, Flush, Trap, Save, Restore, Load, Store, Ldstub, Swap, Prefetch, Cas}
use Rattle.t1_encode.specs.Fields.{word_of, number_bits, signed_bits, flag_bits, codes_bits, register_condition_bits, read_asr_bits, write_asr_bits, read_privileged_bits, hyper_bits, write_privileged_bits, source_bits, number_source_bits, count_bits, mem_bits, space_bits, load_register_bits, store_register_bits}
use Rattle.t1_encode.specs.Numbers.{alu_number, shift_number, load_number, store_number, access_number}

-- format 3: op, rd, op3, rs1, and from bit 13 down the second operand
abbrev pub format_3 : ℕ → Option ℕ → Option ℕ → Option ℕ → Option ℕ → List (ℕ × Option ℕ)
format_3 op rd op3 rs1 operand = (30, Some op) ∷ (25, rd) ∷ (19, op3) ∷ (14, rs1) ∷ (0, operand) ∷ []

-- the number of the compare and swap
abbrev pub cas_number : Bool → ℕ
cas_number false = 0x3c
cas_number true = 0x3e

-- the fields of an instruction
unfoldable pub fields_of : Insn → List (ℕ × Option ℕ)
fields_of Illegal = []
fields_of FpOff = (30, Some 2) ∷ (19, Some 0x34) ∷ []
fields_of (Bpcc cond annul wide taken disp) = (30, Some 0) ∷ (29, Some (flag_bits annul)) ∷ (25, number_bits 4 cond) ∷ (22, Some 1) ∷ (20, Some (codes_bits wide)) ∷ (19, Some (flag_bits taken)) ∷ (0, signed_bits 19 disp) ∷ []
fields_of (Bicc cond annul disp) = (30, Some 0) ∷ (29, Some (flag_bits annul)) ∷ (25, number_bits 4 cond) ∷ (22, Some 2) ∷ (0, signed_bits 22 disp) ∷ []
fields_of (Bpr rcond annul taken rs1 disp) = (30, Some 0) ∷ (29, Some (flag_bits annul)) ∷ (25, register_condition_bits rcond) ∷ (22, Some 3) ∷ (20, option_map (λ bits. bits / 2 ^ 14) (signed_bits 16 disp)) ∷ (19, Some (flag_bits taken)) ∷ (14, number_bits 5 rs1) ∷ (0, option_map (λ bits. bits % 2 ^ 14) (signed_bits 16 disp)) ∷ []
fields_of (Sethi rd imm) = (30, Some 0) ∷ (25, number_bits 5 rd) ∷ (22, Some 4) ∷ (0, number_bits 22 imm) ∷ []
fields_of (Call disp) = (30, Some 1) ∷ (0, signed_bits 30 disp) ∷ []
fields_of (Alu op cc rd rs1 src) = format_3 2 (number_bits 5 rd) (alu_number op cc) (number_bits 5 rs1) (source_bits 13 src)
fields_of (Shift op wide rd rs1 src) = (30, Some 2) ∷ (25, number_bits 5 rd) ∷ (19, Some (shift_number op)) ∷ (14, number_bits 5 rs1) ∷ (12, Some (flag_bits wide)) ∷ (0, count_bits wide src) ∷ []
fields_of (ReadAsr asr rd) = format_3 2 (number_bits 5 rd) (Some 0x28) (read_asr_bits asr) (Some 0)
fields_of (Membar mask) = (30, Some 2) ∷ (25, Some 0) ∷ (19, Some 0x28) ∷ (14, Some 15) ∷ (13, Some 1) ∷ (0, number_bits 7 mask) ∷ []
fields_of Stbar = format_3 2 (Some 0) (Some 0x28) (Some 15) (Some 0)
fields_of (ReadPr reg rd) = format_3 2 (number_bits 5 rd) (Some 0x2a) (read_privileged_bits reg) (Some 0)
fields_of (ReadHpr reg rd) = format_3 2 (number_bits 5 rd) (Some 0x29) (hyper_bits reg) (Some 0)
fields_of Flushw = format_3 2 (Some 0) (Some 0x2b) (Some 0) (Some 0)
fields_of (Movcc cond wide rd src) = (30, Some 2) ∷ (25, number_bits 5 rd) ∷ (19, Some 0x2c) ∷ (18, Some 1) ∷ (14, number_bits 4 cond) ∷ (11, Some (codes_bits wide)) ∷ (0, source_bits 11 src) ∷ []
fields_of (Movr rcond rd rs1 src) = (30, Some 2) ∷ (25, number_bits 5 rd) ∷ (19, Some 0x2f) ∷ (14, number_bits 5 rs1) ∷ (10, register_condition_bits rcond) ∷ (0, source_bits 10 src) ∷ []
fields_of (WriteAsr asr rs1 src) = format_3 2 (write_asr_bits asr) (Some 0x30) (number_bits 5 rs1) (source_bits 13 src)
fields_of Saved = format_3 2 (Some 0) (Some 0x31) (Some 0) (Some 0)
fields_of Restored = format_3 2 (Some 1) (Some 0x31) (Some 0) (Some 0)
fields_of (WritePr reg rs1 src) = format_3 2 (write_privileged_bits reg) (Some 0x32) (number_bits 5 rs1) (source_bits 13 src)
fields_of (WriteHpr reg rs1 src) = format_3 2 (hyper_bits reg) (Some 0x33) (number_bits 5 rs1) (source_bits 13 src)
fields_of (Jmpl rd rs1 src) = format_3 2 (number_bits 5 rd) (Some 0x38) (number_bits 5 rs1) (source_bits 13 src)
fields_of (Return rs1 src) = format_3 2 (Some 0) (Some 0x39) (number_bits 5 rs1) (source_bits 13 src)
fields_of (Trap cond wide rs1 src) = (30, Some 2) ∷ (25, number_bits 4 cond) ∷ (19, Some 0x3a) ∷ (14, number_bits 5 rs1) ∷ (11, Some (codes_bits wide)) ∷ (0, number_source_bits 8 src) ∷ []
fields_of (Flush rs1 src) = format_3 2 (Some 0) (Some 0x3b) (number_bits 5 rs1) (source_bits 13 src)
fields_of (Save rd rs1 src) = format_3 2 (number_bits 5 rd) (Some 0x3c) (number_bits 5 rs1) (source_bits 13 src)
fields_of (Restore rd rs1 src) = format_3 2 (number_bits 5 rd) (Some 0x3d) (number_bits 5 rs1) (source_bits 13 src)
fields_of Done = format_3 2 (Some 0) (Some 0x3e) (Some 0) (Some 0)
fields_of Retry = format_3 2 (Some 1) (Some 0x3e) (Some 0) (Some 0)
fields_of (Load kind rd rs1 mem) = format_3 3 (load_register_bits kind rd) (Some (access_number mem (load_number kind))) (number_bits 5 rs1) (mem_bits mem)
fields_of (Store kind rd rs1 mem) = format_3 3 (store_register_bits kind rd) (Some (access_number mem (store_number kind))) (number_bits 5 rs1) (mem_bits mem)
fields_of (Ldstub rd rs1 mem) = format_3 3 (number_bits 5 rd) (Some (access_number mem 0x0d)) (number_bits 5 rs1) (mem_bits mem)
fields_of (Swap rd rs1 mem) = format_3 3 (number_bits 5 rd) (Some (access_number mem 0x0f)) (number_bits 5 rs1) (mem_bits mem)
fields_of (Prefetch fcn rs1 mem) = format_3 3 (number_bits 5 fcn) (Some (access_number mem 0x2d)) (number_bits 5 rs1) (mem_bits mem)
fields_of (Cas wide rd rs1 rs2 asi) = format_3 3 (number_bits 5 rd) (Some (cas_number wide)) (number_bits 5 rs1) (space_bits rs2 asi)

-- the word of an instruction; None where a field is out of its range
unfoldable pub encoded : Insn → Option ℕ
encoded insn = word_of (fields_of insn)
