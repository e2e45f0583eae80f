-- The laws of encoding.
use Rattle.std.proofs.Common.{◌≡◌, ℕ, ◌+◌, ◌*◌, ◌/◌, ◌%◌, ◌^◌, ◌<◌, [], ◌∷◌, Bool, true, false, refl, ◌∙◌, arith, ℤ}
use Rattle.std.specs.Prelude.{Option, Some, None, IfSome, IsSome, option_map}
use Rattle.std.proofs.lemmas.Option.{IfSome_then}
use Rattle.t1_insn.specs.declared.operand.Mem.{Mem}
use Rattle.t1_insn.specs.declared.operand.Mem.TheVariants.{Plain, Alt, AltReg}
use Rattle.t1_insn.specs.declared.operation.ShiftOp.{ShiftOp}
use Rattle.t1_insn.specs.declared.operation.ShiftOp.TheVariants.{Sll, Srl, Sra}
use Rattle.t1_insn.specs.declared.operation.LoadKind.{LoadKind}
use Rattle.t1_insn.specs.declared.operation.LoadKind.TheVariants as load
use Rattle.t1_insn.specs.declared.operation.StoreKind.{StoreKind}
use Rattle.t1_insn.specs.declared.operation.StoreKind.TheVariants as store
use Rattle.t1_insn.specs.declared.instruction.Insn.{Insn}
use Rattle.t1_insn.specs.declared.instruction.Insn.TheVariants.{Illegal, FpOff, Stbar, Flushw, Saved, Restored, Done, Retry, Bpcc, Bicc, Bpr, Sethi, Call, Membar, Alu, Shift, ReadAsr, WriteAsr, ReadPr, WritePr, ReadHpr, WriteHpr, Movcc, Movr, Jmpl, Return, Flush, Trap, Save, Restore, Load, Store, Ldstub, Swap, Prefetch, Cas}
use Rattle.t1_insn.specs.Ranges.{IsInRange, IsSigned}
use Rattle.t1_decode.specs.Fields.{signed_of}
use Rattle.t1_decode.specs.Words.{insn_of, branch_of, arithmetic_of, control_of}
use Rattle.t1_encode.specs.Fields.{number_bits, signed_bits, flag_bits, codes_bits, register_condition_bits}
use Rattle.t1_encode.specs.Numbers.{alu_number, shift_number, load_number, store_number, access_number}
use Rattle.t1_encode.specs.Words.{fields_of, encoded, cas_number}
use Rattle.t1_encode.specs.Laws.{IsDecodedAgain, HasWordInRange, IsOfWordSize}
use Rattle.t1_encode.proofs.Parts.{HoldsOf, word_holds, AreSome, word_some}
use Rattle.t1_encode.proofs.Bits.{IsOperand, number_holds, signed_holds, source_holds, number_source_holds, register_condition_holds, read_asr_holds, write_asr_holds, read_privileged_holds, hyper_holds, write_privileged_holds, width_5, width_6, width_8, width_10, width_11, width_13}
use Rattle.t1_encode.proofs.Pictures.{IsFormat3, format_3_fields}
use Rattle.t1_encode.proofs.Branches.{bicc_again, bpcc_again, bpr_again, sethi_again, call_again}
use Rattle.t1_encode.proofs.Control.{operands_again, alu_number_row, alu_makes, jmpl_makes, return_makes, flush_makes, save_makes, restore_makes, read_asr_again, read_privileged_again, read_hyper_again, write_hyper_again, write_asr_again, write_privileged_again, membar_again, stbar_again, flushw_again, saved_again, restored_again, done_again, retry_again, wide_shift_again, narrow_shift_again, movcc_again, movr_again, trap_again}
use Rattle.t1_encode.proofs.Accesses.{loaded, stored, access_again, load_makes, store_makes, ldstub_makes, swap_makes, prefetch_makes, load_register_holds, store_register_holds, mem_holds, space_holds, cas_again}
use Rattle.t1_encode.proofs.Ranges.{number_some, signed_some, source_some, number_source_some, count_some, mem_some, space_some, load_register_some, store_register_some, alu_number_some, register_condition_some, read_asr_some, write_asr_some, read_privileged_some, hyper_some, write_privileged_some, mapped_some}

-- the word stands for the instruction, whose fields are in their ranges
record IsWordOf (insn : Insn) (word : ℕ) : Type 0 where
  again : insn_of word ≡ insn
  range : IsInRange insn
  size : word < 2 ^ 32

illegal_again : insn_of 0 ≡ Illegal
unfolding insn_of branch_of
illegal_again = refl

fp_off_again : insn_of 0x81a00000 ≡ FpOff
unfolding insn_of arithmetic_of control_of
fp_off_again = refl

-- the word of a format 3
format : (o d n s l : ℕ) → o < 4 → d < 32 → n < 64 → s < 32 → l < 2 ^ 14
    → IsFormat3 o d n s l (o * 2 ^ 30 + (d * 2 ^ 25 + (n * 2 ^ 19 + (s * 2 ^ 14 + (l * 2 ^ 0 + 0)))))
format o d n s l a b c e f = format_3_fields o d n s l _ a b c e f (omega arith)

operand_small : (k low : ℕ) → IsOperand k low → low < 2 ^ 14
operand_small k low o = omega (arith, o.i)

shift_small : (op : ShiftOp) → shift_number op < 64
shift_small Sll = omega arith
shift_small Srl = omega arith
shift_small Sra = omega arith

load_small : (kind : LoadKind) → load_number kind < 48
unfolding load_number
load_small load.Uw = omega arith
load_small _ = omega arith

store_small : (kind : StoreKind) → store_number kind < 48
unfolding store_number
store_small store.W = omega arith
store_small _ = omega arith

access_small : (mem : Mem) (n : ℕ) → n < 48 → access_number mem n < 64
access_small (Plain src) n h = omega arith
access_small (Alt rs2 asi) n h = omega arith
access_small (AltReg imm) n h = omega arith

cas_small : (wide : Bool) → cas_number wide < 64
cas_small true = omega arith
cas_small false = omega arith

flag_small : (b : Bool) → flag_bits b < 2
flag_small true = omega arith
flag_small false = omega arith

codes_small : (wide : Bool) → codes_bits wide < 4
codes_small true = omega arith
codes_small false = omega arith

-- the two parts of the displacement of a branch on a register are of one number
bpr_holds : (rcond rs1 : ℕ) (annul taken : Bool) (disp : ℤ) (field : Option ℕ)
    → IfSome field (λ bits. (bits < 2 ^ 16) × (signed_of 16 bits ≡ disp) × IsSigned 16 disp)
    → HoldsOf ((30, Some 0) ∷ (29, Some (flag_bits annul)) ∷ (25, register_condition_bits rcond) ∷ (22, Some 3) ∷ (20, option_map (λ bits. bits / 2 ^ 14) field)
    ∷ (19, Some (flag_bits taken)) ∷ (14, number_bits 5 rs1) ∷ (0, option_map (λ bits. bits % 2 ^ 14) field) ∷ []) (IsWordOf (Bpr rcond annul taken rs1 disp))
bpr_holds rcond rs1 annul taken disp None h = register_condition_holds rcond _ (λ c t. tt)
bpr_holds rcond rs1 annul taken disp (Some bits) h =
    register_condition_holds rcond _ (λ c t. number_holds 5 rs1 _ (λ g.
    let b : bits < 2 ^ 16 = h.0 in
    let annuls : flag_bits annul < 2 = flag_small annul in
    let predicts : flag_bits taken < 2 = flag_small taken in
    record { again = bpr_again rcond rs1 bits _ annul taken disp c t g b h.1 (omega arith); range = (t, g, h.2); size = omega arith }))

fields_hold : (insn : Insn) → HoldsOf (fields_of insn) (IsWordOf insn)
unfolding fields_of
fields_hold Illegal = record { again = illegal_again; range = tt; size = omega arith }
fields_hold FpOff = record { again = fp_off_again; range = tt; size = omega arith }
fields_hold Stbar = record { again = stbar_again; range = tt; size = omega arith }
fields_hold Flushw = record { again = flushw_again; range = tt; size = omega arith }
fields_hold Saved = record { again = saved_again; range = tt; size = omega arith }
fields_hold Restored = record { again = restored_again; range = tt; size = omega arith }
fields_hold Done = record { again = done_again; range = tt; size = omega arith }
fields_hold Retry = record { again = retry_again; range = tt; size = omega arith }
fields_hold (Alu op cc rd rs1 src) =
    number_holds 5 rd _ (λ h. IfSome_then (alu_number op cc) (alu_number_row op cc) (λ n a. number_holds 5 rs1 _ (λ g. source_holds 13 width_13 src _ (λ low o e r.
    let f = format 2 rd n rs1 low (omega arith) h a.small g (operand_small 13 low o) in
    record { again = operands_again n rd rs1 low _ src (Alu op cc) (alu_makes n op cc a.row) f e; range = (a.form, (h, g, r)); size = f.size }))))
fields_hold (Jmpl rd rs1 src) =
    number_holds 5 rd _ (λ h. number_holds 5 rs1 _ (λ g. source_holds 13 width_13 src _ (λ low o e r.
    let f = format 2 rd 0x38 rs1 low (omega arith) h (omega arith) g (operand_small 13 low o) in
    record { again = operands_again 0x38 rd rs1 low _ src Jmpl jmpl_makes f e; range = (h, g, r); size = f.size })))
fields_hold (Save rd rs1 src) =
    number_holds 5 rd _ (λ h. number_holds 5 rs1 _ (λ g. source_holds 13 width_13 src _ (λ low o e r.
    let f = format 2 rd 0x3c rs1 low (omega arith) h (omega arith) g (operand_small 13 low o) in
    record { again = operands_again 0x3c rd rs1 low _ src Save save_makes f e; range = (h, g, r); size = f.size })))
fields_hold (Restore rd rs1 src) =
    number_holds 5 rd _ (λ h. number_holds 5 rs1 _ (λ g. source_holds 13 width_13 src _ (λ low o e r.
    let f = format 2 rd 0x3d rs1 low (omega arith) h (omega arith) g (operand_small 13 low o) in
    record { again = operands_again 0x3d rd rs1 low _ src Restore restore_makes f e; range = (h, g, r); size = f.size })))
fields_hold (Return rs1 src) =
    number_holds 5 rs1 _ (λ g. source_holds 13 width_13 src _ (λ low o e r.
    let f = format 2 0 0x39 rs1 low (omega arith) (omega arith) (omega arith) g (operand_small 13 low o) in
    record { again = operands_again 0x39 0 rs1 low _ src (λ rd rs1 src. Return rs1 src) return_makes f e; range = (g, r); size = f.size }))
fields_hold (Flush rs1 src) =
    number_holds 5 rs1 _ (λ g. source_holds 13 width_13 src _ (λ low o e r.
    let f = format 2 0 0x3b rs1 low (omega arith) (omega arith) (omega arith) g (operand_small 13 low o) in
    record { again = operands_again 0x3b 0 rs1 low _ src (λ rd rs1 src. Flush rs1 src) flush_makes f e; range = (g, r); size = f.size }))
fields_hold (ReadAsr asr rd) =
    number_holds 5 rd _ (λ h. read_asr_holds asr _ (λ g t.
    let f = format 2 rd 0x28 asr 0 (omega arith) h (omega arith) g (omega arith) in
    record { again = read_asr_again asr rd _ f t; range = (t, h); size = f.size }))
fields_hold (ReadPr reg rd) =
    number_holds 5 rd _ (λ h. read_privileged_holds reg _ (λ g t.
    let f = format 2 rd 0x2a reg 0 (omega arith) h (omega arith) g (omega arith) in
    record { again = read_privileged_again reg rd _ f t; range = (t, h); size = f.size }))
fields_hold (ReadHpr reg rd) =
    number_holds 5 rd _ (λ h. hyper_holds reg _ (λ g t.
    let f = format 2 rd 0x29 reg 0 (omega arith) h (omega arith) g (omega arith) in
    record { again = read_hyper_again reg rd _ f t; range = (t, h); size = f.size }))
fields_hold (WriteAsr asr rs1 src) =
    write_asr_holds asr _ (λ h t. number_holds 5 rs1 _ (λ g. source_holds 13 width_13 src _ (λ low o e r.
    let f = format 2 asr 0x30 rs1 low (omega arith) h (omega arith) g (operand_small 13 low o) in
    record { again = write_asr_again asr rs1 low _ src f t e; range = (t, (g, r)); size = f.size })))
fields_hold (WritePr reg rs1 src) =
    write_privileged_holds reg _ (λ h t. number_holds 5 rs1 _ (λ g. source_holds 13 width_13 src _ (λ low o e r.
    let f = format 2 reg 0x32 rs1 low (omega arith) h (omega arith) g (operand_small 13 low o) in
    record { again = write_privileged_again reg rs1 low _ src f t e; range = (t, (g, r)); size = f.size })))
fields_hold (WriteHpr reg rs1 src) =
    hyper_holds reg _ (λ h t. number_holds 5 rs1 _ (λ g. source_holds 13 width_13 src _ (λ low o e r.
    let f = format 2 reg 0x33 rs1 low (omega arith) h (omega arith) g (operand_small 13 low o) in
    record { again = write_hyper_again reg rs1 low _ src f t e; range = (t, (g, r)); size = f.size })))
fields_hold (Membar mask) =
    number_holds 7 mask _ (λ h.
    let f = format_3_fields 2 0 0x28 15 (1 * 2 ^ 13 + (mask * 2 ^ 0 + 0)) _ (omega arith) (omega arith) (omega arith) (omega arith) (omega arith) (omega arith) in
    record { again = membar_again mask _ h f; range = h; size = f.size })
fields_hold (Shift op true rd rs1 src) =
    number_holds 5 rd _ (λ h. number_holds 5 rs1 _ (λ g. number_source_holds 6 width_6 src _ (λ low o e r.
    let f = format_3_fields 2 rd (shift_number op) rs1 (2 ^ 12 + low) _ (omega arith) h (shift_small op) g (omega (arith, o.i, o.bits)) (omega arith) in
    record { again = wide_shift_again op rd rs1 low _ src o f e; range = (h, g, r); size = f.size })))
fields_hold (Shift op false rd rs1 src) =
    number_holds 5 rd _ (λ h. number_holds 5 rs1 _ (λ g. number_source_holds 5 width_5 src _ (λ low o e r.
    let f = format_3_fields 2 rd (shift_number op) rs1 low _ (omega arith) h (shift_small op) g (operand_small 5 low o) (omega arith) in
    record { again = narrow_shift_again op rd rs1 low _ src o f e; range = (h, g, r); size = f.size })))
fields_hold (Movcc cond wide rd src) =
    number_holds 5 rd _ (λ h. number_holds 4 cond _ (λ g. source_holds 11 width_11 src _ (λ low o e r.
    let c : codes_bits wide < 4 = codes_small wide in
    let f = format_3_fields 2 rd 0x2c (16 + cond) (codes_bits wide * 2 ^ 11 + low) _ (omega arith) h (omega arith) (omega arith) (omega (arith, o.i, o.bits)) (omega arith) in
    record { again = movcc_again cond rd low _ wide src g o f e; range = (g, h, r); size = f.size })))
fields_hold (Movr rcond rd rs1 src) =
    number_holds 5 rd _ (λ h. number_holds 5 rs1 _ (λ g. register_condition_holds rcond _ (λ c t. source_holds 10 width_10 src _ (λ low o e r.
    let f = format_3_fields 2 rd 0x2f rs1 (rcond * 2 ^ 10 + low) _ (omega arith) h (omega arith) g (omega (arith, o.i, o.bits)) (omega arith) in
    record { again = movr_again rcond rd rs1 low _ src c t o f e; range = (t, h, g, r); size = f.size }))))
fields_hold (Trap cond wide rs1 src) =
    number_holds 4 cond _ (λ h. number_holds 5 rs1 _ (λ g. number_source_holds 8 width_8 src _ (λ low o e r.
    let c : codes_bits wide < 4 = codes_small wide in
    let f = format_3_fields 2 cond 0x3a rs1 (codes_bits wide * 2 ^ 11 + low) _ (omega arith) (omega arith) (omega arith) g (omega (arith, o.i, o.bits)) (omega arith) in
    record { again = trap_again cond rs1 low _ wide src h o f e; range = (h, g, r); size = f.size })))
fields_hold (Bpcc cond annul wide taken disp) =
    number_holds 4 cond _ (λ h. signed_holds 19 disp _ (omega arith) (λ bits b e range.
    let a : flag_bits annul < 2 = flag_small annul in
    let c : codes_bits wide < 4 = codes_small wide in
    let t : flag_bits taken < 2 = flag_small taken in
    record { again = bpcc_again cond bits _ annul wide taken disp h b e (omega arith); range = (h, range); size = omega arith }))
fields_hold (Bicc cond annul disp) =
    number_holds 4 cond _ (λ h. signed_holds 22 disp _ (omega arith) (λ bits b e range.
    let a : flag_bits annul < 2 = flag_small annul in
    record { again = bicc_again cond bits _ annul disp h b e (omega arith); range = (h, range); size = omega arith }))
fields_hold (Bpr rcond annul taken rs1 disp) =
    bpr_holds rcond rs1 annul taken disp (signed_bits 16 disp) (signed_holds 16 disp _ (omega arith) (λ bits b e range. (b, e, range)))
fields_hold (Sethi rd imm) =
    number_holds 5 rd _ (λ h. number_holds 22 imm _ (λ g.
    record { again = sethi_again rd imm _ h g (omega arith); range = (h, g); size = omega arith }))
fields_hold (Call disp) =
    signed_holds 30 disp _ (omega arith) (λ bits b e range.
    record { again = call_again bits _ disp b e (omega arith); range = range; size = omega arith })
fields_hold (Load kind rd rs1 mem) =
    load_register_holds kind rd _ (λ h t even. number_holds 5 rs1 _ (λ g. mem_holds mem _ (λ low l e m.
    let f = format 3 rd (access_number mem (load_number kind)) rs1 low (omega arith) h (access_small mem (load_number kind) (load_small kind)) g l in
    record { again = access_again (load_number kind) rd rs1 low _ mem (loaded kind) (load_makes kind) f e ∙ rw t refl; range = (even, (h, g, m)); size = f.size })))
fields_hold (Store kind rd rs1 mem) =
    store_register_holds kind rd _ (λ h t even. number_holds 5 rs1 _ (λ g. mem_holds mem _ (λ low l e m.
    let f = format 3 rd (access_number mem (store_number kind)) rs1 low (omega arith) h (access_small mem (store_number kind) (store_small kind)) g l in
    record { again = access_again (store_number kind) rd rs1 low _ mem (stored kind) (store_makes kind) f e ∙ rw t refl; range = (even, (h, g, m)); size = f.size })))
fields_hold (Ldstub rd rs1 mem) =
    number_holds 5 rd _ (λ h. number_holds 5 rs1 _ (λ g. mem_holds mem _ (λ low l e m.
    let f = format 3 rd (access_number mem 0x0d) rs1 low (omega arith) h (access_small mem 0x0d (omega arith)) g l in
    record { again = access_again 0x0d rd rs1 low _ mem Ldstub ldstub_makes f e; range = (h, g, m); size = f.size })))
fields_hold (Swap rd rs1 mem) =
    number_holds 5 rd _ (λ h. number_holds 5 rs1 _ (λ g. mem_holds mem _ (λ low l e m.
    let f = format 3 rd (access_number mem 0x0f) rs1 low (omega arith) h (access_small mem 0x0f (omega arith)) g l in
    record { again = access_again 0x0f rd rs1 low _ mem Swap swap_makes f e; range = (h, g, m); size = f.size })))
fields_hold (Prefetch fcn rs1 mem) =
    number_holds 5 fcn _ (λ h. number_holds 5 rs1 _ (λ g. mem_holds mem _ (λ low l e m.
    let f = format 3 fcn (access_number mem 0x2d) rs1 low (omega arith) h (access_small mem 0x2d (omega arith)) g l in
    record { again = access_again 0x2d fcn rs1 low _ mem Prefetch prefetch_makes f e; range = (h, g, m); size = f.size })))
fields_hold (Cas wide rd rs1 rs2 asi) =
    number_holds 5 rd _ (λ h. number_holds 5 rs1 _ (λ g. space_holds rs2 asi _ (λ low l e s k m.
    let f = format 3 rd (cas_number wide) rs1 low (omega arith) h (cas_small wide) g l in
    record { again = cas_again wide rd rs1 rs2 low _ asi e s f; range = (h, g, k, m); size = f.size })))

pub again : IsDecodedAgain
unfolding encoded
again insn = IfSome_then (encoded insn) (word_holds (fields_of insn) (IsWordOf insn) (fields_hold insn)) (λ word h. h.again)

pub word_small : IsOfWordSize
unfolding encoded
word_small insn = IfSome_then (encoded insn) (word_holds (fields_of insn) (IsWordOf insn) (fields_hold insn)) (λ word h. h.size)

fields_some : (insn : Insn) → IsInRange insn → AreSome (fields_of insn)
unfolding fields_of
fields_some Illegal h = tt
fields_some FpOff h = (refl, (refl, tt))
fields_some (Bpcc cond annul wide taken disp) h = (refl, (refl, (number_some 4 cond h.0, (refl, (refl, (refl, (signed_some 19 disp h.1, tt)))))))
fields_some (Bicc cond annul disp) h = (refl, (refl, (number_some 4 cond h.0, (refl, (signed_some 22 disp h.1, tt)))))
fields_some (Bpr rcond annul taken rs1 disp) h = (refl, (refl, (register_condition_some rcond h.0, (refl, (mapped_some (signed_bits 16 disp) (λ bits. bits / 2 ^ 14) (signed_some 16 disp h.2), (refl, (number_some 5 rs1 h.1, (mapped_some (signed_bits 16 disp) (λ bits. bits % 2 ^ 14) (signed_some 16 disp h.2), tt))))))))
fields_some (Sethi rd imm) h = (refl, (number_some 5 rd h.0, (refl, (number_some 22 imm h.1, tt))))
fields_some (Call disp) h = (refl, (signed_some 30 disp h, tt))
fields_some (Alu op cc rd rs1 src) h = (refl, (number_some 5 rd h.1.0, (alu_number_some op cc h.0, (number_some 5 rs1 h.1.1, (source_some 13 src h.1.2, tt)))))
fields_some (Shift op wide rd rs1 src) h = (refl, (number_some 5 rd h.0, (refl, (number_some 5 rs1 h.1, (refl, (count_some wide src h.2, tt))))))
fields_some (ReadAsr asr rd) h = (refl, (number_some 5 rd h.1, (refl, (read_asr_some asr h.0, (refl, tt)))))
fields_some (Membar mask) h = (refl, (refl, (refl, (refl, (refl, (number_some 7 mask h, tt))))))
fields_some Stbar h = (refl, (refl, (refl, (refl, (refl, tt)))))
fields_some (ReadPr reg rd) h = (refl, (number_some 5 rd h.1, (refl, (read_privileged_some reg h.0, (refl, tt)))))
fields_some (ReadHpr reg rd) h = (refl, (number_some 5 rd h.1, (refl, (hyper_some reg h.0, (refl, tt)))))
fields_some Flushw h = (refl, (refl, (refl, (refl, (refl, tt)))))
fields_some (Movcc cond wide rd src) h = (refl, (number_some 5 rd h.1, (refl, (refl, (number_some 4 cond h.0, (refl, (source_some 11 src h.2, tt)))))))
fields_some (Movr rcond rd rs1 src) h = (refl, (number_some 5 rd h.1, (refl, (number_some 5 rs1 h.2, (register_condition_some rcond h.0, (source_some 10 src h.3, tt))))))
fields_some (WriteAsr asr rs1 src) h = (refl, (write_asr_some asr h.0, (refl, (number_some 5 rs1 h.1.0, (source_some 13 src h.1.1, tt)))))
fields_some Saved h = (refl, (refl, (refl, (refl, (refl, tt)))))
fields_some Restored h = (refl, (refl, (refl, (refl, (refl, tt)))))
fields_some (WritePr reg rs1 src) h = (refl, (write_privileged_some reg h.0, (refl, (number_some 5 rs1 h.1.0, (source_some 13 src h.1.1, tt)))))
fields_some (WriteHpr reg rs1 src) h = (refl, (hyper_some reg h.0, (refl, (number_some 5 rs1 h.1.0, (source_some 13 src h.1.1, tt)))))
fields_some (Jmpl rd rs1 src) h = (refl, (number_some 5 rd h.0, (refl, (number_some 5 rs1 h.1, (source_some 13 src h.2, tt)))))
fields_some (Save rd rs1 src) h = (refl, (number_some 5 rd h.0, (refl, (number_some 5 rs1 h.1, (source_some 13 src h.2, tt)))))
fields_some (Restore rd rs1 src) h = (refl, (number_some 5 rd h.0, (refl, (number_some 5 rs1 h.1, (source_some 13 src h.2, tt)))))
fields_some (Return rs1 src) h = (refl, (refl, (refl, (number_some 5 rs1 h.0, (source_some 13 src h.1, tt)))))
fields_some (Flush rs1 src) h = (refl, (refl, (refl, (number_some 5 rs1 h.0, (source_some 13 src h.1, tt)))))
fields_some (Trap cond wide rs1 src) h = (refl, (number_some 4 cond h.0, (refl, (number_some 5 rs1 h.1, (refl, (number_source_some 8 src h.2, tt))))))
fields_some Done h = (refl, (refl, (refl, (refl, (refl, tt)))))
fields_some Retry h = (refl, (refl, (refl, (refl, (refl, tt)))))
fields_some (Load kind rd rs1 mem) h = (refl, (load_register_some kind rd h.0 h.1.0, (refl, (number_some 5 rs1 h.1.1, (mem_some mem h.1.2, tt)))))
fields_some (Store kind rd rs1 mem) h = (refl, (store_register_some kind rd h.0 h.1.0, (refl, (number_some 5 rs1 h.1.1, (mem_some mem h.1.2, tt)))))
fields_some (Ldstub rd rs1 mem) h = (refl, (number_some 5 rd h.0, (refl, (number_some 5 rs1 h.1, (mem_some mem h.2, tt)))))
fields_some (Swap rd rs1 mem) h = (refl, (number_some 5 rd h.0, (refl, (number_some 5 rs1 h.1, (mem_some mem h.2, tt)))))
fields_some (Prefetch fcn rs1 mem) h = (refl, (number_some 5 fcn h.0, (refl, (number_some 5 rs1 h.1, (mem_some mem h.2, tt)))))
fields_some (Cas wide rd rs1 rs2 asi) h = (refl, (number_some 5 rd h.0, (refl, (number_some 5 rs1 h.1, (space_some rs2 asi h.2 h.3, tt)))))

from_some : (field : Option ℕ) (P : Type 0) → IfSome field (λ bits. P) → IsSome field → P
from_some None P h k = absurd (absent k)
  where
    absent : false ≡ true → ⊥
    absent e = cc
from_some (Some bits) P h k = h

pub encoded_in_range : HasWordInRange
unfolding encoded
encoded_in_range insn = (
  from_some (encoded insn) (IsInRange insn) (IfSome_then (encoded insn) (word_holds (fields_of insn) (IsWordOf insn) (fields_hold insn)) (λ word h. h.range)),
  λ h. word_some (fields_of insn) (fields_some insn h),
)
