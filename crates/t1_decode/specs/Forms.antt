-- The instructions whose forms look at more than op, op2 and op3.
use Rattle.std.specs.Prelude.{ℕ, ◌+◌, ◌*◌, ◌%◌, ◌^◌, List, [], ◌∷◌, ◌==◌, ◌&&◌, not, if◌then◌else◌, Bool, true, false}
use Rattle.t1_num.specs.Fields.{field_of}
use Rattle.t1_insn.specs.Ranges.{is_register_condition, is_read_asr, is_write_asr, is_read_privileged, is_hyperprivileged, is_write_privileged}
use Rattle.t1_insn.specs.declared.operation.ShiftOp.{ShiftOp}
use Rattle.t1_insn.specs.declared.operand.Mem.{Mem}
use Rattle.t1_insn.specs.declared.operation.LoadKind.{LoadKind}
use Rattle.t1_insn.specs.declared.operation.LoadKind.TheVariants as load
use Rattle.t1_insn.specs.declared.operation.StoreKind.{StoreKind}
use Rattle.t1_insn.specs.declared.operation.StoreKind.TheVariants as store
use Rattle.t1_insn.specs.declared.instruction.Insn.{Insn}
use Rattle.t1_insn.specs.declared.instruction.Insn.TheVariants.{Illegal, FpOff, Stbar, Saved, Restored, Done, Retry, Bpcc, Bpr, Membar, Shift, ReadAsr, WriteAsr, ReadPr, ReadHpr, WritePr, WriteHpr, Movcc, Movr, Trap, Load, Store, Cas}
use Rattle.t1_decode.specs.Fields.{is_set, signed_of, rd_of, rs1_of, rs2_of, cond_of, space_of, signed_source_of, number_source_of, source_of}
use Rattle.t1_decode.specs.Rows.{row_of, or_else}

-- which condition codes two bits name: icc, or xcc (wide)
abbrev pub codes_rows : List (ℕ × Bool)
codes_rows = (0, false) ∷ (2, true) ∷ []

-- branch on condition codes with prediction (A.7)
unfoldable pub bpcc_of : ℕ → Insn
bpcc_of word =
    or_else (row_of (field_of word 21 20) codes_rows)
    (λ wide. Bpcc (cond_of word) (is_set word 29) wide (is_set word 19) (signed_of 19 (field_of word 18 0)))
    Illegal

-- branch on a register with prediction (A.3): the displacement stands in two fields
unfoldable pub bpr_of : ℕ → Insn
bpr_of word =
    if not (is_set word 28) && is_register_condition (field_of word 27 25)
    then Bpr (field_of word 27 25) (is_set word 29) (is_set word 19) (rs1_of word) (signed_of 16 (field_of word 21 20 * 2 ^ 14 + field_of word 13 0))
    else Illegal

-- shift (A.49): the count has 6 bits where wide, else 5
unfoldable pub shift_of : ShiftOp → ℕ → Insn
shift_of op word =
    Shift op (is_set word 12) (rd_of word) (rs1_of word)
    (if is_set word 12 then number_source_of 6 word else number_source_of 5 word)

-- read an ancillary state register (A.44); rs1 15 with rd 0 is a memory barrier (A.32) or a store barrier (A.51)
unfoldable pub read_asr_of : ℕ → Insn
read_asr_of word =
    if is_read_asr (rs1_of word) then ReadAsr (rs1_of word) (rd_of word) else
    if (rs1_of word == 0x0f) && (rd_of word == 0) then (if is_set word 13 then Membar (field_of word 6 0) else Stbar) else
    Illegal

-- read a privileged register (A.43)
unfoldable pub read_privileged_of : ℕ → Insn
read_privileged_of word = if is_read_privileged (rs1_of word) then ReadPr (rs1_of word) (rd_of word) else Illegal

-- read a hyperprivileged register (A.43)
unfoldable pub read_hyper_of : ℕ → Insn
read_hyper_of word = if is_hyperprivileged (rs1_of word) then ReadHpr (rs1_of word) (rd_of word) else Illegal

-- move on condition codes (A.35): where bit 18 is 0, on those of the floating-point unit
unfoldable pub movcc_of : ℕ → Insn
movcc_of word =
    if is_set word 18
    then or_else (row_of (field_of word 12 11) codes_rows) (λ wide. Movcc (field_of word 17 14) wide (rd_of word) (signed_source_of 11 word)) Illegal
    else FpOff

-- move on a register (A.36)
unfoldable pub movr_of : ℕ → Insn
movr_of word =
    if is_register_condition (field_of word 12 10)
    then Movr (field_of word 12 10) (rd_of word) (rs1_of word) (signed_source_of 10 word)
    else Illegal

-- write an ancillary state register (A.63)
unfoldable pub write_asr_of : ℕ → Insn
write_asr_of word = if is_write_asr (rd_of word) then WriteAsr (rd_of word) (rs1_of word) (source_of word) else Illegal

-- write a privileged register (A.62)
unfoldable pub write_privileged_of : ℕ → Insn
write_privileged_of word = if is_write_privileged (rd_of word) then WritePr (rd_of word) (rs1_of word) (source_of word) else Illegal

-- write a hyperprivileged register (A.62)
unfoldable pub write_hyper_of : ℕ → Insn
write_hyper_of word = if is_hyperprivileged (rd_of word) then WriteHpr (rd_of word) (rs1_of word) (source_of word) else Illegal

-- the instruction that rd chooses: saved and restored (A.47), done and retry (A.11)
unfoldable pub saved_of : ℕ → Insn
saved_of word = or_else (row_of (rd_of word) ((0, Saved) ∷ (1, Restored) ∷ [])) (λ insn. insn) Illegal

unfoldable pub done_of : ℕ → Insn
done_of word = or_else (row_of (rd_of word) ((0, Done) ∷ (1, Retry) ∷ [])) (λ insn. insn) Illegal

-- trap on condition codes (A.61)
unfoldable pub trap_of : ℕ → Insn
trap_of word =
    or_else (row_of (field_of word 12 11) codes_rows)
    (λ wide. Trap (cond_of word) wide (rs1_of word) (number_source_of 8 word))
    Illegal

-- an access of two registers
abbrev pub is_twin_load : LoadKind → Bool
is_twin_load load.Tw = true
is_twin_load _ = false

abbrev pub is_twin_store : StoreKind → Bool
is_twin_store store.Tw = true
is_twin_store _ = false

-- load integer (A.27, A.28): the first register of two is even
unfoldable pub load_of : LoadKind → ℕ → Mem → Insn
load_of kind word mem =
    if is_twin_load kind && (rd_of word % 2 == 1) then Illegal else Load kind (rd_of word) (rs1_of word) mem

-- store integer (A.54, A.55), likewise
unfoldable pub store_of : StoreKind → ℕ → Mem → Insn
store_of kind word mem =
    if is_twin_store kind && (rd_of word % 2 == 1) then Illegal else Store kind (rd_of word) (rs1_of word) mem

-- compare and swap (A.9)
unfoldable pub cas_of : Bool → ℕ → Insn
cas_of wide word = Cas wide (rd_of word) (rs1_of word) (rs2_of word) (space_of word)
