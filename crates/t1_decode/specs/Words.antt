-- The word table: the instruction of each word, by op, then op2 or op3 (SPARC V9, appendix E, and
-- UltraSPARC Architecture 2005). A number that stands in no row is Illegal; reserved bits are not looked at.
use Rattle.std.specs.Prelude.{ℕ, ◌==◌, nat_lt, if◌then◌else◌, List, [], ◌∷◌}
use Rattle.t1_num.specs.Fields.{field_of}
use Rattle.t1_insn.specs.declared.operation.ShiftOp.TheVariants.{Sll, Srl, Sra}
use Rattle.t1_insn.specs.declared.operand.Mem.{Mem}
use Rattle.t1_insn.specs.declared.operand.Mem.TheVariants.{Plain}
use Rattle.t1_insn.specs.declared.instruction.Insn.{Insn}
use Rattle.t1_insn.specs.declared.instruction.Insn.TheVariants.{Illegal, FpOff, Flushw, Bicc, Sethi, Call, Alu, Jmpl, Return, Flush, Save, Restore}
use Rattle.t1_decode.specs.Fields.{is_set, signed_of, rd_of, rs1_of, cond_of, source_of, alternate_of}
use Rattle.t1_decode.specs.Rows.{row_of, moved, or_else}
use Rattle.t1_decode.specs.AluTable.{alu_rows}
use Rattle.t1_decode.specs.Forms.{bpcc_of, bpr_of, shift_of, read_asr_of, read_privileged_of, read_hyper_of, movcc_of, movr_of, write_asr_of, write_privileged_of, write_hyper_of, saved_of, done_of, trap_of}
use Rattle.t1_decode.specs.MemoryTable.{access_rows, other_access_rows}

-- op 0, by op2
abbrev pub op2_rows : List (ℕ × (ℕ → Insn))
op2_rows =
    (0, λ word. Illegal) ∷
    (1, bpcc_of) ∷
    (2, λ word. Bicc (cond_of word) (is_set word 29) (signed_of 22 (field_of word 21 0))) ∷
    (3, bpr_of) ∷
    (4, λ word. Sethi (rd_of word) (field_of word 21 0)) ∷
    (5, λ word. FpOff) ∷
    (6, λ word. FpOff) ∷
    (7, λ word. Illegal) ∷
    []

-- op 2, by op3, but for arithmetic
abbrev pub control_rows : List (ℕ × (ℕ → Insn))
control_rows =
    (0x25, shift_of Sll) ∷
    (0x26, shift_of Srl) ∷
    (0x27, shift_of Sra) ∷
    (0x28, read_asr_of) ∷
    (0x29, read_hyper_of) ∷
    (0x2a, read_privileged_of) ∷
    (0x2b, λ word. Flushw) ∷
    (0x2c, movcc_of) ∷
    (0x2f, movr_of) ∷
    (0x30, write_asr_of) ∷
    (0x31, saved_of) ∷
    (0x32, write_privileged_of) ∷
    (0x33, write_hyper_of) ∷
    (0x34, λ word. FpOff) ∷
    (0x35, λ word. FpOff) ∷
    (0x38, λ word. Jmpl (rd_of word) (rs1_of word) (source_of word)) ∷
    (0x39, λ word. Return (rs1_of word) (source_of word)) ∷
    (0x3a, trap_of) ∷
    (0x3b, λ word. Flush (rs1_of word) (source_of word)) ∷
    (0x3c, λ word. Save (rd_of word) (rs1_of word) (source_of word)) ∷
    (0x3d, λ word. Restore (rd_of word) (rs1_of word) (source_of word)) ∷
    (0x3e, done_of) ∷
    []

-- the instruction of a row, or Illegal
abbrev pub in_table : ℕ → List (ℕ × (ℕ → Insn)) → ℕ → Insn
in_table number rows word = or_else (row_of number rows) (λ form. form word) Illegal

unfoldable pub branch_of : ℕ → Insn
branch_of word = in_table (field_of word 24 22) op2_rows word

-- control and state
unfoldable pub control_of : ℕ → ℕ → Insn
control_of word op3 = in_table op3 control_rows word

-- op 2
unfoldable pub arithmetic_of : ℕ → ℕ → Insn
arithmetic_of word op3 =
    or_else (row_of op3 alu_rows) (λ row. Alu row.0 row.1 (rd_of word) (rs1_of word) (source_of word))
    (control_of word op3)

-- the access of a row with its operand, or Illegal
abbrev pub in_accesses : ℕ → List (ℕ × (ℕ → Mem → Insn)) → ℕ → Mem → Insn
in_accesses number rows word mem = or_else (row_of number rows) (λ access. access word mem) Illegal

unfoldable pub plain_access_of : ℕ → ℕ → Insn
plain_access_of word op3 = in_accesses op3 access_rows word (Plain (source_of word))

-- the alternate forms stand 10 hex above the plain ones
unfoldable pub alternate_access_of : ℕ → ℕ → Insn
alternate_access_of word op3 = in_accesses op3 (moved 0x10 access_rows) word (alternate_of word)

unfoldable pub other_access_of : ℕ → ℕ → Insn
other_access_of word op3 = in_table op3 other_access_rows word

-- op 3
unfoldable pub memory_of : ℕ → ℕ → Insn
memory_of word op3 =
    if nat_lt op3 0x10 then plain_access_of word op3 else
    if nat_lt op3 0x20 then alternate_access_of word op3 else
    other_access_of word op3

-- the instruction of a word
unfoldable pub insn_of : ℕ → Insn
insn_of word =
    let op = field_of word 31 30 in
    let op3 = field_of word 24 19 in
    if op == 0 then branch_of word else
    if op == 1 then Call (signed_of 30 (field_of word 29 0)) else
    if op == 2 then arithmetic_of word op3 else
    memory_of word op3
