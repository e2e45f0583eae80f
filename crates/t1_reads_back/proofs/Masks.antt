-- The mask of a membar that a word decodes to has 7 bits.
use Rattle.std.proofs.Common.{ℕ, ◌%◌, ◌<◌, ◌==◌, ◌&&◌, not, nat_lt, inl, inr, Bool, true, false, if◌then◌else◌, List, [], ◌∷◌, Option, Some, None, arith}
use Rattle.std.proofs.lemmas.Bool.{cases_Bool}
use Rattle.t1_num.specs.Fields.{field_of}
use Rattle.t1_insn.specs.Ranges.{is_register_condition, is_read_asr, is_write_asr, is_read_privileged, is_write_privileged, is_hyperprivileged}
use Rattle.t1_insn.specs.declared.operand.Mem.{Mem}
use Rattle.t1_insn.specs.declared.operand.Mem.TheVariants.{Plain}
use Rattle.t1_insn.specs.declared.operation.LoadKind.{LoadKind}
use Rattle.t1_insn.specs.declared.operation.StoreKind.{StoreKind}
use Rattle.t1_insn.specs.declared.operation.ShiftOp.{ShiftOp}
use Rattle.t1_insn.specs.declared.instruction.Insn.{Insn}
use Rattle.t1_insn.specs.declared.instruction.Insn.TheVariants as insn
use Rattle.t1_decode.specs.Fields.{is_set, rd_of, rs1_of, source_of, alternate_of}
use Rattle.t1_decode.specs.Rows.{row_of, moved, or_else}
use Rattle.t1_decode.specs.AluTable.{alu_rows}
use Rattle.t1_decode.specs.Forms.{codes_rows, is_twin_load, is_twin_store, bpcc_of, bpr_of, shift_of, read_asr_of, read_privileged_of, read_hyper_of, movcc_of, movr_of, write_asr_of, write_privileged_of, write_hyper_of, saved_of, done_of, trap_of, load_of, store_of, cas_of}
use Rattle.t1_decode.specs.MemoryTable.{access_rows, other_access_rows}
use Rattle.t1_decode.specs.Words.{op2_rows, control_rows, in_table, in_accesses, branch_of, control_of, arithmetic_of, plain_access_of, alternate_access_of, other_access_of, memory_of, insn_of}

abbrev pub HasMask : Insn → Type 0
HasMask (insn.Membar mask) = mask < 128
HasMask _ = Unit {0}

if_mask : (b : Bool) (x y : Insn) → HasMask x → HasMask y → HasMask (if b then x else y)
if_mask true x y p q = p
if_mask false x y p q = q

else_mask : {A : Type 0} (o : Option A) (f : A → Insn) (other : Insn) → ((x : A) → HasMask (f x)) → HasMask other → HasMask (or_else o f other)
else_mask None f other p q = q
else_mask (Some x) f other p q = p x

-- ---- tables

abbrev AllMasks : List (ℕ × (ℕ → Insn)) → ℕ → Type 0
AllMasks [] word = Unit {0}
AllMasks (row ∷ rows) word = HasMask (row.1 word) × AllMasks rows word

table_mask : (n : ℕ) (rows : List (ℕ × (ℕ → Insn))) (word : ℕ) → AllMasks rows word → HasMask (in_table n rows word)
table_mask n [] word a = tt
table_mask n (row ∷ rows) word a = elim (cases_Bool (n == row.0)) [ inl e ↦ rw e a.0 | inr e ↦ rw e (table_mask n rows word a.1) ]

abbrev AllAccesses : List (ℕ × (ℕ → Mem → Insn)) → ℕ → Mem → Type 0
AllAccesses [] word mem = Unit {0}
AllAccesses (row ∷ rows) word mem = HasMask (row.1 word mem) × AllAccesses rows word mem

accesses_mask : (n : ℕ) (rows : List (ℕ × (ℕ → Mem → Insn))) (word : ℕ) (mem : Mem) → AllAccesses rows word mem → HasMask (in_accesses n rows word mem)
accesses_mask n [] word mem a = tt
accesses_mask n (row ∷ rows) word mem a = elim (cases_Bool (n == row.0)) [ inl e ↦ rw e a.0 | inr e ↦ rw e (accesses_mask n rows word mem a.1) ]

moved_accesses : (k : ℕ) (rows : List (ℕ × (ℕ → Mem → Insn))) (word : ℕ) (mem : Mem) → AllAccesses rows word mem → AllAccesses (moved k rows) word mem
moved_accesses k [] word mem a = tt
moved_accesses k (row ∷ rows) word mem a = (a.0, moved_accesses k rows word mem a.1)

-- ---- forms

bpcc_mask : (word : ℕ) → HasMask (bpcc_of word)
unfolding bpcc_of
bpcc_mask word = else_mask (row_of (field_of word 21 20) codes_rows) _ _ (λ wide. tt) tt

bpr_mask : (word : ℕ) → HasMask (bpr_of word)
unfolding bpr_of
bpr_mask word = if_mask (not (is_set word 28) && is_register_condition (field_of word 27 25)) _ _ tt tt

shift_mask : (op : ShiftOp) (word : ℕ) → HasMask (shift_of op word)
unfolding shift_of
shift_mask op word = tt

read_asr_mask : (word : ℕ) → HasMask (read_asr_of word)
unfolding read_asr_of
read_asr_mask word =
    if_mask (is_read_asr (rs1_of word)) _ _ tt
    (if_mask ((rs1_of word == 0x0f) && (rd_of word == 0)) _ _ (if_mask (is_set word 13) (insn.Membar (field_of word 6 0)) _ (omega arith) tt) tt)

read_privileged_mask : (word : ℕ) → HasMask (read_privileged_of word)
unfolding read_privileged_of
read_privileged_mask word = if_mask (is_read_privileged (rs1_of word)) _ _ tt tt

read_hyper_mask : (word : ℕ) → HasMask (read_hyper_of word)
unfolding read_hyper_of
read_hyper_mask word = if_mask (is_hyperprivileged (rs1_of word)) _ _ tt tt

movcc_mask : (word : ℕ) → HasMask (movcc_of word)
unfolding movcc_of
movcc_mask word = if_mask (is_set word 18) _ _ (else_mask (row_of (field_of word 12 11) codes_rows) _ _ (λ wide. tt) tt) tt

movr_mask : (word : ℕ) → HasMask (movr_of word)
unfolding movr_of
movr_mask word = if_mask (is_register_condition (field_of word 12 10)) _ _ tt tt

write_asr_mask : (word : ℕ) → HasMask (write_asr_of word)
unfolding write_asr_of
write_asr_mask word = if_mask (is_write_asr (rd_of word)) _ _ tt tt

write_privileged_mask : (word : ℕ) → HasMask (write_privileged_of word)
unfolding write_privileged_of
write_privileged_mask word = if_mask (is_write_privileged (rd_of word)) _ _ tt tt

write_hyper_mask : (word : ℕ) → HasMask (write_hyper_of word)
unfolding write_hyper_of
write_hyper_mask word = if_mask (is_hyperprivileged (rd_of word)) _ _ tt tt

saved_mask : (word : ℕ) → HasMask (saved_of word)
unfolding saved_of
saved_mask word =
    elim (cases_Bool (rd_of word == 0)) [
      | inl e ↦ rw e tt
      | inr e ↦ elim (cases_Bool (rd_of word == 1)) [ inl f ↦ rw (e, f) tt | inr f ↦ rw (e, f) tt ]
    ]

done_mask : (word : ℕ) → HasMask (done_of word)
unfolding done_of
done_mask word =
    elim (cases_Bool (rd_of word == 0)) [
      | inl e ↦ rw e tt
      | inr e ↦ elim (cases_Bool (rd_of word == 1)) [ inl f ↦ rw (e, f) tt | inr f ↦ rw (e, f) tt ]
    ]

trap_mask : (word : ℕ) → HasMask (trap_of word)
unfolding trap_of
trap_mask word = else_mask (row_of (field_of word 12 11) codes_rows) _ _ (λ wide. tt) tt

load_mask : (kind : LoadKind) (word : ℕ) (mem : Mem) → HasMask (load_of kind word mem)
unfolding load_of
load_mask kind word mem = if_mask (is_twin_load kind && (rd_of word % 2 == 1)) _ _ tt tt

store_mask : (kind : StoreKind) (word : ℕ) (mem : Mem) → HasMask (store_of kind word mem)
unfolding store_of
store_mask kind word mem = if_mask (is_twin_store kind && (rd_of word % 2 == 1)) _ _ tt tt

cas_mask : (wide : Bool) (word : ℕ) → HasMask (cas_of wide word)
unfolding cas_of
cas_mask wide word = tt

-- ---- rows

branches : (word : ℕ) → AllMasks op2_rows word
branches word = (tt, (bpcc_mask word, (tt, (bpr_mask word, (tt, (tt, (tt, (tt, tt))))))))

controls : (word : ℕ) → AllMasks control_rows word
controls word = (
  shift_mask _ word,
  (
    shift_mask _ word,
    (
      shift_mask _ word,
      (
        read_asr_mask word,
        (
          read_hyper_mask word,
          (
            read_privileged_mask word,
            (
              tt,
              (
                movcc_mask word,
                (
                  movr_mask word,
                  (
                    write_asr_mask word,
                    (saved_mask word, (write_privileged_mask word, (write_hyper_mask word, (tt, (tt, (tt, (tt, (trap_mask word, (tt, (tt, (tt, (done_mask word, tt)))))))))))),
                  ),
                ),
              ),
            ),
          ),
        ),
      ),
    ),
  ),
)

accesses : (word : ℕ) (mem : Mem) → AllAccesses access_rows word mem
accesses word mem = (
  load_mask _ word mem,
  (
    load_mask _ word mem,
    (
      load_mask _ word mem,
      (
        load_mask _ word mem,
        (
          store_mask _ word mem,
          (
            store_mask _ word mem,
            (
              store_mask _ word mem,
              (
                store_mask _ word mem,
                (load_mask _ word mem, (load_mask _ word mem, (load_mask _ word mem, (load_mask _ word mem, (tt, (store_mask _ word mem, (tt, tt))))))),
              ),
            ),
          ),
        ),
      ),
    ),
  ),
)

others : (word : ℕ) → AllMasks other_access_rows word
others word =
    (tt, (tt, (tt, (tt, (tt, (tt, (tt, (tt, (tt, (tt, (tt, (tt, (tt, (tt, (tt, (cas_mask _ word, (tt, (cas_mask _ word, tt))))))))))))))))))

-- ---- words

branch_mask : (word : ℕ) → HasMask (branch_of word)
unfolding branch_of
branch_mask word = table_mask (field_of word 24 22) op2_rows word (branches word)

control_mask : (word op3 : ℕ) → HasMask (control_of word op3)
unfolding control_of
control_mask word op3 = table_mask op3 control_rows word (controls word)

arithmetic_mask : (word op3 : ℕ) → HasMask (arithmetic_of word op3)
unfolding arithmetic_of
arithmetic_mask word op3 = else_mask (row_of op3 alu_rows) _ _ (λ row. tt) (control_mask word op3)

plain_mask : (word op3 : ℕ) → HasMask (plain_access_of word op3)
unfolding plain_access_of
plain_mask word op3 = accesses_mask op3 access_rows word (Plain (source_of word)) (accesses word (Plain (source_of word)))

alternate_mask : (word op3 : ℕ) → HasMask (alternate_access_of word op3)
unfolding alternate_access_of
alternate_mask word op3 =
    accesses_mask op3 (moved 0x10 access_rows) word (alternate_of word) (moved_accesses 0x10 access_rows word (alternate_of word) (accesses word (alternate_of word)))

other_mask : (word op3 : ℕ) → HasMask (other_access_of word op3)
unfolding other_access_of
other_mask word op3 = table_mask op3 other_access_rows word (others word)

memory_mask : (word op3 : ℕ) → HasMask (memory_of word op3)
unfolding memory_of
memory_mask word op3 = if_mask (nat_lt op3 0x10) _ _ (plain_mask word op3) (if_mask (nat_lt op3 0x20) _ _ (alternate_mask word op3) (other_mask word op3))

pub insn_mask : (word : ℕ) → HasMask (insn_of word)
unfolding insn_of
insn_mask word =
    if_mask (field_of word 31 30 == 0) _ _ (branch_mask word)
    (if_mask (field_of word 31 30 == 1) _ _ tt
    (if_mask (field_of word 31 30 == 2) _ _ (arithmetic_mask word (field_of word 24 19)) (memory_mask word (field_of word 24 19))))
