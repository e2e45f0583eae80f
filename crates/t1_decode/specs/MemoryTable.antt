-- The rows of op 3: by op3 the access, of a word and of its operand (SPARC V9, appendix E, table 33).
use Rattle.std.specs.Prelude.{ℕ, List, [], ◌∷◌, true, false}
use Rattle.t1_insn.specs.declared.operand.Mem.{Mem}
use Rattle.t1_insn.specs.declared.operand.Mem.TheVariants.{Plain}
use Rattle.t1_insn.specs.declared.operation.LoadKind.TheVariants as load
use Rattle.t1_insn.specs.declared.operation.StoreKind.TheVariants as store
use Rattle.t1_insn.specs.declared.instruction.Insn.{Insn}
use Rattle.t1_insn.specs.declared.instruction.Insn.TheVariants.{FpOff, Ldstub, Swap, Prefetch}
use Rattle.t1_decode.specs.Fields.{rd_of, rs1_of, source_of, alternate_of}
use Rattle.t1_decode.specs.Forms.{load_of, store_of, cas_of}

-- the plain accesses; the alternate ones stand 10 hex above
abbrev pub access_rows : List (ℕ × (ℕ → Mem → Insn))
access_rows =
    (0x00, load_of load.Uw) ∷
    (0x01, load_of load.Ub) ∷
    (0x02, load_of load.Uh) ∷
    (0x03, load_of load.Tw) ∷
    (0x04, store_of store.W) ∷
    (0x05, store_of store.B) ∷
    (0x06, store_of store.H) ∷
    (0x07, store_of store.Tw) ∷
    (0x08, load_of load.Sw) ∷
    (0x09, load_of load.Sb) ∷
    (0x0a, load_of load.Sh) ∷
    (0x0b, load_of load.X) ∷
    (0x0d, λ word mem. Ldstub (rd_of word) (rs1_of word) mem) ∷
    (0x0e, store_of store.X) ∷
    (0x0f, λ word mem. Swap (rd_of word) (rs1_of word) mem) ∷
    []

-- the other numbers: prefetch (A.42), compare and swap, and the accesses of the floating-point unit
abbrev pub other_access_rows : List (ℕ × (ℕ → Insn))
other_access_rows =
    (0x20, λ word. FpOff) ∷
    (0x21, λ word. FpOff) ∷
    (0x22, λ word. FpOff) ∷
    (0x23, λ word. FpOff) ∷
    (0x24, λ word. FpOff) ∷
    (0x25, λ word. FpOff) ∷
    (0x26, λ word. FpOff) ∷
    (0x27, λ word. FpOff) ∷
    (0x2d, λ word. Prefetch (rd_of word) (rs1_of word) (Plain (source_of word))) ∷
    (0x30, λ word. FpOff) ∷
    (0x32, λ word. FpOff) ∷
    (0x33, λ word. FpOff) ∷
    (0x34, λ word. FpOff) ∷
    (0x36, λ word. FpOff) ∷
    (0x37, λ word. FpOff) ∷
    (0x3c, cas_of false) ∷
    (0x3d, λ word. Prefetch (rd_of word) (rs1_of word) (alternate_of word)) ∷
    (0x3e, cas_of true) ∷
    []
