-- The arithmetic rows of op 2: by op3 the operation, and whether it sets the condition codes
-- (SPARC V9, appendix E, table 32).
use Rattle.std.specs.Prelude.{ℕ, List, [], ◌∷◌, Bool, true, false}
use Rattle.t1_insn.specs.declared.operation.AluOp.{AluOp}
use Rattle.t1_insn.specs.declared.operation.AluOp.TheVariants.{Add, And, Or, Xor, Sub, Andn, Orn, Xnor, Addc, Mulx, Umul, Smul, Subc, Udivx, Udiv, Sdiv, Taddcc, Tsubcc, TaddccTv, TsubccTv, Mulscc, Sdivx}

abbrev pub alu_rows : List (ℕ × (AluOp × Bool))
alu_rows =
    (0x00, (Add, false)) ∷
    (0x01, (And, false)) ∷
    (0x02, (Or, false)) ∷
    (0x03, (Xor, false)) ∷
    (0x04, (Sub, false)) ∷
    (0x05, (Andn, false)) ∷
    (0x06, (Orn, false)) ∷
    (0x07, (Xnor, false)) ∷
    (0x08, (Addc, false)) ∷
    (0x09, (Mulx, false)) ∷
    (0x0a, (Umul, false)) ∷
    (0x0b, (Smul, false)) ∷
    (0x0c, (Subc, false)) ∷
    (0x0d, (Udivx, false)) ∷
    (0x0e, (Udiv, false)) ∷
    (0x0f, (Sdiv, false)) ∷
    (0x10, (Add, true)) ∷
    (0x11, (And, true)) ∷
    (0x12, (Or, true)) ∷
    (0x13, (Xor, true)) ∷
    (0x14, (Sub, true)) ∷
    (0x15, (Andn, true)) ∷
    (0x16, (Orn, true)) ∷
    (0x17, (Xnor, true)) ∷
    (0x18, (Addc, true)) ∷
    (0x1a, (Umul, true)) ∷
    (0x1b, (Smul, true)) ∷
    (0x1c, (Subc, true)) ∷
    (0x1e, (Udiv, true)) ∷
    (0x1f, (Sdiv, true)) ∷
    (0x20, (Taddcc, true)) ∷
    (0x21, (Tsubcc, true)) ∷
    (0x22, (TaddccTv, true)) ∷
    (0x23, (TsubccTv, true)) ∷
    (0x24, (Mulscc, true)) ∷
    (0x2d, (Sdivx, false)) ∷
    []
