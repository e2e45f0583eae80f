-- The mnemonics of texts are those of the assembler's table.
use Rattle.std.proofs.Common.{◌≡◌, ◌<◌, ℕ, zero, suc, List, ◌++◌, refl, arith, Some, None, Bool, true, false}
use Rattle.std.specs.Prelude.{codes, IsTrue}
use Rattle.t1_insn.specs.Ranges.{has_form, is_register_condition}
use Rattle.t1_insn.specs.declared.operand.Mem.{Mem}
use Rattle.t1_insn.specs.declared.operand.Mem.TheVariants.{Plain, Alt, AltReg}
use Rattle.t1_insn.specs.declared.operation.AluOp.{AluOp}
use Rattle.t1_insn.specs.declared.operation.AluOp.TheVariants as alu
use Rattle.t1_insn.specs.declared.operation.ShiftOp.{ShiftOp}
use Rattle.t1_insn.specs.declared.operation.ShiftOp.TheVariants as shift
use Rattle.t1_insn.specs.declared.operation.LoadKind.{LoadKind}
use Rattle.t1_insn.specs.declared.operation.LoadKind.TheVariants as load
use Rattle.t1_insn.specs.declared.operation.StoreKind.{StoreKind}
use Rattle.t1_insn.specs.declared.operation.StoreKind.TheVariants as store
use Rattle.t1_insn.specs.declared.instruction.Insn.TheVariants as insn
use Rattle.t1_form.specs.Names.{named, behind, directive_names}
use Rattle.t1_form.specs.Mnemonics.{form, access_form, branch_condition, branch_of, trap_of, move_of, register_branch_of, register_move_of, without_a, alternate_of, forms_of}
use Rattle.t1_form.specs.declared.form.Forms.{Forms}
use Rattle.t1_form.specs.declared.form.Forms.TheVariants.{One, Two}
use Rattle.t1_form.specs.declared.slot.Shape.TheVariants as shape
use Rattle.t1_form.specs.declared.template.Template.TheVariants as template
use Rattle.t1_form.specs.declared.template.Access.{Access}
use Rattle.t1_form.specs.declared.template.Access.TheVariants as access
use Rattle.t1_form.specs.declared.template.Space.TheVariants as space
use Rattle.t1_stmt.specs.Lines.{is_dot}
use Rattle.t1_dis.specs.Names.{condition_text, register_condition_text, alu_text, shift_text, load_text, store_text, alternate_text, cas_text}
use Rattle.t1_dis.proofs.Lines.{pick}

-- a mnemonic with its forms
pub record IsMnemonic (name : List ℕ) (forms : Forms) : Type 0 where
  pub plain : is_dot name ≡ false
  pub undirected : named name directive_names ≡ None
  pub found : forms_of name ≡ Some forms

abbrev pub branch_forms : ℕ → Forms
branch_forms c = Two (form shape.BranchIcc (template.Bicc c)) (form shape.BranchCodes (template.Bpcc c))

abbrev pub trap_forms : ℕ → Forms
trap_forms c = Two (form shape.TrapIcc (template.Trap c)) (form shape.TrapCodes (template.Trap c))

pub branch_mnemonic : (c : ℕ) → c < 16 → IsMnemonic (codes "b" ++ condition_text c) (branch_forms c)
unfolding forms_of branch_condition branch_of trap_of move_of register_branch_of register_move_of without_a alternate_of behind condition_text
branch_mnemonic zero h = record { plain = refl; undirected = refl; found = refl }
branch_mnemonic (suc zero) h = record { plain = refl; undirected = refl; found = refl }
branch_mnemonic (suc (suc zero)) h = record { plain = refl; undirected = refl; found = refl }
branch_mnemonic (suc (suc (suc zero))) h = record { plain = refl; undirected = refl; found = refl }
branch_mnemonic (suc (suc (suc (suc zero)))) h = record { plain = refl; undirected = refl; found = refl }
branch_mnemonic (suc (suc (suc (suc (suc zero))))) h = record { plain = refl; undirected = refl; found = refl }
branch_mnemonic (suc (suc (suc (suc (suc (suc zero)))))) h = record { plain = refl; undirected = refl; found = refl }
branch_mnemonic (suc (suc (suc (suc (suc (suc (suc zero))))))) h = record { plain = refl; undirected = refl; found = refl }
branch_mnemonic (suc (suc (suc (suc (suc (suc (suc (suc zero)))))))) h = record { plain = refl; undirected = refl; found = refl }
branch_mnemonic (suc (suc (suc (suc (suc (suc (suc (suc (suc zero))))))))) h = record { plain = refl; undirected = refl; found = refl }
branch_mnemonic (suc (suc (suc (suc (suc (suc (suc (suc (suc (suc zero)))))))))) h = record { plain = refl; undirected = refl; found = refl }
branch_mnemonic (suc (suc (suc (suc (suc (suc (suc (suc (suc (suc (suc zero))))))))))) h = record { plain = refl; undirected = refl; found = refl }
branch_mnemonic (suc (suc (suc (suc (suc (suc (suc (suc (suc (suc (suc (suc zero)))))))))))) h = record { plain = refl; undirected = refl; found = refl }
branch_mnemonic (suc (suc (suc (suc (suc (suc (suc (suc (suc (suc (suc (suc (suc zero))))))))))))) h = record { plain = refl; undirected = refl; found = refl }
branch_mnemonic (suc (suc (suc (suc (suc (suc (suc (suc (suc (suc (suc (suc (suc (suc zero)))))))))))))) h = record { plain = refl; undirected = refl; found = refl }
branch_mnemonic (suc (suc (suc (suc (suc (suc (suc (suc (suc (suc (suc (suc (suc (suc (suc zero))))))))))))))) h = record { plain = refl; undirected = refl; found = refl }
branch_mnemonic (suc (suc (suc (suc (suc (suc (suc (suc (suc (suc (suc (suc (suc (suc (suc (suc n)))))))))))))))) h = absurd (omega arith)

pub trap_mnemonic : (c : ℕ) → c < 16 → IsMnemonic (codes "t" ++ condition_text c) (trap_forms c)
unfolding forms_of branch_condition branch_of trap_of move_of register_branch_of register_move_of without_a alternate_of behind condition_text
trap_mnemonic zero h = record { plain = refl; undirected = refl; found = refl }
trap_mnemonic (suc zero) h = record { plain = refl; undirected = refl; found = refl }
trap_mnemonic (suc (suc zero)) h = record { plain = refl; undirected = refl; found = refl }
trap_mnemonic (suc (suc (suc zero))) h = record { plain = refl; undirected = refl; found = refl }
trap_mnemonic (suc (suc (suc (suc zero)))) h = record { plain = refl; undirected = refl; found = refl }
trap_mnemonic (suc (suc (suc (suc (suc zero))))) h = record { plain = refl; undirected = refl; found = refl }
trap_mnemonic (suc (suc (suc (suc (suc (suc zero)))))) h = record { plain = refl; undirected = refl; found = refl }
trap_mnemonic (suc (suc (suc (suc (suc (suc (suc zero))))))) h = record { plain = refl; undirected = refl; found = refl }
trap_mnemonic (suc (suc (suc (suc (suc (suc (suc (suc zero)))))))) h = record { plain = refl; undirected = refl; found = refl }
trap_mnemonic (suc (suc (suc (suc (suc (suc (suc (suc (suc zero))))))))) h = record { plain = refl; undirected = refl; found = refl }
trap_mnemonic (suc (suc (suc (suc (suc (suc (suc (suc (suc (suc zero)))))))))) h = record { plain = refl; undirected = refl; found = refl }
trap_mnemonic (suc (suc (suc (suc (suc (suc (suc (suc (suc (suc (suc zero))))))))))) h = record { plain = refl; undirected = refl; found = refl }
trap_mnemonic (suc (suc (suc (suc (suc (suc (suc (suc (suc (suc (suc (suc zero)))))))))))) h = record { plain = refl; undirected = refl; found = refl }
trap_mnemonic (suc (suc (suc (suc (suc (suc (suc (suc (suc (suc (suc (suc (suc zero))))))))))))) h = record { plain = refl; undirected = refl; found = refl }
trap_mnemonic (suc (suc (suc (suc (suc (suc (suc (suc (suc (suc (suc (suc (suc (suc zero)))))))))))))) h = record { plain = refl; undirected = refl; found = refl }
trap_mnemonic (suc (suc (suc (suc (suc (suc (suc (suc (suc (suc (suc (suc (suc (suc (suc zero))))))))))))))) h = record { plain = refl; undirected = refl; found = refl }
trap_mnemonic (suc (suc (suc (suc (suc (suc (suc (suc (suc (suc (suc (suc (suc (suc (suc (suc n)))))))))))))))) h = absurd (omega arith)

pub move_mnemonic : (c : ℕ) → c < 16 → IsMnemonic (codes "mov" ++ condition_text c) (One (form shape.MoveCodes (template.Movcc c)))
unfolding forms_of branch_condition branch_of trap_of move_of register_branch_of register_move_of without_a alternate_of behind condition_text
move_mnemonic zero h = record { plain = refl; undirected = refl; found = refl }
move_mnemonic (suc zero) h = record { plain = refl; undirected = refl; found = refl }
move_mnemonic (suc (suc zero)) h = record { plain = refl; undirected = refl; found = refl }
move_mnemonic (suc (suc (suc zero))) h = record { plain = refl; undirected = refl; found = refl }
move_mnemonic (suc (suc (suc (suc zero)))) h = record { plain = refl; undirected = refl; found = refl }
move_mnemonic (suc (suc (suc (suc (suc zero))))) h = record { plain = refl; undirected = refl; found = refl }
move_mnemonic (suc (suc (suc (suc (suc (suc zero)))))) h = record { plain = refl; undirected = refl; found = refl }
move_mnemonic (suc (suc (suc (suc (suc (suc (suc zero))))))) h = record { plain = refl; undirected = refl; found = refl }
move_mnemonic (suc (suc (suc (suc (suc (suc (suc (suc zero)))))))) h = record { plain = refl; undirected = refl; found = refl }
move_mnemonic (suc (suc (suc (suc (suc (suc (suc (suc (suc zero))))))))) h = record { plain = refl; undirected = refl; found = refl }
move_mnemonic (suc (suc (suc (suc (suc (suc (suc (suc (suc (suc zero)))))))))) h = record { plain = refl; undirected = refl; found = refl }
move_mnemonic (suc (suc (suc (suc (suc (suc (suc (suc (suc (suc (suc zero))))))))))) h = record { plain = refl; undirected = refl; found = refl }
move_mnemonic (suc (suc (suc (suc (suc (suc (suc (suc (suc (suc (suc (suc zero)))))))))))) h = record { plain = refl; undirected = refl; found = refl }
move_mnemonic (suc (suc (suc (suc (suc (suc (suc (suc (suc (suc (suc (suc (suc zero))))))))))))) h = record { plain = refl; undirected = refl; found = refl }
move_mnemonic (suc (suc (suc (suc (suc (suc (suc (suc (suc (suc (suc (suc (suc (suc zero)))))))))))))) h = record { plain = refl; undirected = refl; found = refl }
move_mnemonic (suc (suc (suc (suc (suc (suc (suc (suc (suc (suc (suc (suc (suc (suc (suc zero))))))))))))))) h = record { plain = refl; undirected = refl; found = refl }
move_mnemonic (suc (suc (suc (suc (suc (suc (suc (suc (suc (suc (suc (suc (suc (suc (suc (suc n)))))))))))))))) h = absurd (omega arith)

abbrev IsRegisterBranchMnemonic : ℕ → Type 0
IsRegisterBranchMnemonic c = IsMnemonic (codes "br" ++ register_condition_text c) (One (form shape.BranchRegister (template.Bpr c)))

pub register_branch_mnemonic : (c : ℕ) → IsTrue (is_register_condition c) → IsRegisterBranchMnemonic c
unfolding forms_of branch_condition branch_of trap_of move_of register_branch_of register_move_of without_a alternate_of behind register_condition_text
register_branch_mnemonic c h =
    pick IsRegisterBranchMnemonic _ c 1 _ refl h (record { plain = refl; undirected = refl; found = refl }) (λ h.
    pick IsRegisterBranchMnemonic _ c 2 _ refl h (record { plain = refl; undirected = refl; found = refl }) (λ h.
    pick IsRegisterBranchMnemonic _ c 3 _ refl h (record { plain = refl; undirected = refl; found = refl }) (λ h.
    pick IsRegisterBranchMnemonic _ c 5 _ refl h (record { plain = refl; undirected = refl; found = refl }) (λ h.
    pick IsRegisterBranchMnemonic _ c 6 _ refl h (record { plain = refl; undirected = refl; found = refl }) (λ h.
    pick IsRegisterBranchMnemonic _ c 7 _ refl h (record { plain = refl; undirected = refl; found = refl }) (λ h. cc))))))

abbrev IsRegisterMoveMnemonic : ℕ → Type 0
IsRegisterMoveMnemonic c = IsMnemonic (codes "movr" ++ register_condition_text c) (One (form shape.Three (template.Movr c)))

pub register_move_mnemonic : (c : ℕ) → IsTrue (is_register_condition c) → IsRegisterMoveMnemonic c
unfolding forms_of branch_condition branch_of trap_of move_of register_branch_of register_move_of without_a alternate_of behind register_condition_text
register_move_mnemonic c h =
    pick IsRegisterMoveMnemonic _ c 1 _ refl h (record { plain = refl; undirected = refl; found = refl }) (λ h.
    pick IsRegisterMoveMnemonic _ c 2 _ refl h (record { plain = refl; undirected = refl; found = refl }) (λ h.
    pick IsRegisterMoveMnemonic _ c 3 _ refl h (record { plain = refl; undirected = refl; found = refl }) (λ h.
    pick IsRegisterMoveMnemonic _ c 5 _ refl h (record { plain = refl; undirected = refl; found = refl }) (λ h.
    pick IsRegisterMoveMnemonic _ c 6 _ refl h (record { plain = refl; undirected = refl; found = refl }) (λ h.
    pick IsRegisterMoveMnemonic _ c 7 _ refl h (record { plain = refl; undirected = refl; found = refl }) (λ h. cc))))))

pub alu_mnemonic : (op : AluOp) (cc : Bool) → IsTrue (has_form op cc) → IsMnemonic (alu_text op cc) (One (form shape.Three (template.Alu op cc)))
unfolding forms_of branch_condition branch_of trap_of move_of register_branch_of register_move_of without_a alternate_of behind alu_text
alu_mnemonic alu.Add false h = record { plain = refl; undirected = refl; found = refl }
alu_mnemonic alu.Add true h = record { plain = refl; undirected = refl; found = refl }
alu_mnemonic alu.And false h = record { plain = refl; undirected = refl; found = refl }
alu_mnemonic alu.And true h = record { plain = refl; undirected = refl; found = refl }
alu_mnemonic alu.Or false h = record { plain = refl; undirected = refl; found = refl }
alu_mnemonic alu.Or true h = record { plain = refl; undirected = refl; found = refl }
alu_mnemonic alu.Xor false h = record { plain = refl; undirected = refl; found = refl }
alu_mnemonic alu.Xor true h = record { plain = refl; undirected = refl; found = refl }
alu_mnemonic alu.Sub false h = record { plain = refl; undirected = refl; found = refl }
alu_mnemonic alu.Sub true h = record { plain = refl; undirected = refl; found = refl }
alu_mnemonic alu.Andn false h = record { plain = refl; undirected = refl; found = refl }
alu_mnemonic alu.Andn true h = record { plain = refl; undirected = refl; found = refl }
alu_mnemonic alu.Orn false h = record { plain = refl; undirected = refl; found = refl }
alu_mnemonic alu.Orn true h = record { plain = refl; undirected = refl; found = refl }
alu_mnemonic alu.Xnor false h = record { plain = refl; undirected = refl; found = refl }
alu_mnemonic alu.Xnor true h = record { plain = refl; undirected = refl; found = refl }
alu_mnemonic alu.Addc false h = record { plain = refl; undirected = refl; found = refl }
alu_mnemonic alu.Addc true h = record { plain = refl; undirected = refl; found = refl }
alu_mnemonic alu.Mulx false h = record { plain = refl; undirected = refl; found = refl }
alu_mnemonic alu.Mulx true h = cc
alu_mnemonic alu.Umul false h = record { plain = refl; undirected = refl; found = refl }
alu_mnemonic alu.Umul true h = record { plain = refl; undirected = refl; found = refl }
alu_mnemonic alu.Smul false h = record { plain = refl; undirected = refl; found = refl }
alu_mnemonic alu.Smul true h = record { plain = refl; undirected = refl; found = refl }
alu_mnemonic alu.Subc false h = record { plain = refl; undirected = refl; found = refl }
alu_mnemonic alu.Subc true h = record { plain = refl; undirected = refl; found = refl }
alu_mnemonic alu.Udivx false h = record { plain = refl; undirected = refl; found = refl }
alu_mnemonic alu.Udivx true h = cc
alu_mnemonic alu.Udiv false h = record { plain = refl; undirected = refl; found = refl }
alu_mnemonic alu.Udiv true h = record { plain = refl; undirected = refl; found = refl }
alu_mnemonic alu.Sdiv false h = record { plain = refl; undirected = refl; found = refl }
alu_mnemonic alu.Sdiv true h = record { plain = refl; undirected = refl; found = refl }
alu_mnemonic alu.Taddcc false h = cc
alu_mnemonic alu.Taddcc true h = record { plain = refl; undirected = refl; found = refl }
alu_mnemonic alu.Tsubcc false h = cc
alu_mnemonic alu.Tsubcc true h = record { plain = refl; undirected = refl; found = refl }
alu_mnemonic alu.TaddccTv false h = cc
alu_mnemonic alu.TaddccTv true h = record { plain = refl; undirected = refl; found = refl }
alu_mnemonic alu.TsubccTv false h = cc
alu_mnemonic alu.TsubccTv true h = record { plain = refl; undirected = refl; found = refl }
alu_mnemonic alu.Mulscc false h = cc
alu_mnemonic alu.Mulscc true h = record { plain = refl; undirected = refl; found = refl }
alu_mnemonic alu.Sdivx false h = record { plain = refl; undirected = refl; found = refl }
alu_mnemonic alu.Sdivx true h = cc

pub shift_mnemonic : (op : ShiftOp) (wide : Bool) → IsMnemonic (shift_text op wide) (One (form shape.Three (template.Shift op wide)))
unfolding forms_of branch_condition branch_of trap_of move_of register_branch_of register_move_of without_a alternate_of behind
shift_mnemonic shift.Sll false = record { plain = refl; undirected = refl; found = refl }
shift_mnemonic shift.Srl false = record { plain = refl; undirected = refl; found = refl }
shift_mnemonic shift.Sra false = record { plain = refl; undirected = refl; found = refl }
shift_mnemonic shift.Sll true = record { plain = refl; undirected = refl; found = refl }
shift_mnemonic shift.Srl true = record { plain = refl; undirected = refl; found = refl }
shift_mnemonic shift.Sra true = record { plain = refl; undirected = refl; found = refl }

-- the forms of an access, plain or alternate
abbrev pub access_forms : Access → Mem → Forms
access_forms a (Plain src) = One (access_form a space.Plain)
access_forms a _ = Two (access_form a space.Named) (access_form a space.Asi)

pub load_mnemonic : (kind : LoadKind) (mem : Mem) → IsMnemonic (load_text kind ++ alternate_text mem) (access_forms (access.Load kind) mem)
unfolding forms_of branch_condition branch_of trap_of move_of register_branch_of register_move_of without_a alternate_of behind
load_mnemonic load.Uw (Plain src) = record { plain = refl; undirected = refl; found = refl }
load_mnemonic load.Uw (Alt rs2 asi) = record { plain = refl; undirected = refl; found = refl }
load_mnemonic load.Uw (AltReg imm) = record { plain = refl; undirected = refl; found = refl }
load_mnemonic load.Ub (Plain src) = record { plain = refl; undirected = refl; found = refl }
load_mnemonic load.Ub (Alt rs2 asi) = record { plain = refl; undirected = refl; found = refl }
load_mnemonic load.Ub (AltReg imm) = record { plain = refl; undirected = refl; found = refl }
load_mnemonic load.Uh (Plain src) = record { plain = refl; undirected = refl; found = refl }
load_mnemonic load.Uh (Alt rs2 asi) = record { plain = refl; undirected = refl; found = refl }
load_mnemonic load.Uh (AltReg imm) = record { plain = refl; undirected = refl; found = refl }
load_mnemonic load.Tw (Plain src) = record { plain = refl; undirected = refl; found = refl }
load_mnemonic load.Tw (Alt rs2 asi) = record { plain = refl; undirected = refl; found = refl }
load_mnemonic load.Tw (AltReg imm) = record { plain = refl; undirected = refl; found = refl }
load_mnemonic load.Sw (Plain src) = record { plain = refl; undirected = refl; found = refl }
load_mnemonic load.Sw (Alt rs2 asi) = record { plain = refl; undirected = refl; found = refl }
load_mnemonic load.Sw (AltReg imm) = record { plain = refl; undirected = refl; found = refl }
load_mnemonic load.Sb (Plain src) = record { plain = refl; undirected = refl; found = refl }
load_mnemonic load.Sb (Alt rs2 asi) = record { plain = refl; undirected = refl; found = refl }
load_mnemonic load.Sb (AltReg imm) = record { plain = refl; undirected = refl; found = refl }
load_mnemonic load.Sh (Plain src) = record { plain = refl; undirected = refl; found = refl }
load_mnemonic load.Sh (Alt rs2 asi) = record { plain = refl; undirected = refl; found = refl }
load_mnemonic load.Sh (AltReg imm) = record { plain = refl; undirected = refl; found = refl }
load_mnemonic load.X (Plain src) = record { plain = refl; undirected = refl; found = refl }
load_mnemonic load.X (Alt rs2 asi) = record { plain = refl; undirected = refl; found = refl }
load_mnemonic load.X (AltReg imm) = record { plain = refl; undirected = refl; found = refl }

pub store_mnemonic : (kind : StoreKind) (mem : Mem) → IsMnemonic (store_text kind ++ alternate_text mem) (access_forms (access.Store kind) mem)
unfolding forms_of branch_condition branch_of trap_of move_of register_branch_of register_move_of without_a alternate_of behind
store_mnemonic store.W (Plain src) = record { plain = refl; undirected = refl; found = refl }
store_mnemonic store.W (Alt rs2 asi) = record { plain = refl; undirected = refl; found = refl }
store_mnemonic store.W (AltReg imm) = record { plain = refl; undirected = refl; found = refl }
store_mnemonic store.B (Plain src) = record { plain = refl; undirected = refl; found = refl }
store_mnemonic store.B (Alt rs2 asi) = record { plain = refl; undirected = refl; found = refl }
store_mnemonic store.B (AltReg imm) = record { plain = refl; undirected = refl; found = refl }
store_mnemonic store.H (Plain src) = record { plain = refl; undirected = refl; found = refl }
store_mnemonic store.H (Alt rs2 asi) = record { plain = refl; undirected = refl; found = refl }
store_mnemonic store.H (AltReg imm) = record { plain = refl; undirected = refl; found = refl }
store_mnemonic store.Tw (Plain src) = record { plain = refl; undirected = refl; found = refl }
store_mnemonic store.Tw (Alt rs2 asi) = record { plain = refl; undirected = refl; found = refl }
store_mnemonic store.Tw (AltReg imm) = record { plain = refl; undirected = refl; found = refl }
store_mnemonic store.X (Plain src) = record { plain = refl; undirected = refl; found = refl }
store_mnemonic store.X (Alt rs2 asi) = record { plain = refl; undirected = refl; found = refl }
store_mnemonic store.X (AltReg imm) = record { plain = refl; undirected = refl; found = refl }

pub ldstub_mnemonic : (mem : Mem) → IsMnemonic (codes "ldstub" ++ alternate_text mem) (access_forms access.Ldstub mem)
unfolding forms_of branch_condition branch_of trap_of move_of register_branch_of register_move_of without_a alternate_of behind
ldstub_mnemonic (Plain src) = record { plain = refl; undirected = refl; found = refl }
ldstub_mnemonic (Alt rs2 asi) = record { plain = refl; undirected = refl; found = refl }
ldstub_mnemonic (AltReg imm) = record { plain = refl; undirected = refl; found = refl }

pub swap_mnemonic : (mem : Mem) → IsMnemonic (codes "swap" ++ alternate_text mem) (access_forms access.Swap mem)
unfolding forms_of branch_condition branch_of trap_of move_of register_branch_of register_move_of without_a alternate_of behind
swap_mnemonic (Plain src) = record { plain = refl; undirected = refl; found = refl }
swap_mnemonic (Alt rs2 asi) = record { plain = refl; undirected = refl; found = refl }
swap_mnemonic (AltReg imm) = record { plain = refl; undirected = refl; found = refl }

abbrev pub prefetch_forms : Mem → Forms
prefetch_forms (Plain src) = One (form shape.Fetch (template.Prefetch space.Plain))
prefetch_forms _ = Two (form shape.FetchNamed (template.Prefetch space.Named)) (form shape.FetchAsi (template.Prefetch space.Asi))

pub prefetch_mnemonic : (mem : Mem) → IsMnemonic (codes "prefetch" ++ alternate_text mem) (prefetch_forms mem)
unfolding forms_of branch_condition branch_of trap_of move_of register_branch_of register_move_of without_a alternate_of behind
prefetch_mnemonic (Plain src) = record { plain = refl; undirected = refl; found = refl }
prefetch_mnemonic (Alt rs2 asi) = record { plain = refl; undirected = refl; found = refl }
prefetch_mnemonic (AltReg imm) = record { plain = refl; undirected = refl; found = refl }

abbrev pub cas_forms : Bool → Forms
cas_forms wide = Two (form shape.ComparedNamed (template.Cas wide space.Named)) (form shape.ComparedAsi (template.Cas wide space.Asi))

pub cas_mnemonic : (wide : Bool) → IsMnemonic (cas_text wide) (cas_forms wide)
unfolding forms_of branch_condition branch_of trap_of move_of register_branch_of register_move_of without_a alternate_of behind
cas_mnemonic true = record { plain = refl; undirected = refl; found = refl }
cas_mnemonic false = record { plain = refl; undirected = refl; found = refl }

pub sethi_mnemonic : IsMnemonic (codes "sethi") (One (form shape.NumberRd template.Sethi))
unfolding forms_of branch_condition branch_of trap_of move_of register_branch_of register_move_of without_a alternate_of behind
sethi_mnemonic = record { plain = refl; undirected = refl; found = refl }

pub call_mnemonic : IsMnemonic (codes "call") (One (form shape.Target template.Call))
unfolding forms_of branch_condition branch_of trap_of move_of register_branch_of register_move_of without_a alternate_of behind
call_mnemonic = record { plain = refl; undirected = refl; found = refl }

pub membar_mnemonic : IsMnemonic (codes "membar") (Two (form shape.Barrier template.Membar) (form shape.BarrierNumber template.Membar))
unfolding forms_of branch_condition branch_of trap_of move_of register_branch_of register_move_of without_a alternate_of behind
membar_mnemonic = record { plain = refl; undirected = refl; found = refl }

pub rd_mnemonic : IsMnemonic (codes "rd") (One (form shape.ReadState template.ReadAsr))
unfolding forms_of branch_condition branch_of trap_of move_of register_branch_of register_move_of without_a alternate_of behind
rd_mnemonic = record { plain = refl; undirected = refl; found = refl }

pub wr_mnemonic : IsMnemonic (codes "wr") (One (form shape.WriteState template.WriteAsr))
unfolding forms_of branch_condition branch_of trap_of move_of register_branch_of register_move_of without_a alternate_of behind
wr_mnemonic = record { plain = refl; undirected = refl; found = refl }

pub rdpr_mnemonic : IsMnemonic (codes "rdpr") (One (form shape.ReadPrivileged template.ReadPr))
unfolding forms_of branch_condition branch_of trap_of move_of register_branch_of register_move_of without_a alternate_of behind
rdpr_mnemonic = record { plain = refl; undirected = refl; found = refl }

pub wrpr_mnemonic : IsMnemonic (codes "wrpr") (One (form shape.WritePrivileged template.WritePr))
unfolding forms_of branch_condition branch_of trap_of move_of register_branch_of register_move_of without_a alternate_of behind
wrpr_mnemonic = record { plain = refl; undirected = refl; found = refl }

pub jmpl_mnemonic : IsMnemonic (codes "jmpl") (One (form shape.JumpRd template.Jmpl))
unfolding forms_of branch_condition branch_of trap_of move_of register_branch_of register_move_of without_a alternate_of behind
jmpl_mnemonic = record { plain = refl; undirected = refl; found = refl }

pub return_mnemonic : IsMnemonic (codes "return") (One (form shape.Jump template.Return))
unfolding forms_of branch_condition branch_of trap_of move_of register_branch_of register_move_of without_a alternate_of behind
return_mnemonic = record { plain = refl; undirected = refl; found = refl }

pub flush_mnemonic : IsMnemonic (codes "flush") (One (form shape.Jump template.Flush))
unfolding forms_of branch_condition branch_of trap_of move_of register_branch_of register_move_of without_a alternate_of behind
flush_mnemonic = record { plain = refl; undirected = refl; found = refl }

pub save_mnemonic : IsMnemonic (codes "save") (Two (form shape.Three template.Save) (form shape.Nothing template.Save))
unfolding forms_of branch_condition branch_of trap_of move_of register_branch_of register_move_of without_a alternate_of behind
save_mnemonic = record { plain = refl; undirected = refl; found = refl }

pub restore_mnemonic : IsMnemonic (codes "restore") (Two (form shape.Three template.Restore) (form shape.Nothing template.Restore))
unfolding forms_of branch_condition branch_of trap_of move_of register_branch_of register_move_of without_a alternate_of behind
restore_mnemonic = record { plain = refl; undirected = refl; found = refl }

pub stbar_mnemonic : IsMnemonic (codes "stbar") (One (form shape.Nothing (template.Fixed insn.Stbar)))
unfolding forms_of branch_condition branch_of trap_of move_of register_branch_of register_move_of without_a alternate_of behind
stbar_mnemonic = record { plain = refl; undirected = refl; found = refl }

pub flushw_mnemonic : IsMnemonic (codes "flushw") (One (form shape.Nothing (template.Fixed insn.Flushw)))
unfolding forms_of branch_condition branch_of trap_of move_of register_branch_of register_move_of without_a alternate_of behind
flushw_mnemonic = record { plain = refl; undirected = refl; found = refl }

pub saved_mnemonic : IsMnemonic (codes "saved") (One (form shape.Nothing (template.Fixed insn.Saved)))
unfolding forms_of branch_condition branch_of trap_of move_of register_branch_of register_move_of without_a alternate_of behind
saved_mnemonic = record { plain = refl; undirected = refl; found = refl }

pub restored_mnemonic : IsMnemonic (codes "restored") (One (form shape.Nothing (template.Fixed insn.Restored)))
unfolding forms_of branch_condition branch_of trap_of move_of register_branch_of register_move_of without_a alternate_of behind
restored_mnemonic = record { plain = refl; undirected = refl; found = refl }

pub done_mnemonic : IsMnemonic (codes "done") (One (form shape.Nothing (template.Fixed insn.Done)))
unfolding forms_of branch_condition branch_of trap_of move_of register_branch_of register_move_of without_a alternate_of behind
done_mnemonic = record { plain = refl; undirected = refl; found = refl }

pub retry_mnemonic : IsMnemonic (codes "retry") (One (form shape.Nothing (template.Fixed insn.Retry)))
unfolding forms_of branch_condition branch_of trap_of move_of register_branch_of register_move_of without_a alternate_of behind
retry_mnemonic = record { plain = refl; undirected = refl; found = refl }
