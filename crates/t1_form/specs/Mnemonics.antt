-- The mnemonics, and the forms of each.
use Rattle.std.specs.Prelude.{ℕ, ◌-◌, ◌==◌, ◌&&◌, nat_lt, if◌then◌else◌, true, false, List, [], ◌∷◌, length, take, get_or, Option, Some, None, codes, pos}
use Rattle.t1_insn.specs.declared.operation.AluOp.TheVariants as alu
use Rattle.t1_insn.specs.declared.operation.ShiftOp.TheVariants as shifts
use Rattle.t1_insn.specs.declared.operation.LoadKind.TheVariants as load
use Rattle.t1_insn.specs.declared.operation.StoreKind.TheVariants as store
use Rattle.t1_insn.specs.declared.instruction.Insn.TheVariants as insn
use Rattle.t1_insn.specs.declared.operand.Src.TheVariants as operand
use Rattle.t1_form.specs.Options.{◌>>=◌, or_try}
use Rattle.t1_form.specs.Names.{named, behind, condition_names, register_condition_names}
use Rattle.t1_form.specs.declared.template.Access.{Access}
use Rattle.t1_form.specs.declared.template.Access.TheVariants as access
use Rattle.t1_form.specs.declared.template.Space.{Space}
use Rattle.t1_form.specs.declared.template.Space.TheVariants.{Plain, Named, Asi}
use Rattle.t1_form.specs.declared.template.Template.{Template}
use Rattle.t1_form.specs.declared.template.Template.TheVariants as template
use Rattle.t1_form.specs.declared.slot.Shape.{Shape}
use Rattle.t1_form.specs.declared.slot.Shape.TheVariants as shape
use Rattle.t1_form.specs.declared.form.Form.{Form}
use Rattle.t1_form.specs.declared.form.Forms.{Forms}
use Rattle.t1_form.specs.declared.form.Forms.TheVariants.{One, Two}

-- a form of these operands, which are put into this template
abbrev pub form : Shape → Template → Form
form shape template = record { shape = shape; template = template }

-- accesses to memory
abbrev pub access_names : List (List ℕ × Access)
access_names =
    (codes "lduw", access.Load load.Uw) ∷
    (codes "ld", access.Load load.Uw) ∷
    (codes "ldub", access.Load load.Ub) ∷
    (codes "lduh", access.Load load.Uh) ∷
    (codes "ldtw", access.Load load.Tw) ∷
    (codes "ldd", access.Load load.Tw) ∷
    (codes "ldsw", access.Load load.Sw) ∷
    (codes "ldsb", access.Load load.Sb) ∷
    (codes "ldsh", access.Load load.Sh) ∷
    (codes "ldx", access.Load load.X) ∷
    (codes "stw", access.Store store.W) ∷
    (codes "st", access.Store store.W) ∷
    (codes "stb", access.Store store.B) ∷
    (codes "sth", access.Store store.H) ∷
    (codes "sttw", access.Store store.Tw) ∷
    (codes "std", access.Store store.Tw) ∷
    (codes "stx", access.Store store.X) ∷
    (codes "ldstub", access.Ldstub) ∷
    (codes "swap", access.Swap) ∷
    []

-- the other mnemonics
abbrev pub other_names : List (List ℕ × Forms)
other_names =
    (codes "add", One (form shape.Three (template.Alu alu.Add false))) ∷
    (codes "and", One (form shape.Three (template.Alu alu.And false))) ∷
    (codes "or", One (form shape.Three (template.Alu alu.Or false))) ∷
    (codes "xor", One (form shape.Three (template.Alu alu.Xor false))) ∷
    (codes "sub", One (form shape.Three (template.Alu alu.Sub false))) ∷
    (codes "andn", One (form shape.Three (template.Alu alu.Andn false))) ∷
    (codes "orn", One (form shape.Three (template.Alu alu.Orn false))) ∷
    (codes "xnor", One (form shape.Three (template.Alu alu.Xnor false))) ∷
    (codes "sethi", One (form shape.NumberRd template.Sethi)) ∷
    (codes "set", One (form shape.NumberRd template.Set)) ∷
    (codes "call", One (form shape.Target template.Call)) ∷
    (codes "nop", One (form shape.Nothing (template.Fixed (insn.Sethi 0 0)))) ∷
    (codes "mov", One (form shape.OperandRd (template.Alu alu.Or false))) ∷
    (codes "cmp", One (form shape.Compare (template.Alu alu.Sub true))) ∷
    (codes "addc", One (form shape.Three (template.Alu alu.Addc false))) ∷
    (codes "mulx", One (form shape.Three (template.Alu alu.Mulx false))) ∷
    (codes "umul", One (form shape.Three (template.Alu alu.Umul false))) ∷
    (codes "smul", One (form shape.Three (template.Alu alu.Smul false))) ∷
    (codes "subc", One (form shape.Three (template.Alu alu.Subc false))) ∷
    (codes "udivx", One (form shape.Three (template.Alu alu.Udivx false))) ∷
    (codes "udiv", One (form shape.Three (template.Alu alu.Udiv false))) ∷
    (codes "sdiv", One (form shape.Three (template.Alu alu.Sdiv false))) ∷
    (codes "sdivx", One (form shape.Three (template.Alu alu.Sdivx false))) ∷
    (codes "addcc", One (form shape.Three (template.Alu alu.Add true))) ∷
    (codes "andcc", One (form shape.Three (template.Alu alu.And true))) ∷
    (codes "orcc", One (form shape.Three (template.Alu alu.Or true))) ∷
    (codes "xorcc", One (form shape.Three (template.Alu alu.Xor true))) ∷
    (codes "subcc", One (form shape.Three (template.Alu alu.Sub true))) ∷
    (codes "andncc", One (form shape.Three (template.Alu alu.Andn true))) ∷
    (codes "orncc", One (form shape.Three (template.Alu alu.Orn true))) ∷
    (codes "xnorcc", One (form shape.Three (template.Alu alu.Xnor true))) ∷
    (codes "addccc", One (form shape.Three (template.Alu alu.Addc true))) ∷
    (codes "umulcc", One (form shape.Three (template.Alu alu.Umul true))) ∷
    (codes "smulcc", One (form shape.Three (template.Alu alu.Smul true))) ∷
    (codes "subccc", One (form shape.Three (template.Alu alu.Subc true))) ∷
    (codes "udivcc", One (form shape.Three (template.Alu alu.Udiv true))) ∷
    (codes "sdivcc", One (form shape.Three (template.Alu alu.Sdiv true))) ∷
    (codes "taddcc", One (form shape.Three (template.Alu alu.Taddcc true))) ∷
    (codes "tsubcc", One (form shape.Three (template.Alu alu.Tsubcc true))) ∷
    (codes "taddcctv", One (form shape.Three (template.Alu alu.TaddccTv true))) ∷
    (codes "tsubcctv", One (form shape.Three (template.Alu alu.TsubccTv true))) ∷
    (codes "mulscc", One (form shape.Three (template.Alu alu.Mulscc true))) ∷
    (codes "sll", One (form shape.Three (template.Shift shifts.Sll false))) ∷
    (codes "srl", One (form shape.Three (template.Shift shifts.Srl false))) ∷
    (codes "sra", One (form shape.Three (template.Shift shifts.Sra false))) ∷
    (codes "sllx", One (form shape.Three (template.Shift shifts.Sll true))) ∷
    (codes "srlx", One (form shape.Three (template.Shift shifts.Srl true))) ∷
    (codes "srax", One (form shape.Three (template.Shift shifts.Sra true))) ∷
    (codes "jmpl", One (form shape.JumpRd template.Jmpl)) ∷
    (codes "jmp", One (form shape.Jump template.Jmpl)) ∷
    (codes "return", One (form shape.Jump template.Return)) ∷
    (codes "flush", One (form shape.Jump template.Flush)) ∷
    (codes "save", Two (form shape.Three template.Save) (form shape.Nothing template.Save)) ∷
    (codes "restore", Two (form shape.Three template.Restore) (form shape.Nothing template.Restore)) ∷
    (codes "ret", One (form shape.Nothing (template.Fixed (insn.Jmpl 0 31 (operand.Imm (pos 8)))))) ∷
    (codes "retl", One (form shape.Nothing (template.Fixed (insn.Jmpl 0 15 (operand.Imm (pos 8)))))) ∷
    (codes "flushw", One (form shape.Nothing (template.Fixed insn.Flushw))) ∷
    (codes "saved", One (form shape.Nothing (template.Fixed insn.Saved))) ∷
    (codes "restored", One (form shape.Nothing (template.Fixed insn.Restored))) ∷
    (codes "done", One (form shape.Nothing (template.Fixed insn.Done))) ∷
    (codes "retry", One (form shape.Nothing (template.Fixed insn.Retry))) ∷
    (codes "stbar", One (form shape.Nothing (template.Fixed insn.Stbar))) ∷
    (codes "tst", One (form shape.Test (template.Alu alu.Or true))) ∷
    (codes "clr", One (form shape.OnlyRd (template.Alu alu.Or false))) ∷
    (codes "inc", One (form shape.Step (template.Alu alu.Add false))) ∷
    (codes "dec", One (form shape.Step (template.Alu alu.Sub false))) ∷
    (codes "not", One (form shape.Turn (template.Alu alu.Xnor false))) ∷
    (codes "neg", One (form shape.Negate (template.Alu alu.Sub false))) ∷
    (codes "membar", Two (form shape.Barrier template.Membar) (form shape.BarrierNumber template.Membar)) ∷
    (codes "rd", One (form shape.ReadState template.ReadAsr)) ∷
    (codes "wr", One (form shape.WriteState template.WriteAsr)) ∷
    (codes "rdpr", One (form shape.ReadPrivileged template.ReadPr)) ∷
    (codes "wrpr", One (form shape.WritePrivileged template.WritePr)) ∷
    (codes "prefetch", One (form shape.Fetch (template.Prefetch Plain))) ∷
    (codes "prefetcha", Two (form shape.FetchNamed (template.Prefetch Named)) (form shape.FetchAsi (template.Prefetch Asi))) ∷
    (codes "cas", One (form shape.Compared (template.Cas false Named))) ∷
    (codes "casx", One (form shape.Compared (template.Cas true Named))) ∷
    (codes "casa", Two (form shape.ComparedNamed (template.Cas false Named)) (form shape.ComparedAsi (template.Cas false Asi))) ∷
    (codes "casxa", Two (form shape.ComparedNamed (template.Cas true Named)) (form shape.ComparedAsi (template.Cas true Asi))) ∷
    (codes "illtrap", One (form shape.Number template.Illtrap)) ∷
    []

-- [A], r; and r, [A] of a store
abbrev pub shape_of : Access → Space → Shape
shape_of (access.Store kind) Plain = shape.Store
shape_of (access.Store kind) Named = shape.StoreNamed
shape_of (access.Store kind) Asi = shape.StoreAsi
shape_of _ Plain = shape.Load
shape_of _ Named = shape.LoadNamed
shape_of _ Asi = shape.LoadAsi

abbrev pub access_form : Access → Space → Form
access_form a space = form (shape_of a space) (template.Access a space)

-- b alone is ba
unfoldable pub branch_condition : List ℕ → Option ℕ
branch_condition [] = Some 8
branch_condition (c ∷ cs) = named (c ∷ cs) condition_names

unfoldable pub branch_of : List ℕ → Option ℕ
branch_of name = do
  c ← behind (codes "b") name
  branch_condition c

unfoldable pub trap_of : List ℕ → Option ℕ
trap_of name = do
  c ← behind (codes "t") name
  named c condition_names

unfoldable pub move_of : List ℕ → Option ℕ
move_of name = do
  c ← behind (codes "mov") name
  named c condition_names

unfoldable pub register_branch_of : List ℕ → Option ℕ
register_branch_of name = do
  c ← behind (codes "br") name
  named c register_condition_names

unfoldable pub register_move_of : List ℕ → Option ℕ
register_move_of name = do
  c ← behind (codes "movr") name
  named c register_condition_names

-- an a stands after the mnemonic
unfoldable pub without_a : List ℕ → Option (List ℕ)
without_a name = if nat_lt 0 (length name) && (get_or name (length name - 1) 0 == 97) then Some (take (length name - 1) name) else None

unfoldable pub alternate_of : List ℕ → Option Access
alternate_of name = do
  plain ← without_a name
  named plain access_names

unfoldable pub forms_of : List ℕ → Option Forms
forms_of name =
    or_try (branch_of name) (λ c. Some (Two (form shape.BranchIcc (template.Bicc c)) (form shape.BranchCodes (template.Bpcc c))))
    (or_try (named name access_names) (λ a. Some (One (access_form a Plain)))
    (or_try (named name other_names) (λ forms. Some forms)
    (or_try (alternate_of name) (λ a. Some (Two (access_form a Named) (access_form a Asi)))
    (or_try (trap_of name) (λ c. Some (Two (form shape.TrapIcc (template.Trap c)) (form shape.TrapCodes (template.Trap c))))
    (or_try (move_of name) (λ c. Some (One (form shape.MoveCodes (template.Movcc c))))
    (or_try (register_branch_of name) (λ c. Some (One (form shape.BranchRegister (template.Bpr c))))
    (or_try (register_move_of name) (λ c. Some (One (form shape.Three (template.Movr c))))
    None)))))))
