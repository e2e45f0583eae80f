-- The numbers of a need fit: what a store or an atomic puts, and the type of a trap.
use Rattle.std.proofs.Common.{◌≡◌, ℕ, zero, suc, ◌+◌, ◌*◌, ◌/◌, ◌%◌, ◌^◌, ◌<◌, ◌≤◌, ◌==◌, ◌&&◌, not, nat_lt, Bool, true, false, cond, if◌then◌else◌, List, [], ◌∷◌, Option, Some, None, Result, Ok, Err, refl, inl, inr, arith}
use Rattle.std.proofs.lemmas.Bool.{cases_Bool}
use Rattle.std.proofs.lemmas.Nat.{mod_below, mul-le, pow_pos}
use Rattle.t1_num.specs.Fields.{flip_of}
use Rattle.t1_insn.specs.declared.instruction.Insn.{Insn}
use Rattle.t1_insn.specs.declared.instruction.Insn.TheVariants as insn
use Rattle.t1_insn.specs.declared.operation.StoreKind.{StoreKind}
use Rattle.t1_insn.specs.declared.operation.StoreKind.TheVariants as store
use Rattle.t1_alu.specs.declared.outcome.AluOut.{AluOut}
use Rattle.t1_alu.specs.declared.outcome.AluTrap.{AluTrap}
use Rattle.t1_alu.specs.declared.outcome.AluTrap.TheVariants.{DivZero, Tag}
use Rattle.t1_alu.specs.Conditions.{holds_of}
use Rattle.t1_win.specs.declared.windows.Windows.{Windows}
use Rattle.t1_win.specs.Ring.{minus}
use Rattle.t1_win.specs.Moves.{spill_type, fill_type, windows_after_save, windows_after_restore, windows_after_flushw}
use Rattle.t1_state.specs.declared.strand.Strand.{Strand}
use Rattle.t1_state.specs.Registers.{reg_of}
use Rattle.t1_state.specs.Interrupts.{greatest_below, is_pending, interrupt_type, due_of}
use Rattle.t1_space.specs.Spaces.{is_listed, is_restricted, is_no_fault, is_scratchpad, is_little}
use Rattle.t1_space.specs.Places.{is_load, is_atomic, is_aligned, is_scratchpad_access, is_io, place_of}
use Rattle.t1_exec.specs.declared.access.Access.{Access}
use Rattle.t1_exec.specs.declared.need.Need.{Need}
use Rattle.t1_exec.specs.declared.need.Need.TheVariants as need
use Rattle.t1_exec.specs.declared.need.AtomicOp.TheVariants.{Cas}
use Rattle.t1_exec.specs.Operands.{xor_of, sum_of}
use Rattle.t1_exec.specs.Spaces.{space_of, cas_space, is_privileged}
use Rattle.t1_exec.specs.Values.{store_size, cas_size, in_order, stored_of}
use Rattle.t1_exec.specs.Accesses.{access_of}
use Rattle.t1_exec.specs.Traps.{traps_of, first_of, trap_if, is_below_hyper, illegal_trap, needs_privilege, privilege_trap, needs_level, level_trap, floating_trap, window_trap_in, window_trap, alu_trap_in, software_trap, operation_trap, jump_trap_at, jump_trap, place_trap, access_trap_at, access_trap}
use Rattle.t1_exec.specs.Branches.{jump_of}
use Rattle.t1_joint.proofs.Needs.{tests}
use Rattle.t1_exec.specs.Needs.{need_of, asked_of, atomic_of, asked_in, or_need, OpFits}

-- ---- values

flip_fits : (value n : ℕ) → flip_of value n < 256 ^ n
unfolding flip_of
flip_fits value zero = omega arith
flip_fits value (suc n) =
    let rest = flip_fits (value / 256) n in
    let low : value % 256 ≤ 255 = omega arith in
    let most : value % 256 * 256 ^ n ≤ 255 * 256 ^ n = mul-le (value % 256) (256 ^ n) 255 (256 ^ n) low (omega arith) in
    let whole : 256 ^ suc n ≡ 256 * 256 ^ n = grind arith in
    omega (arith, rest, most, whole)

-- so many low bytes, in either order
order_fits : (little : Bool) (size value : ℕ) → 256 ^ size ≡ 2 ^ (8 * size) → in_order little size value < 2 ^ (8 * size)
unfolding in_order
order_fits true size value e = let l = flip_fits value size in omega (arith, l, e)
order_fits false size value e = mod_below value (2 ^ (8 * size)) (pow_pos (8 * size))

stored_fits : (s : Strand) (kind : StoreKind) (rd : ℕ) (little : Bool) → stored_of s kind rd little < 2 ^ (8 * store_size kind)
unfolding stored_of
stored_fits s store.B rd little = order_fits little 1 (reg_of s rd) refl
stored_fits s store.H rd little = order_fits little 2 (reg_of s rd) refl
stored_fits s store.W rd little = order_fits little 4 (reg_of s rd) refl
stored_fits s store.X rd little = order_fits little 8 (reg_of s rd) refl
stored_fits s store.Tw rd little =
    let a : in_order little 4 (reg_of s rd) < 2 ^ 32 = order_fits little 4 (reg_of s rd) refl in
    let b : in_order little 4 (reg_of s (rd + 1)) < 2 ^ 32 = order_fits little 4 (reg_of s (rd + 1)) refl in
    omega (arith, a, b)

-- ---- traps

abbrev pub IsSmall : Option ℕ → Type 0
IsSmall None = Unit {0}
IsSmall (Some number) = number < 512

if_small : (b : Bool) (number : ℕ) → number < 512 → IsSmall (trap_if b number)
if_small true number l = l
if_small false number l = tt

illegal_small : (s : Strand) (i : Insn) → IsSmall (illegal_trap s i)
unfolding illegal_trap
illegal_small s insn.Illegal = omega arith
illegal_small s (insn.ReadHpr reg rd) = if_small (is_below_hyper s) 0x010 (omega arith)
illegal_small s (insn.WriteHpr reg rs1 src) = if_small (is_below_hyper s) 0x010 (omega arith)
illegal_small s _ = tt

privilege_small : (s : Strand) (i : Insn) → IsSmall (privilege_trap s i)
unfolding privilege_trap
privilege_small s i = if_small (needs_privilege i && not (is_privileged s)) 0x011 (omega arith)

level_small : (s : Strand) (i : Insn) → IsSmall (level_trap s i)
unfolding level_trap
level_small s i = if_small (needs_level i && (s.tl == 0)) 0x010 (omega arith)

floating_small : (i : Insn) → IsSmall (floating_trap i)
unfolding floating_trap
floating_small insn.FpOff = omega arith
floating_small _ = tt

type_small : (b : Bool) (x y : ℕ) → x < 512 → y < 512 → (if b then x else y) < 512
type_small true x y p q = p
type_small false x y p q = q

spill_small : (w : Windows) → spill_type w < 512
spill_small w = type_small (w.otherwin == 0) _ _ (omega arith) (omega arith)

fill_small : (w : Windows) → fill_type w < 512
fill_small w = type_small (w.otherwin == 0) _ _ (omega arith) (omega arith)

save_small : (w : Windows) → IsSmall (window_trap_in (windows_after_save w))
unfolding windows_after_save
save_small w =
    elim (cases_Bool (w.cansave == 0)) [
      | inl e ↦ rw e (spill_small w)
      | inr e ↦ elim (cases_Bool (minus w.cleanwin w.canrestore == 0)) [ inl f ↦ rw (e, f) (omega arith) | inr f ↦ rw (e, f) tt ]
    ]

restore_small : (w : Windows) → IsSmall (window_trap_in (windows_after_restore w))
unfolding windows_after_restore
restore_small w = elim (cases_Bool (w.canrestore == 0)) [ inl e ↦ rw e (fill_small w) | inr e ↦ rw e tt ]

flushw_small : (w : Windows) → IsSmall (window_trap_in (windows_after_flushw w))
unfolding windows_after_flushw
flushw_small w = elim (cases_Bool (w.cansave == 6)) [ inl e ↦ rw e tt | inr e ↦ rw e (spill_small w) ]

window_small : (s : Strand) (i : Insn) → IsSmall (window_trap s i)
unfolding window_trap
window_small s (insn.Save rd rs1 src) = save_small s.win
window_small s (insn.Restore rd rs1 src) = restore_small s.win
window_small s (insn.Return rs1 src) = restore_small s.win
window_small s insn.Flushw = flushw_small s.win
window_small s _ = tt

alu_small : (r : Result AluOut AluTrap) → IsSmall (alu_trap_in r)
alu_small (Ok out) = tt
alu_small (Err Tag) = omega arith
alu_small (Err DivZero) = omega arith

software_small : (b : Bool) (sum : ℕ) → software_trap b sum < 256
software_small true sum = omega arith
software_small false sum = omega arith

operation_small : (s : Strand) (i : Insn) → IsSmall (operation_trap s i)
unfolding operation_trap
operation_small s (insn.Alu op cc rd rs1 src) = alu_small _
operation_small s (insn.Trap cond wide rs1 src) =
    if_small (holds_of cond s.ccr wide) _ (let l = software_small (is_privileged s) (sum_of s rs1 src) in omega (arith, l))
operation_small s _ = tt

jump_small : (s : Strand) (i : Insn) → IsSmall (jump_trap s i)
unfolding jump_trap
jump_small s i = by (jump_of s i)
  where
    by : (o : Option ℕ) → IsSmall (jump_trap_at o)
    by (Some target) = if_small (not (target % 4 == 0)) 0x034 (omega arith)
    by None = tt

tests_small : (a b c d e f : Bool) (n : ℕ) (g h k : Bool) → IsSmall (place_trap (tests a b c d e f n g h k))
tests_small true b c d e f n g h k = omega arith
tests_small false true c d e f n g h k = omega arith
tests_small false false true d e f n g h k = omega arith
tests_small false false false true e f n g h k = omega arith
tests_small false false false false true f n g h k = omega arith
tests_small false false false false false true n g h k = tt
tests_small false false false false false false n true h k = tt
tests_small false false false false false false n false true k = omega arith
tests_small false false false false false false n false false true = tt
tests_small false false false false false false n false false false = omega arith

access_small : (s : Strand) (i : Insn) (ram : ℕ) → IsSmall (access_trap s i ram)
unfolding access_trap place_of
access_small s i ram = by (access_of s i)
  where
    by : (o : Option Access) → IsSmall (access_trap_at s o ram)
    by (Some a) =
        tests_small (not (is_aligned a.addr a.size)) (not a.implicit && is_restricted a.space && not (is_privileged s)) (not (is_listed a.space)) (is_no_fault a.space && not (is_load a.touch))
        (is_scratchpad a.space && not (is_scratchpad_access a.addr a.whole)) (is_scratchpad a.space) (a.addr / 8) (nat_lt a.addr ram) (is_io a.addr && is_atomic a.touch) (is_io a.addr)
    by None = tt

abbrev AllSmall : List (Option ℕ) → Type 0
AllSmall [] = Unit {0}
AllSmall (o ∷ os) = IsSmall o × AllSmall os

first_small : (os : List (Option ℕ)) → AllSmall os → IsSmall (first_of os)
first_small [] a = tt
first_small (None ∷ os) a = first_small os a.1
first_small (Some number ∷ os) a = a.0

greatest_small : (n : ℕ) (test : ℕ → Bool) → n ≤ 16 → IsSmall (interrupt_type (greatest_below n test))
unfolding greatest_below
greatest_small zero test l = tt
greatest_small (suc n) test l = by (test n) (greatest_small n test (omega (arith, l)))
  where
    by : (b : Bool) → IsSmall (interrupt_type (greatest_below n test)) → IsSmall (interrupt_type (if b then Some n else greatest_below n test))
    by true more = omega (arith, l)
    by false more = more

pub due_small : (s : Strand) → IsSmall (due_of s)
unfolding due_of
due_small s = greatest_small 16 (is_pending s) (omega arith)

-- ---- needs

abbrev pub IsSmallNeed : Need → Type 0
IsSmallNeed need.Plain = Unit {0}
IsSmallNeed need.Halt = Unit {0}
IsSmallNeed need.Flush = Unit {0}
IsSmallNeed (need.Membar mask) = Unit {0}
IsSmallNeed (need.Load addr size) = Unit {0}
IsSmallNeed (need.Store addr size value) = value < 2 ^ (8 * size)
IsSmallNeed (need.Atomic addr size op) = OpFits size op
IsSmallNeed (need.Trap number) = number < 512

in_small : (space : ℕ) (asked : Need) → IsSmallNeed asked → IsSmallNeed (asked_in space asked)
in_small space asked p = elim (cases_Bool (is_scratchpad space)) [ inl e ↦ rw e tt | inr e ↦ rw e p ]

halt_small : (b : Bool) → IsSmallNeed (if b then need.Halt else need.Plain)
halt_small true = tt
halt_small false = tt

cas_small : (wide : Bool) (little : Bool) (expect new : ℕ) → OpFits (cas_size wide) (Cas (in_order little (cas_size wide) expect) (in_order little (cas_size wide) new))
cas_small true little expect new = (order_fits little 8 expect refl, order_fits little 8 new refl)
cas_small false little expect new = (order_fits little 4 expect refl, order_fits little 4 new refl)

asked_small : (s : Strand) (i : Insn) → IsSmallNeed (asked_of s i)
unfolding asked_of atomic_of
asked_small s (insn.Load kind rd rs1 mem) = in_small (space_of s mem) _ tt
asked_small s (insn.Store kind rd rs1 mem) = in_small (space_of s mem) _ (stored_fits s kind rd (is_little (space_of s mem)))
asked_small s (insn.Ldstub rd rs1 mem) = omega arith
asked_small s (insn.Swap rd rs1 mem) = order_fits (is_little (space_of s mem)) 4 (reg_of s rd) refl
asked_small s (insn.Cas wide rd rs1 rs2 asi) = cas_small wide (is_little (cas_space s asi)) (reg_of s rs2) (reg_of s rd)
asked_small s (insn.WriteAsr asr rs1 src) = halt_small ((asr == 0x1a) && (xor_of s rs1 src % 2 == 0))
asked_small s _ = tt

or_small : (o : Option ℕ) (asked : Need) → IsSmall o → IsSmallNeed asked → IsSmallNeed (or_need o asked)
or_small (Some number) asked l p = l
or_small None asked l p = p

pub need_small : (s : Strand) (i : Insn) (ram : ℕ) → IsSmallNeed (need_of s i ram)
unfolding need_of
need_small s i ram =
    or_small (first_of (traps_of s i ram)) (asked_of s i)
    (first_small (traps_of s i ram)
    (illegal_small s i, (privilege_small s i, (level_small s i, (floating_small i, (window_small s i, (operation_small s i, (jump_small s i, (access_small s i ram, tt)))))))))
    (asked_small s i)
