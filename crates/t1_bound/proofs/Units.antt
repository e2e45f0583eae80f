-- An instruction counts one unit, and so does a trap that is taken.
use Rattle.std.proofs.Common.{◌≡◌, ◌+◌, ◌==◌, ◌&&◌, nat_lt, ℕ, Bool, true, false, Result, Ok, Err, refl, if◌then◌else◌}
use Rattle.t1_insn.specs.declared.operation.LoadKind.{LoadKind}
use Rattle.t1_insn.specs.declared.operation.LoadKind.TheVariants as load
use Rattle.t1_insn.specs.declared.instruction.Insn.{Insn}
use Rattle.t1_insn.specs.declared.instruction.Insn.TheVariants as insn
use Rattle.t1_alu.specs.declared.outcome.AluOut.{AluOut}
use Rattle.t1_alu.specs.declared.outcome.AluTrap.{AluTrap}
use Rattle.t1_alu.specs.Conditions.{holds_of}
use Rattle.t1_win.specs.declared.windows.Windows.{Windows}
use Rattle.t1_win.specs.declared.windows.WinTrap.{WinTrap}
use Rattle.t1_win.specs.Moves.{windows_after_save, windows_after_restore}
use Rattle.t1_state.specs.declared.strand.Strand.{Strand}
use Rattle.t1_state.specs.Registers.{with_reg}
use Rattle.t1_state.specs.Ancillary.{with_asr}
use Rattle.t1_state.specs.Privileged.{with_privileged}
use Rattle.t1_state.specs.Hyper.{with_hpr}
use Rattle.t1_state.specs.Traps.{in_handler, returned_to}
use Rattle.t1_space.specs.Spaces.{is_scratchpad}
use Rattle.t1_exec.specs.Arithmetic.{alu_result, computed}
use Rattle.t1_exec.specs.Branches.{is_always, gone_to, branched, branched_on_codes}
use Rattle.t1_exec.specs.Meanings.{with_reg_if, in_windows, moved, is_missing, with_privileged_read, with_privileged_written, is_missing_hyper, with_hyper_read, with_hyper_written, after_done, after_retry, loaded, stored, accessed, managed, acted, gone_on, after_of}

same_if : (b : Bool) (n : ℕ) (s t : Strand) → s.units ≡ n → t.units ≡ n → (if b then s else t).units ≡ n
same_if true n s t p q = p
same_if false n s t p q = q

one_more : (a b : ℕ) → a ≡ b → a + 1 ≡ b + 1
one_more a b e = rw e refl

-- ---- what counts none

pub reg_units : (s : Strand) (rd value : ℕ) → (with_reg s rd value).units ≡ s.units
unfolding with_reg
reg_units s rd value = same_if (rd == 0) s.units _ _ refl (same_if (nat_lt rd 8) s.units _ _ refl refl)

reg_if_units : (b : Bool) (s : Strand) (rd value : ℕ) → (with_reg_if b s rd value).units ≡ s.units
reg_if_units true s rd value = reg_units s rd value
reg_if_units false s rd value = refl

asr_units : (s : Strand) (asr value : ℕ) → (with_asr s asr value).units ≡ s.units
unfolding with_asr
asr_units s asr value =
    let n : ℕ = s.units in
    same_if (asr == 0) n _ _ refl
    (same_if (asr == 2) n _ _ refl
    (same_if (asr == 3) n _ _ refl
    (same_if (asr == 6) n _ _ refl
    (same_if (asr == 20) n _ _ refl
    (same_if (asr == 21) n _ _ refl
    (same_if (asr == 22) n _ _ refl refl))))))

privileged_units : (s : Strand) (reg value : ℕ) → (with_privileged s reg value).units ≡ s.units
unfolding with_privileged
privileged_units s reg value =
    let n : ℕ = s.units in
    same_if (reg == 0) n _ _ refl
    (same_if (reg == 1) n _ _ refl
    (same_if (reg == 2) n _ _ refl
    (same_if (reg == 3) n _ _ refl
    (same_if (reg == 5) n _ _ refl
    (same_if (reg == 6) n _ _ refl
    (same_if (reg == 7) n _ _ refl
    (same_if (reg == 8) n _ _ refl
    (same_if (reg == 9) n _ _ refl
    (same_if (reg == 10) n _ _ refl
    (same_if (reg == 11) n _ _ refl
    (same_if (reg == 12) n _ _ refl
    (same_if (reg == 13) n _ _ refl
    (same_if (reg == 14) n _ _ refl
    (same_if (reg == 16) n _ _ refl refl))))))))))))))

read_units : (s : Strand) (reg rd : ℕ) → (with_privileged_read s reg rd).units ≡ s.units
unfolding with_privileged_read
read_units s reg rd = same_if (is_missing s reg) s.units _ _ refl (reg_units s rd _)

written_units : (s : Strand) (reg value : ℕ) → (with_privileged_written s reg value).units ≡ s.units
unfolding with_privileged_written
written_units s reg value = same_if (is_missing s reg) s.units _ _ refl (privileged_units s reg value)

hpr_units : (s : Strand) (reg value : ℕ) → (with_hpr s reg value).units ≡ s.units
unfolding with_hpr
hpr_units s reg value =
    let n : ℕ = s.units in
    same_if (reg == 0) n _ _ refl
    (same_if (reg == 1) n _ _ refl
    (same_if (reg == 5) n _ _ refl refl))

hyper_read_units : (s : Strand) (reg rd : ℕ) → (with_hyper_read s reg rd).units ≡ s.units
unfolding with_hyper_read
hyper_read_units s reg rd = same_if (is_missing_hyper s reg) s.units _ _ refl (reg_units s rd _)

hyper_written_units : (s : Strand) (reg value : ℕ) → (with_hyper_written s reg value).units ≡ s.units
unfolding with_hyper_written
hyper_written_units s reg value = same_if (is_missing_hyper s reg) s.units _ _ refl (hpr_units s reg value)

moved_units : (s : Strand) (r : Result Windows WinTrap) (rd value : ℕ) → (moved s r rd value).units ≡ s.units
unfolding moved
moved_units s (Ok windows) rd value = reg_units (record s { win = windows }) rd value
moved_units s (Err trap) rd value = refl

windows_units : (s : Strand) (r : Result Windows WinTrap) → (in_windows s r).units ≡ s.units
windows_units s (Ok windows) = refl
windows_units s (Err trap) = refl

twin_units : (s : Strand) (rd first second : ℕ) → (with_reg (with_reg s rd first) (rd + 1) second).units ≡ s.units
twin_units s rd first second = rw (reg_units (with_reg s rd first) (rd + 1) second) (reg_units s rd first)

loaded_units : (s : Strand) (kind : LoadKind) (space addr rd value : ℕ) → (loaded s kind space addr rd value).units ≡ s.units
unfolding loaded
loaded_units s load.Tw space addr rd value = twin_units s rd _ _
loaded_units s load.Uw space addr rd value = reg_units s rd _
loaded_units s load.Ub space addr rd value = reg_units s rd _
loaded_units s load.Uh space addr rd value = reg_units s rd _
loaded_units s load.Sw space addr rd value = reg_units s rd _
loaded_units s load.Sb space addr rd value = reg_units s rd _
loaded_units s load.Sh space addr rd value = reg_units s rd _
loaded_units s load.X space addr rd value = reg_units s rd _

stored_units : (s : Strand) (space addr rd : ℕ) → (stored s space addr rd).units ≡ s.units
unfolding stored
stored_units s space addr rd = same_if (is_scratchpad space) s.units _ _ refl refl

computed_units : (s : Strand) (cc : Bool) (rd : ℕ) (r : Result AluOut AluTrap) → (computed s cc rd r).units ≡ s.units
unfolding computed
computed_units s cc rd (Ok out) = reg_units _ rd out.value
computed_units s cc rd (Err trap) = refl

-- ---- what counts one

branched_units : (s : Strand) (taken annul : Bool) (target : ℕ) → (branched s taken annul target).units ≡ s.units + 1
unfolding gone_to
branched_units s true annul target = refl
branched_units s false true target = refl
branched_units s false false target = refl

codes_units : (s : Strand) (cond : ℕ) (wide annul : Bool) (target : ℕ) → (branched_on_codes s cond wide annul target).units ≡ s.units + 1
unfolding branched_on_codes gone_to
codes_units s cond wide annul target = same_if (is_always cond && annul) (s.units + 1) _ _ refl (branched_units s (holds_of cond s.ccr wide) annul target)

done_units : (s : Strand) → (after_done s).units ≡ s.units + 1
unfolding after_done returned_to
done_units s = one_more _ s.units (same_if (s.tl == 0) s.units _ _ refl refl)

retry_units : (s : Strand) → (after_retry s).units ≡ s.units + 1
unfolding after_retry returned_to
retry_units s = one_more _ s.units (same_if (s.tl == 0) s.units _ _ refl refl)

pub after_units : (s : Strand) (i : Insn) (value : ℕ) → (after_of s i value).units ≡ s.units + 1
unfolding after_of gone_on acted managed accessed gone_to
after_units s (insn.Alu op cc rd rs1 src) value = one_more _ s.units (computed_units s cc rd (alu_result s op rs1 src))
after_units s (insn.Bpcc cond annul wide taken disp) value = codes_units s cond wide annul _
after_units s (insn.Bicc cond annul disp) value = codes_units s cond false annul _
after_units s (insn.Bpr rcond annul taken rs1 disp) value = branched_units s _ annul _
after_units s (insn.Call disp) value = one_more _ s.units (reg_units s 15 s.pc)
after_units s (insn.Jmpl rd rs1 src) value = one_more _ s.units (reg_units s rd s.pc)
after_units s (insn.Return rs1 src) value = one_more _ s.units (windows_units s (windows_after_restore s.win))
after_units s insn.Done value = done_units s
after_units s insn.Retry value = retry_units s
after_units s (insn.Sethi rd imm) value = one_more _ s.units (reg_units s rd _)
after_units s (insn.Shift op wide rd rs1 src) value = one_more _ s.units (reg_units s rd _)
after_units s (insn.Movcc cond wide rd src) value = one_more _ s.units (reg_if_units _ s rd _)
after_units s (insn.Movr rcond rd rs1 src) value = one_more _ s.units (reg_if_units _ s rd _)
after_units s (insn.Save rd rs1 src) value = one_more _ s.units (moved_units s (windows_after_save s.win) rd _)
after_units s (insn.Restore rd rs1 src) value = one_more _ s.units (moved_units s (windows_after_restore s.win) rd _)
after_units s insn.Saved value = refl
after_units s insn.Restored value = refl
after_units s (insn.ReadAsr asr rd) value = one_more _ s.units (reg_units s rd _)
after_units s (insn.WriteAsr asr rs1 src) value = one_more _ s.units (asr_units s asr _)
after_units s (insn.ReadPr reg rd) value = one_more _ s.units (read_units s reg rd)
after_units s (insn.WritePr reg rs1 src) value = one_more _ s.units (written_units s reg _)
after_units s (insn.ReadHpr reg rd) value = one_more _ s.units (hyper_read_units s reg rd)
after_units s (insn.WriteHpr reg rs1 src) value = one_more _ s.units (hyper_written_units s reg _)
after_units s (insn.Load kind rd rs1 mem) value = one_more _ s.units (loaded_units s kind _ _ rd value)
after_units s (insn.Store kind rd rs1 mem) value = one_more _ s.units (stored_units s _ _ rd)
after_units s (insn.Ldstub rd rs1 mem) value = one_more _ s.units (reg_units s rd value)
after_units s (insn.Swap rd rs1 mem) value = one_more _ s.units (reg_units s rd _)
after_units s (insn.Cas wide rd rs1 rs2 asi) value = one_more _ s.units (reg_units s rd _)
after_units s insn.Illegal value = refl
after_units s insn.FpOff value = refl
after_units s insn.Stbar value = refl
after_units s insn.Flushw value = refl
after_units s (insn.Membar mask) value = refl
after_units s (insn.Flush rs1 src) value = refl
after_units s (insn.Trap cond wide rs1 src) value = refl
after_units s (insn.Prefetch fcn rs1 mem) value = refl

-- a trap that is taken
pub handler_units : (s : Strand) (number : ℕ) → (in_handler s number).units ≡ s.units + 1
unfolding in_handler
handler_units s number = refl
