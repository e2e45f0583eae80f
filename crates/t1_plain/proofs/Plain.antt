-- A strand without hyperprivileged mode stays without it.
use Rattle.std.proofs.Common.{◌≡◌, ◌+◌, ◌-◌, ◌*◌, ◌==◌, ◌&&◌, ◌||◌, nat_lt, ℕ, zero, suc, Bool, true, false, List, [], ◌∷◌, Option, Some, None, get_or, slice_set, replicate, Result, Ok, Err, refl, sym, subst, if◌then◌else◌}
use Rattle.t1_insn.specs.declared.operand.Src.{Src}
use Rattle.t1_insn.specs.declared.operation.LoadKind.{LoadKind}
use Rattle.t1_insn.specs.declared.operation.LoadKind.TheVariants as load
use Rattle.t1_insn.specs.declared.instruction.Insn.{Insn}
use Rattle.t1_insn.specs.declared.instruction.Insn.TheVariants as insn
use Rattle.t1_alu.specs.declared.outcome.AluOut.{AluOut}
use Rattle.t1_alu.specs.declared.outcome.AluTrap.{AluTrap}
use Rattle.t1_alu.specs.Conditions.{holds_of}
use Rattle.t1_win.specs.declared.windows.Windows.{Windows}
use Rattle.t1_win.specs.declared.windows.WinTrap.{WinTrap}
use Rattle.t1_win.specs.Moves.{windows_after_save, windows_after_restore}
use Rattle.t1_decode.specs.Words.{insn_of}
use Rattle.t1_state.specs.declared.strand.Frame.{Frame}
use Rattle.t1_state.specs.declared.strand.Strand.{Strand}
use Rattle.t1_state.specs.Bits.{row_or}
use Rattle.t1_state.specs.Registers.{with_reg, blank_of, start_of}
use Rattle.t1_state.specs.Ancillary.{with_asr}
use Rattle.t1_state.specs.Privileged.{with_privileged, kept_privileged, with_current_frame}
use Rattle.t1_state.specs.Interrupts.{due_of}
use Rattle.t1_state.specs.Traps.{no_frame, frame_of, frame_at, handler_of, in_handler, entered, returned_to}
use Rattle.t1_space.specs.Spaces.{is_scratchpad}
use Rattle.t1_exec.specs.declared.need.Need.{Need}
use Rattle.t1_exec.specs.declared.need.Need.TheVariants as need
use Rattle.t1_exec.specs.Arithmetic.{alu_result, computed}
use Rattle.t1_exec.specs.Branches.{is_always, gone_to, branched, branched_on_codes}
use Rattle.t1_exec.specs.Meanings.{with_reg_if, in_windows, moved, is_missing, is_missing_hyper, with_privileged_read, with_privileged_written, with_hyper_read, after_done, after_retry, loaded, stored, accessed, managed, acted, gone_on, after_of}
use Rattle.t1_exec.specs.Needs.{need_of}
use Rattle.t1_exec.specs.Traps.{illegal_trap}
use Rattle.t1_event.specs.declared.item.Item.{Item}
use Rattle.t1_event.specs.declared.report.Config.{Config}
use Rattle.t1_joint.specs.Replay.{Bounds, Replay, End, Running, Starved, Done, met, with_value, with_read, with_word, fetched, begun, begun_or_spent, is_fetchable, unit_at, units, started}
use Rattle.t1_joint.specs.Start.{start_in}
use Rattle.t1_plain.specs.Plain.{IsPlain, in_privileged_handler, HasNoHyper}

plain_if : (b : Bool) (s t : Strand) → IsPlain s → IsPlain t → IsPlain (if b then s else t)
plain_if true s t p q = p
plain_if false s t p q = q

-- ---- frames

abbrev AreClear : List Frame → Type 0
AreClear stack = (level : ℕ) → (get_or stack level no_frame).htstate ≡ 0

clear_set : (stack : List Frame) (n : ℕ) (frame : Frame) → frame.htstate ≡ 0 → AreClear stack → AreClear (slice_set stack n frame)
clear_set [] n frame e all level = all level
clear_set (f ∷ fs) zero frame e all zero = e
clear_set (f ∷ fs) zero frame e all (suc level) = all (suc level)
clear_set (f ∷ fs) (suc n) frame e all zero = all zero
clear_set (f ∷ fs) (suc n) frame e all (suc level) = clear_set fs n frame e (λ k. all (suc k)) level

clear_start : (n : ℕ) → AreClear (replicate n no_frame)
clear_start zero level = refl
clear_start (suc n) zero = refl
clear_start (suc n) (suc level) = clear_start n level

-- a frame of the current level that is changed elsewhere
frame_plain : (s : Strand) (frame : Frame) → frame.htstate ≡ 0 → IsPlain s → IsPlain (with_current_frame s frame)
frame_plain s frame e p = record { left_out = p.left_out; clear = p.clear; kept_clear = clear_set s.stack (s.tl - 1) frame e p.kept_clear }

-- ---- registers

reg_plain : (s : Strand) (rd value : ℕ) → IsPlain s → IsPlain (with_reg s rd value)
unfolding with_reg
reg_plain s rd value p = plain_if (rd == 0) s _ p (plain_if (nat_lt rd 8) _ _ p p)

reg_if_plain : (b : Bool) (s : Strand) (rd value : ℕ) → IsPlain s → IsPlain (with_reg_if b s rd value)
reg_if_plain true s rd value p = reg_plain s rd value p
reg_if_plain false s rd value p = p

asr_plain : (s : Strand) (asr value : ℕ) → IsPlain s → IsPlain (with_asr s asr value)
unfolding with_asr
asr_plain s asr value p =
    plain_if (asr == 0) _ _ p
    (plain_if (asr == 2) _ _ p
    (plain_if (asr == 3) _ _ p
    (plain_if (asr == 6) _ _ p
    (plain_if (asr == 20) _ _ p
    (plain_if (asr == 21) _ _ p
    (plain_if (asr == 22) _ _ p p))))))

abbrev AllPlain : List (ℕ × Strand) → Type 0
AllPlain [] = Unit {0}
AllPlain (row ∷ rows) = IsPlain row.1 × AllPlain rows

rows_plain : (rows : List (ℕ × Strand)) (s : Strand) (reg : ℕ) → IsPlain s → AllPlain rows → IsPlain (row_or s reg rows)
rows_plain [] s reg p all = p
rows_plain (row ∷ rows) s reg p all = plain_if (reg == row.0) row.1 (row_or s reg rows) all.0 (rows_plain rows s reg p all.1)

-- what a write of each privileged register makes
abbrev privileged_rows : Strand → ℕ → List (ℕ × Strand)
privileged_rows s kept =
    (0, with_current_frame s (record (frame_of s) { tpc = kept })) ∷
    (1, with_current_frame s (record (frame_of s) { tnpc = kept })) ∷
    (2, with_current_frame s (record (frame_of s) { tstate = kept })) ∷
    (3, with_current_frame s (record (frame_of s) { tt = kept })) ∷
    (5, record s { tba = kept }) ∷
    (6, record s { pstate = kept }) ∷
    (7, record s { tl = kept }) ∷
    (8, record s { pil = kept }) ∷
    (9, record s { win = record s.win { cwp = kept } }) ∷
    (10, record s { win = record s.win { cansave = kept } }) ∷
    (11, record s { win = record s.win { canrestore = kept } }) ∷
    (12, record s { win = record s.win { cleanwin = kept } }) ∷
    (13, record s { win = record s.win { otherwin = kept } }) ∷
    (14, record s { win = record s.win { wstate = kept } }) ∷
    (16, record s { gl = kept }) ∷
    []

privileged_is : (s : Strand) (reg value : ℕ) → with_privileged s reg value ≡ row_or s reg (privileged_rows s (kept_privileged reg value))
unfolding with_privileged
privileged_is s reg value = refl

all_privileged : (s : Strand) (kept : ℕ) → IsPlain s → AllPlain (privileged_rows s kept)
all_privileged s kept p =
    let here : (frame_of s).htstate ≡ 0 = p.kept_clear (s.tl - 1) in
    (frame_plain s _ here p, (frame_plain s _ here p, (frame_plain s _ here p, (frame_plain s _ here p, (p, (p, (p, (p, (p, (p, (p, (p, (p, (p, (p, tt)))))))))))))))

privileged_plain : (s : Strand) (reg value : ℕ) → IsPlain s → IsPlain (with_privileged s reg value)
privileged_plain s reg value p =
    subst (λ (t : Strand). IsPlain t) (sym (privileged_is s reg value))
    (rows_plain (privileged_rows s (kept_privileged reg value)) s reg p (all_privileged s (kept_privileged reg value) p))

read_plain : (s : Strand) (reg rd : ℕ) → IsPlain s → IsPlain (with_privileged_read s reg rd)
unfolding with_privileged_read
read_plain s reg rd p = plain_if (is_missing s reg) _ _ p (reg_plain s rd _ p)

written_plain : (s : Strand) (reg value : ℕ) → IsPlain s → IsPlain (with_privileged_written s reg value)
unfolding with_privileged_written
written_plain s reg value p = plain_if (is_missing s reg) _ _ p (privileged_plain s reg value p)

hyper_read_plain : (s : Strand) (reg rd : ℕ) → IsPlain s → IsPlain (with_hyper_read s reg rd)
unfolding with_hyper_read
hyper_read_plain s reg rd p = plain_if (is_missing_hyper s reg) _ _ p (reg_plain s rd _ p)

moved_plain : (s : Strand) (r : Result Windows WinTrap) (rd value : ℕ) → IsPlain s → IsPlain (moved s r rd value)
unfolding moved
moved_plain s (Ok windows) rd value p = reg_plain (record s { win = windows }) rd value p
moved_plain s (Err trap) rd value p = p

windows_plain : (s : Strand) (r : Result Windows WinTrap) → IsPlain s → IsPlain (in_windows s r)
windows_plain s (Ok windows) p = p
windows_plain s (Err trap) p = p

loaded_plain : (s : Strand) (kind : LoadKind) (space addr rd value : ℕ) → IsPlain s → IsPlain (loaded s kind space addr rd value)
unfolding loaded
loaded_plain s load.Tw space addr rd value p = reg_plain (with_reg s rd _) (rd + 1) _ (reg_plain s rd _ p)
loaded_plain s load.Uw space addr rd value p = reg_plain s rd _ p
loaded_plain s load.Ub space addr rd value p = reg_plain s rd _ p
loaded_plain s load.Uh space addr rd value p = reg_plain s rd _ p
loaded_plain s load.Sw space addr rd value p = reg_plain s rd _ p
loaded_plain s load.Sb space addr rd value p = reg_plain s rd _ p
loaded_plain s load.Sh space addr rd value p = reg_plain s rd _ p
loaded_plain s load.X space addr rd value p = reg_plain s rd _ p

stored_plain : (s : Strand) (space addr rd : ℕ) → IsPlain s → IsPlain (stored s space addr rd)
unfolding stored
stored_plain s space addr rd p = plain_if (is_scratchpad space) _ _ p p

computed_plain : (s : Strand) (cc : Bool) (rd : ℕ) (r : Result AluOut AluTrap) → IsPlain s → IsPlain (computed s cc rd r)
unfolding computed
computed_plain s cc rd (Ok out) p = reg_plain _ rd out.value p
computed_plain s cc rd (Err trap) p = p

-- ---- instructions

branched_plain : (s : Strand) (taken annul : Bool) (target : ℕ) → IsPlain s → IsPlain (branched s taken annul target)
unfolding gone_to
branched_plain s true annul target p = p
branched_plain s false true target p = p
branched_plain s false false target p = p

codes_plain : (s : Strand) (cond : ℕ) (wide annul : Bool) (target : ℕ) → IsPlain s → IsPlain (branched_on_codes s cond wide annul target)
unfolding branched_on_codes gone_to
codes_plain s cond wide annul target p = plain_if (is_always cond && annul) _ _ p (branched_plain s (holds_of cond s.ccr wide) annul target p)

returned_plain : (s : Strand) (pc npc : ℕ) → IsPlain s → IsPlain (returned_to s pc npc)
unfolding returned_to
returned_plain s pc npc p = record { left_out = p.left_out; clear = p.kept_clear (s.tl - 1); kept_clear = p.kept_clear }

done_plain : (s : Strand) → IsPlain s → IsPlain (after_done s)
unfolding after_done
done_plain s p = plain_if (s.tl == 0) _ _ p (returned_plain s _ _ p)

retry_plain : (s : Strand) → IsPlain s → IsPlain (after_retry s)
unfolding after_retry
retry_plain s p = plain_if (s.tl == 0) _ _ p (returned_plain s _ _ p)

-- a need that is no trap
abbrev IsMet : Need → Type 0
IsMet (need.Trap number) = ⊥
IsMet need.Plain = Unit {0}
IsMet need.Halt = Unit {0}
IsMet (need.Membar mask) = Unit {0}
IsMet need.Flush = Unit {0}
IsMet (need.Store addr size value) = Unit {0}
IsMet (need.Load addr size) = Unit {0}
IsMet (need.Atomic addr size op) = Unit {0}

write_traps : (s : Strand) (reg rs1 : ℕ) (src : Src) (ram : ℕ) → IsPlain s → need_of s (insn.WriteHpr reg rs1 src) ram ≡ need.Trap 0x010
unfolding need_of illegal_trap
write_traps s reg rs1 src ram p = rw p.clear refl

read_traps : (s : Strand) (reg rd ram : ℕ) → IsPlain s → need_of s (insn.ReadHpr reg rd) ram ≡ need.Trap 0x010
unfolding need_of illegal_trap
read_traps s reg rd ram p = rw p.clear refl

after_plain : (s : Strand) (i : Insn) (value ram : ℕ) → IsMet (need_of s i ram) → IsPlain s → IsPlain (after_of s i value)
unfolding after_of gone_on acted managed accessed gone_to
after_plain s (insn.WriteHpr reg rs1 src) value ram m p = absurd (subst (λ (n : Need). IsMet n) (write_traps s reg rs1 src ram p) m)
after_plain s (insn.Alu op cc rd rs1 src) value ram m p = computed_plain s cc rd (alu_result s op rs1 src) p
after_plain s (insn.Bpcc cond annul wide taken disp) value ram m p = codes_plain s cond wide annul _ p
after_plain s (insn.Bicc cond annul disp) value ram m p = codes_plain s cond false annul _ p
after_plain s (insn.Bpr rcond annul taken rs1 disp) value ram m p = branched_plain s _ annul _ p
after_plain s (insn.Call disp) value ram m p = reg_plain s 15 s.pc p
after_plain s (insn.Jmpl rd rs1 src) value ram m p = reg_plain s rd s.pc p
after_plain s (insn.Return rs1 src) value ram m p = windows_plain s (windows_after_restore s.win) p
after_plain s insn.Done value ram m p = done_plain s p
after_plain s insn.Retry value ram m p = retry_plain s p
after_plain s (insn.Sethi rd imm) value ram m p = reg_plain s rd _ p
after_plain s (insn.Shift op wide rd rs1 src) value ram m p = reg_plain s rd _ p
after_plain s (insn.Movcc cond wide rd src) value ram m p = reg_if_plain _ s rd _ p
after_plain s (insn.Movr rcond rd rs1 src) value ram m p = reg_if_plain _ s rd _ p
after_plain s (insn.Save rd rs1 src) value ram m p = moved_plain s (windows_after_save s.win) rd _ p
after_plain s (insn.Restore rd rs1 src) value ram m p = moved_plain s (windows_after_restore s.win) rd _ p
after_plain s insn.Saved value ram m p = p
after_plain s insn.Restored value ram m p = p
after_plain s (insn.ReadAsr asr rd) value ram m p = reg_plain s rd _ p
after_plain s (insn.WriteAsr asr rs1 src) value ram m p = asr_plain s asr _ p
after_plain s (insn.ReadPr reg rd) value ram m p = read_plain s reg rd p
after_plain s (insn.WritePr reg rs1 src) value ram m p = written_plain s reg _ p
after_plain s (insn.ReadHpr reg rd) value ram m p = hyper_read_plain s reg rd p
after_plain s (insn.Load kind rd rs1 mem) value ram m p = loaded_plain s kind _ _ rd value p
after_plain s (insn.Store kind rd rs1 mem) value ram m p = stored_plain s _ _ rd p
after_plain s (insn.Ldstub rd rs1 mem) value ram m p = reg_plain s rd value p
after_plain s (insn.Swap rd rs1 mem) value ram m p = reg_plain s rd _ p
after_plain s (insn.Cas wide rd rs1 rs2 asi) value ram m p = reg_plain s rd _ p
after_plain s insn.Illegal value ram m p = p
after_plain s insn.FpOff value ram m p = p
after_plain s insn.Stbar value ram m p = p
after_plain s insn.Flushw value ram m p = p
after_plain s (insn.Membar mask) value ram m p = p
after_plain s (insn.Flush rs1 src) value ram m p = p
after_plain s (insn.Trap cond wide rs1 src) value ram m p = p
after_plain s (insn.Prefetch fcn rs1 mem) value ram m p = p

-- ---- traps

handler_same : (s : Strand) (number : ℕ) → IsPlain s → in_handler s number ≡ in_privileged_handler s number
unfolding in_handler in_privileged_handler handler_of frame_at
handler_same s number p = rw (p.left_out, p.clear) refl

privileged_handler_plain : (s : Strand) (number : ℕ) → IsPlain s → IsPlain (in_privileged_handler s number)
unfolding in_privileged_handler
privileged_handler_plain s number p = record { left_out = p.left_out; clear = p.clear; kept_clear = clear_set s.stack s.tl _ refl p.kept_clear }

entered_plain : (s : Strand) (number : ℕ) → IsPlain s → IsPlain (entered s number)
entered_plain s number p =
    plain_if (s.tl == 6) s _ p (subst (λ (t : Strand). IsPlain t) (sym (handler_same s number p)) (privileged_handler_plain s number p))

-- ---- replays

value_plain : (s : Strand) (word value : ℕ) (items : List Item) (make : ℕ → Item) (reads : List ℕ) (b : Bool) → IsPlain s → IsPlain (after_of s (insn_of word) value)
    → IsPlain (with_value s word items make value reads b).strand
value_plain s word value items make reads true p q = q
value_plain s word value items make reads false p q = p

reads_plain : (s : Strand) (word size : ℕ) (items : List Item) (make : ℕ → Item) (reads : List ℕ) → IsPlain s → ((value : ℕ) → IsPlain (after_of s (insn_of word) value))
    → IsPlain (with_read s word items size make reads).strand
reads_plain s word size items make [] p after = p
reads_plain s word size items make (value ∷ reads) p after = value_plain s word value items make reads _ p (after value)

met_plain : (s : Strand) (word : ℕ) (items : List Item) (reads : List ℕ) (n : Need) → IsPlain s → (IsMet n → (value : ℕ) → IsPlain (after_of s (insn_of word) value))
    → IsPlain (met s word items reads n).strand
met_plain s word items reads need.Plain p after = after tt 0
met_plain s word items reads need.Halt p after = after tt 0
met_plain s word items reads (need.Trap number) p after = entered_plain s number p
met_plain s word items reads (need.Membar mask) p after = after tt 0
met_plain s word items reads need.Flush p after = after tt 0
met_plain s word items reads (need.Store addr size value) p after = after tt 0
met_plain s word items reads (need.Load addr size) p after = reads_plain s word size items _ reads p (after tt)
met_plain s word items reads (need.Atomic addr size op) p after = reads_plain s word size items _ reads p (after tt)

word_plain : (b : Bounds) (s : Strand) (items : List Item) (word : ℕ) (reads : List ℕ) (fits : Bool) → IsPlain s → IsPlain (with_word b s items word reads fits).strand
word_plain b s items word reads true p = met_plain s word _ reads (need_of s (insn_of word) b.ram) p (λ m value. after_plain s (insn_of word) value b.ram m p)
word_plain b s items word reads false p = p

fetched_plain : (b : Bounds) (s : Strand) (items : List Item) (reads : List ℕ) → IsPlain s → IsPlain (fetched b s items reads).strand
fetched_plain b s items [] p = p
fetched_plain b s items (word ∷ reads) p = word_plain b s items word reads _ p

begun_plain : (b : Bounds) (s : Strand) (items : List Item) (reads : List ℕ) (due : Option ℕ) (can_fetch : Bool) → IsPlain s → IsPlain (begun b s items reads due can_fetch).strand
begun_plain b s items reads (Some number) can_fetch p = entered_plain s number p
begun_plain b s items reads None true p = fetched_plain b s items reads p
begun_plain b s items reads None false p = entered_plain s _ p

spent_plain : (b : Bounds) (s : Strand) (items : List Item) (reads : List ℕ) (spent : Bool) → IsPlain s → IsPlain (begun_or_spent b s items reads spent).strand
spent_plain b s items reads true p = p
spent_plain b s items reads false p = begun_plain b s items reads (due_of s) (is_fetchable b.ram s.pc) p

unit_plain : (b : Bounds) (r : Replay) (end : End) → IsPlain r.strand → IsPlain (unit_at b r end).strand
unit_plain b r Running p = spent_plain b r.strand r.items r.reads _ p
unit_plain b r Starved p = p
unit_plain b r (Done e) p = p

pub replays_stay_plain : (b : Bounds) (from : Strand) (reads : List ℕ) (n : ℕ) → IsPlain from → IsPlain (units b n (started from reads)).strand
replays_stay_plain b from reads zero p = p
replays_stay_plain b from reads (suc n) p = unit_plain b (units b n (started from reads)) _ (replays_stay_plain b from reads n p)

-- ---- starts, and the rules

blank_plain : (entry : ℕ) → IsPlain (blank_of entry false)
unfolding blank_of
blank_plain entry = record { left_out = refl; clear = refl; kept_clear = clear_start 6 }

start_plain : (number count entry : ℕ) → IsPlain (start_of number count entry false)
unfolding start_of
start_plain number count entry = reg_plain _ 9 count (reg_plain (blank_of entry false) 8 number (blank_plain entry))

pub starts_are_plain : (config : Config) (entry number : ℕ) → config.hyper ≡ false → IsPlain (start_in config entry number)
starts_are_plain config entry number e = rw e (start_plain number (config.cores * config.strands) entry)

pub plain_strands_have_no_hyper : (s : Strand) → IsPlain s → HasNoHyper s
plain_strands_have_no_hyper s p = record {
  entry = λ number. handler_same s number p;
  mode = rw p.clear (or_false _);
  pending = λ n. rw p.clear refl;
  reads = λ reg rd ram. read_traps s reg rd ram p;
  writes = λ reg rs1 src ram. write_traps s reg rs1 src ram p;
}
  where
    or_false : (b : Bool) → (b || false) ≡ b
    or_false true = refl
    or_false false = refl
