-- Strands without hyperprivileged mode, and what the rules are for them.
use Rattle.std.specs.Prelude.{ℕ, ◌≡◌, ◌+◌, ◌*◌, ◌/◌, ◌%◌, ◌^◌, ◌==◌, ◌&&◌, nat_lt, min, Bool, false, if◌then◌else◌, List, get_or, slice_set}
use Rattle.t1_insn.specs.declared.operand.Src.{Src}
use Rattle.t1_insn.specs.declared.instruction.Insn.TheVariants.{ReadHpr, WriteHpr}
use Rattle.t1_win.specs.TrapWindow.{trap_cwp_of}
use Rattle.t1_state.specs.declared.strand.Frame.{Frame}
use Rattle.t1_state.specs.declared.strand.Strand.{Strand}
use Rattle.t1_state.specs.Pstate.{priv_of, ie_of, pstate_in_trap}
use Rattle.t1_state.specs.Tstate.{tstate_of}
use Rattle.t1_state.specs.Interrupts.{is_pending}
use Rattle.t1_state.specs.Traps.{no_frame, in_handler}
use Rattle.t1_exec.specs.declared.need.Need.TheVariants.{Trap}
use Rattle.t1_exec.specs.Spaces.{is_privileged}
use Rattle.t1_exec.specs.Needs.{need_of}
use Rattle.t1_event.specs.declared.report.Config.{Config}
use Rattle.t1_joint.specs.Replay.{Bounds, units, started}
use Rattle.t1_joint.specs.Start.{start_in}

-- the mode is left out, hpriv is clear, and no frame of the stack keeps it
pub record IsPlainState (hyper : Bool) (hpstate : ℕ) (stack : List Frame) : Type 0 where
  pub left_out : hyper ≡ false
  pub clear : hpstate ≡ 0
  pub kept_clear : (level : ℕ) → (get_or stack level no_frame).htstate ≡ 0

abbrev pub IsPlain : Strand → Type 0
IsPlain s = IsPlainState s.hyper s.hpstate s.stack

-- ---- the rules of a chip without the mode

-- the strand in the handler of a trap: every trap is privileged
unfoldable pub in_privileged_handler : Strand → ℕ → Strand
in_privileged_handler s number = record s {
  pc = s.tba + (if s.tl == 0 then 0 else 2 ^ 14) + number * 32;
  npc = s.tba + (if s.tl == 0 then 0 else 2 ^ 14) + number * 32 + 4;
  stack = slice_set s.stack s.tl (record { tpc = s.pc; tnpc = s.npc; tstate = tstate_of s.gl s.ccr s.asi s.pstate s.win.cwp; tt = number; htstate = 0 });
  tl = s.tl + 1;
  gl = min (s.gl + 1) 3;
  pstate = pstate_in_trap s.pstate;
  win = record s.win { cwp = trap_cwp_of s.win number };
  units = s.units + 1;
}

-- what the rules of a strand come to
pub record HasNoHyper (s : Strand) : Type 0 where
  pub entry : (number : ℕ) → in_handler s number ≡ in_privileged_handler s number
  pub mode : is_privileged s ≡ (priv_of s.pstate == 1)
  pub pending : (n : ℕ) → is_pending s n ≡ ((ie_of s.pstate == 1) && (s.softint / 2 ^ n % 2 == 1) && nat_lt s.pil n)
  pub reads : (reg rd ram : ℕ) → need_of s (ReadHpr reg rd) ram ≡ Trap 0x010
  pub writes : (reg rs1 : ℕ) (src : Src) (ram : ℕ) → need_of s (WriteHpr reg rs1 src) ram ≡ Trap 0x010

-- ---- laws

abbrev pub StartsArePlain : Type 0
StartsArePlain = (config : Config) (entry number : ℕ) → config.hyper ≡ false → IsPlain (start_in config entry number)

-- a strand that is plain is so after each unit of its replay
abbrev pub ReplaysStayPlain : Type 0
ReplaysStayPlain = (b : Bounds) (from : Strand) (reads : List ℕ) (n : ℕ) → IsPlain from → IsPlain (units b n (started from reads)).strand

abbrev pub PlainStrandsHaveNoHyper : Type 0
PlainStrandsHaveNoHyper = (s : Strand) → IsPlain s → HasNoHyper s
