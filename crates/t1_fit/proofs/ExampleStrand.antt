-- The strand of the example is its replay.
use Rattle.std.proofs.Common.{◌≡◌, ℕ, ◌+◌, ◌==◌, if◌then◌else◌, [], ◌∷◌, Option, None, refl, ap, ◌∙◌}
use Rattle.t1_decode.specs.Words.{insn_of, branch_of}
use Rattle.t1_insn.specs.declared.instruction.Insn.{Insn}
use Rattle.t1_insn.specs.declared.instruction.Insn.TheVariants.{Illegal}
use Rattle.t1_state.specs.declared.strand.Strand.{Strand}
use Rattle.t1_state.specs.declared.strand.Entered.TheVariants.{Taken, Fault}
use Rattle.t1_state.specs.Interrupts.{due_of, greatest_below}
use Rattle.t1_state.specs.Registers.{start_of, with_reg, blank_of}
use Rattle.t1_state.specs.Traps.{in_handler}
use Rattle.t1_exec.specs.declared.need.Need.{Need}
use Rattle.t1_exec.specs.declared.need.Need.TheVariants as need
use Rattle.t1_exec.specs.Needs.{need_of}
use Rattle.t1_exec.specs.Traps.{illegal_trap}
use Rattle.t1_event.specs.declared.trace.Ending.TheVariants.{Spent}
use Rattle.t1_event.specs.Items.{fetch_item, reads_of}
use Rattle.t1_joint.specs.Replay.{Replay, Bounds, Running, Done, entry_end, met, begun, begun_or_spent, is_fetchable, unit, units, started}
use Rattle.t1_joint.specs.Follows.{StandsAt}
use Rattle.t1_joint.specs.Start.{bounds_in}
use Rattle.t1_fit.specs.Example.{example_setup, first_state, illegal_instruction, last_state}

no_word : insn_of 0 ≡ Illegal
unfolding insn_of branch_of
no_word = refl

start_pc : first_state.pc ≡ 0
unfolding start_of with_reg blank_of
start_pc = refl

start_units : first_state.units ≡ 0
unfolding start_of with_reg blank_of
start_units = refl

start_level : first_state.tl ≡ 0
unfolding start_of with_reg blank_of
start_level = refl

not_due : due_of first_state ≡ None
unfolding due_of greatest_below start_of with_reg blank_of
not_due = refl

traps : (s : Strand) → need_of s Illegal 65536 ≡ need.Trap illegal_instruction
unfolding need_of illegal_trap
traps s = refl

units_after : (s : Strand) → (in_handler s illegal_instruction).units ≡ s.units + 1
unfolding in_handler
units_after s = refl

first : units (bounds_in example_setup.config) 1 (started first_state (0 ∷ [])) ≡ record { strand = last_state; items = fetch_item 0 0 ∷ []; reads = []; end = Running }
first =
    let b : Bounds = bounds_in example_setup.config in
    let s : Strand = first_state in
    ap (λ (n : ℕ). begun_or_spent b s [] (0 ∷ []) (n == 1)) start_units
    ∙ (ap (λ (d : Option ℕ). begun b s [] (0 ∷ []) d (is_fetchable 65536 s.pc)) not_due
    ∙ (ap (λ (pc : ℕ). begun b s [] (0 ∷ []) None (is_fetchable 65536 pc)) start_pc
    ∙ (ap (λ (i : Insn). met s 0 (fetch_item s.pc 0 ∷ []) [] (need_of s i 65536)) no_word
    ∙ (ap (λ (n : Need). met s 0 (fetch_item s.pc 0 ∷ []) [] n) (traps s)
    ∙ (ap (λ (pc : ℕ). met s 0 (fetch_item pc 0 ∷ []) [] (need.Trap illegal_instruction)) start_pc
    ∙ ap (λ (level : ℕ). (let r : Replay = record {
      strand = if level == 6 then s else in_handler s illegal_instruction;
      items = fetch_item 0 0 ∷ [];
      reads = [];
      end = entry_end (if level == 6 then Fault illegal_instruction else Taken);
    } in r)) start_level)))))

second : unit (bounds_in example_setup.config) (record { strand = last_state; items = fetch_item 0 0 ∷ []; reads = []; end = Running })
    ≡ record { strand = last_state; items = fetch_item 0 0 ∷ []; reads = []; end = Done Spent }
second =
    ap (λ (n : ℕ). begun_or_spent (bounds_in example_setup.config) last_state (fetch_item 0 0 ∷ []) [] (n == 1)) (units_after first_state ∙ ap (λ (n : ℕ). n + 1) start_units)

-- the first unit takes the trap, and the second is not made
pub stands : StandsAt (bounds_in example_setup.config) first_state last_state (reads_of (fetch_item 0 0 ∷ [])) (fetch_item 0 0 ∷ []) (Done Spent)
unfolding reads_of
stands = record { count = 2; is = ap (λ (r : Replay). unit (bounds_in example_setup.config) r) first ∙ second }
