use Rattle.std.proofs.Common.{◌≡◌, ◌∙◌, ◌+◌, ◌-◌, ◌<◌, ◌≤◌, ℕ, true, false, sym, ap, subst, arith}
use Rattle.t1_shape.specs.Shapes.{Shape}
use Rattle.t1_machine.specs.Slots.{slots, slot_at}
use Rattle.t1_machine.specs.Machine.{MachineState, is_enabled}
use Rattle.t1_machine.specs.Runs.{enabled_from, next_number}
use Rattle.t1_chip.specs.Chips.{ChipState, wrapped}
use Rattle.t1_bound.proofs.Reach.{idle_slot}
use Rattle.t1_chip.proofs.Jumps.{jump, nothing_left, none_left, found_first, passed}
use Rattle.t1_chip.proofs.chip.Chip.next.Goals as goal

pub returns-then-clear-left-clause-found : goal.returns-then-clear-left-clause-found
returns-then-clear-left-clause-found c =
    let l = c.loop-left in
    let e = c.clear_from-clear.ensures in
    sym (nothing_left l.self.machine c.clear_from-clear.result l.number l.left l.invariant.within e.within c.if-clear-left.true e.clear) ∙ l.invariant.rest

pub loop-left-preserved-then-clear-gt0 : goal.loop-left-preserved-then-clear-gt0
loop-left-preserved-then-clear-gt0 c =
    let l = c.loop-left in
    let e = c.clear_from-clear.ensures in
    let number = c.wrapped-number.ensures.value ∙ ap (λ (k : Shape). wrapped k (l.number + c.clear_from-clear.result)) l.invariant.chip in
    record {
      same = l.invariant.same;
      chip = l.invariant.chip;
      within = subst (λ (k : Shape). c.wrapped-number.result < slots k) l.invariant.chip c.wrapped-number.ensures.within;
      few = omega (arith, l.invariant.few);
      rest = ap (λ (s : ℕ). enabled_from l.self.machine s (l.left - c.clear_from-clear.result)) number
          ∙ (sym (jump c.clear_from-clear.result l.self.machine l.number l.left l.invariant.within e.within (omega (arith, c.if-clear-left.false)) e.clear) ∙ l.invariant.rest);
    }

pub returns-then-attempt-clause-found : goal.returns-then-attempt-clause-found
returns-then-attempt-clause-found c =
    let l = c.loop-left in
    let e : is_enabled l.self.machine (slot_at l.self.machine.chip l.number) ≡ true = sym c.attempt.ensures.done ∙ c.if-attempt.true in
    sym (found_first l.self.machine l.number l.left c.loop-left-test.true e) ∙ l.invariant.rest

pub loop-left-preserved : goal.loop-left-preserved
loop-left-preserved c =
    let l = c.loop-left in
    let e : is_enabled l.self.machine (slot_at l.self.machine.chip l.number) ≡ false = sym c.attempt.ensures.done ∙ c.if-attempt.false in
    let same : c.attempt.new.self ≡ l.self = c.attempt.ensures.state ∙ ap (λ (m : MachineState). record l.self { machine = m }) (idle_slot l.self.machine l.number e) in
    let chip : c.chip-chip.result ≡ c.attempt.new.self.machine.chip = l.invariant.chip ∙ sym (ap (λ (s : ChipState). s.machine.chip) same) in
    let number = c.next_number-number.ensures.value ∙ ap (λ (k : Shape). next_number k l.number) l.invariant.chip in
    record {
      same = same ∙ l.invariant.same;
      chip = chip;
      within = subst (λ (k : Shape). c.next_number-number.result < slots k) chip c.next_number-number.ensures.within;
      few = subst (λ (s : ChipState). l.left - 1 ≤ slots s.machine.chip) (sym same) (omega (arith, l.invariant.few));
      rest = subst (λ (s : ChipState). enabled_from s.machine c.next_number-number.result (l.left - 1) ≡ enabled_from l.self.machine l.number l.left) (sym same)
          (ap (λ (s : ℕ). enabled_from l.self.machine s (l.left - 1)) number ∙ passed l.self.machine l.number l.left c.loop-left-test.true e) ∙ l.invariant.rest;
    }

pub returns-clause-found : goal.returns-clause-found
returns-clause-found c =
    let l = c.loop-left in
    let z : l.left ≡ 0 = omega (arith, c.loop-left-test.false) in
    sym (none_left l.self.machine l.number) ∙ (ap (λ (n : ℕ). enabled_from l.self.machine l.number n) (sym z) ∙ l.invariant.rest)
