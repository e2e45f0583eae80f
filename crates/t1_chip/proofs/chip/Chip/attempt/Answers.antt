use Rattle.std.proofs.Common.{◌≡◌, ◌∙◌, ◌<◌, ℕ, true, false, sym, ap, subst, rules}
use Rattle.std.specs.Int.{bit_at}
use Rattle.t1_shape.specs.Shapes.{Shape}
use Rattle.t1_machine.specs.declared.slot.Slot.{Slot}
use Rattle.t1_machine.specs.Slots.{slots, slot_at}
use Rattle.t1_machine.specs.Machine.{MachineState, after_slot, is_enabled}
use Rattle.t1_machine.specs.Wakes.{IsAsleep}
use Rattle.t1_chip.specs.Sets.{AreClear}
use Rattle.t1_bound.proofs.Reach.{idle_slot}
use Rattle.t1_chip.proofs.Reached.{spare, reached_slot, chip_kept, falls}
use Rattle.t1_chip.proofs.Sets.{tried_clear, woken_clear}
use Rattle.t1_chip.proofs.chip.Chip.attempt.Goals as goal

pub step-requires-clause-spare : goal.step-requires-clause-spare
step-requires-clause-spare c = spare _ c.self.inside.machine c.self.invariant.0

pub invariant_of-self : goal.invariant_of-self
invariant_of-self c =
    let m : MachineState = c.self.inside.machine in
    let slot : c.slot_at.result ≡ slot_at m.chip c.args.number = c.slot_at.ensures.value ∙ ap (λ (k : Shape). slot_at k c.args.number) c.chip-chip.ensures in
    let e : c.step.new.self ≡ after_slot m (slot_at m.chip c.args.number) = search rules in
    let off : is_enabled m (slot_at m.chip c.args.number) ≡ false = ap (λ (s : Slot). is_enabled m s) (sym slot) ∙ sym c.in-None.ensures.done in (
      reached_slot _ m c.step.new.self c.args.number c.self.invariant.0 e,
      subst (λ (n : MachineState). AreClear n c.without_slot-self-inside.result) (sym (e ∙ idle_slot m c.args.number off))
          (tried_clear m c.self.inside.maybe c.without_slot-self-inside.result c.args.number c.without_slot-self-inside.ensures off c.self.invariant.1),
      c.self.invariant.2,
    )

pub invariant_of-self-in-Some : goal.invariant_of-self-in-Some
invariant_of-self-in-Some c =
    let m : MachineState = c.self.inside.machine in
    let e : c.step.new.self ≡ after_slot m (slot_at m.chip c.args.number) = search rules in
    let asleep = subst (λ (k : Shape). (n : ℕ) → n < slots k → bit_at c.with_woken-self-inside.result n ≡ 0 → (bit_at c.self.inside.maybe n ≡ 0) × IsAsleep c.in-Some.woken (slot_at k n))
    c.chip-chip.ensures c.with_woken-self-inside.ensures in (
      reached_slot _ m c.step.new.self c.args.number c.self.invariant.0 e,
      woken_clear m c.step.new.self c.self.inside.maybe c.with_woken-self-inside.result c.in-Some.woken (chip_kept _ m c.step.new.self c.args.number c.self.invariant.0 e) c.in-Some.ensures.woken asleep
          c.self.invariant.1,
      c.self.invariant.2,
    )

pub returns-in-Some-clause-falls : goal.returns-in-Some-clause-falls
returns-in-Some-clause-falls c = λ h.
    let m : MachineState = c.self.inside.machine in
    let slot : c.slot_at.result ≡ slot_at m.chip c.args.number = c.slot_at.ensures.value ∙ ap (λ (k : Shape). slot_at k c.args.number) c.chip-chip.ensures in
    let e : c.step.new.self ≡ after_slot m (slot_at m.chip c.args.number) = search rules in
    let on : is_enabled m (slot_at m.chip c.args.number) ≡ true = ap (λ (s : Slot). is_enabled m s) (sym slot) ∙ sym c.in-Some.ensures.done in
    rw (← c.self.view_is) (falls _ m c.step.new.self c.args.number c.self.invariant.0 e on)
