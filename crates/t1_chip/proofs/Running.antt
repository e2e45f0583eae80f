-- What a schedule does, slot by slot.
use Rattle.std.proofs.Common.{◌≡◌, ◌∙◌, ◌∷◌, [], Some, None, ℕ, refl, sym, ap, subst}
use Rattle.t1_machine.specs.Slots.{slot_at}
use Rattle.t1_machine.specs.Machine.{MachineState, after_slot}
use Rattle.t1_machine.specs.Runs.{Standing, IsRun, Ends, Goes, next_of, standing_after, machine_after}
use Rattle.t1_chip.specs.Chips.{ChipState, MovesTo, DidSlots}

-- one slot, and what comes after it
pub goes : (before next after : ChipState) (standing : Standing) (n : ℕ) → next_of before.machine standing ≡ Some n
    → next ≡ record before { machine = after_slot before.machine (slot_at before.machine.chip n) } → MovesTo next (standing_after before.machine.chip standing n) after → MovesTo before standing after
goes before next after standing n found e rest =
    let here : next.machine ≡ after_slot before.machine (slot_at before.machine.chip n) = ap (λ (s : ChipState). s.machine) e in
    let there : next.setup ≡ before.setup = ap (λ (s : ChipState). s.setup) e in
    record {
      setup = rest.setup ∙ there;
      numbers = n ∷ rest.numbers;
      run = Goes before.machine standing n rest.numbers after.machine found
          (subst (λ (m : MachineState). IsRun m (standing_after before.machine.chip standing n) rest.numbers after.machine) here rest.run);
    }

-- no slot is enabled
pub ends : (before after : ChipState) (standing : Standing) → next_of before.machine standing ≡ None → after ≡ before → MovesTo before standing after
ends before after standing none same =
    let here : MovesTo before standing before = record { setup = refl; numbers = []; run = Ends before.machine standing none } in
    subst (λ (s : ChipState). MovesTo before standing s) (sym same) here

-- one slot that was drawn, and what comes after it
pub draws : (before next after : ChipState) (n : ℕ) → next ≡ record before { machine = after_slot before.machine (slot_at before.machine.chip n) } → DidSlots next after → DidSlots before after
unfolding machine_after
draws before next after n e rest =
    let here : next.machine ≡ after_slot before.machine (slot_at before.machine.chip n) = ap (λ (s : ChipState). s.machine) e in
    let there : next.setup ≡ before.setup = ap (λ (s : ChipState). s.setup) e in
    record {
      setup = rest.setup ∙ there;
      numbers = n ∷ rest.numbers;
      machine = rest.machine ∙ ap (λ (m : MachineState). machine_after m rest.numbers) here;
    }

-- none was drawn
pub drew_none : (before after : ChipState) → after ≡ before → DidSlots before after
unfolding machine_after
drew_none before after same =
    record { setup = ap (λ (s : ChipState). s.setup) same; numbers = []; machine = ap (λ (s : ChipState). s.machine) same }
