use Rattle.std.proofs.Common.{◌≡◌, ◌∙◌, ◌<◌, ℕ, sym, ap, subst}
use Rattle.t1_shape.specs.Shapes.{Shape}
use Rattle.t1_machine.specs.Slots.{slots}
use Rattle.t1_machine.specs.Runs.{Turns, next_number}
use Rattle.t1_chip.specs.Chips.{ChipState, MovesTo}
use Rattle.t1_machine_rule.specs.Ends.{NoneEnabled}
use Rattle.t1_chip.proofs.Running.{goes, ends}
use Rattle.t1_chip.proofs.Finished.{none_enabled}
use Rattle.t1_chip.proofs.chip.Chip.run_turns.Goals as goal

pub loop-number-preserved : goal.loop-number-preserved
loop-number-preserved c =
    let l = c.loop-number in
    let chip : c.chip-chip.result ≡ c.next.new.self.machine.chip = l.invariant.chip ∙ sym c.in-Some.ensures.chip in
    let from = c.next_number-from.ensures.value ∙ ap (λ (k : Shape). next_number k c.in-Some.number) l.invariant.chip in
    record {
      chip = chip;
      within = subst (λ (k : Shape). c.next_number-from.result < slots k) chip c.next_number-from.ensures.within;
      rest = λ end r. l.invariant.rest end
          (goes l.self c.next.new.self end (Turns l.from) c.in-Some.number (sym c.in-Some.ensures.found) c.in-Some.ensures.state
          (subst (λ (k : ℕ). MovesTo c.next.new.self (Turns k) end) from r));
    }

pub returns-clause-machine : goal.returns-clause-machine
returns-clause-machine c =
    c.loop-number.invariant.rest c.next.new.self
    (ends c.loop-number.self c.next.new.self (Turns c.loop-number.from) (sym c.in_default.ensures.found) c.in_default.ensures.state)

pub returns-clause-finished : goal.returns-clause-finished
returns-clause-finished c =
    subst (λ (s : ChipState). NoneEnabled s.machine) (sym c.in_default.ensures.state)
    (none_enabled c.loop-number.self.machine c.loop-number.from c.loop-number.invariant.within (sym c.in_default.ensures.found))
