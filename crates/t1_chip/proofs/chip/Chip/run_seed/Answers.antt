use Rattle.std.proofs.Common.{◌∙◌, ◌<◌, ℕ, sym, ap, subst}
use Rattle.t1_shape.specs.Shapes.{Shape}
use Rattle.t1_machine.specs.Slots.{slots}
use Rattle.t1_machine.specs.Runs.{Seed, enabled_from, tries}
use Rattle.t1_chip.specs.Chips.{ChipState, MovesTo}
use Rattle.t1_machine_rule.specs.Ends.{NoneEnabled}
use Rattle.t1_chip.proofs.Running.{goes, ends}
use Rattle.t1_chip.proofs.Finished.{none_enabled}
use Rattle.t1_chip.proofs.chip.Chip.run_seed.Goals as goal

pub loop-preserved : goal.loop-preserved
loop-preserved c =
    let l = c.loop in
    let number = c.first_tried.ensures.number ∙ ap (λ (k : Shape). tries k (Seed l.words)) l.invariant.chip in
    let found = ap (λ (p : ℕ). enabled_from l.self.machine p (slots l.self.machine.chip)) (sym number) ∙ sym c.in-Some.ensures.found in
    record {
      chip = l.invariant.chip ∙ sym c.in-Some.ensures.chip;
      rest = λ end r.
          let words = subst (λ (x : ℕ). MovesTo c.next.new.self (Seed x) end) c.first_tried.ensures.words r in
          l.invariant.rest end (goes l.self c.next.new.self end (Seed l.words) c.in-Some.field-0 found c.in-Some.ensures.state words);
    }

pub returns-clause-machine : goal.returns-clause-machine
returns-clause-machine c =
    let l = c.loop in
    let number = c.first_tried.ensures.number ∙ ap (λ (k : Shape). tries k (Seed l.words)) l.invariant.chip in
    let none = ap (λ (p : ℕ). enabled_from l.self.machine p (slots l.self.machine.chip)) (sym number) ∙ sym c.in_default.ensures.found in
    l.invariant.rest c.next.new.self (ends l.self c.next.new.self (Seed l.words) none c.in_default.ensures.state)

pub returns-clause-finished : goal.returns-clause-finished
returns-clause-finished c =
    let few : c.first_tried.result < slots c.loop.self.machine.chip = subst (λ (k : Shape). c.first_tried.result < slots k) c.loop.invariant.chip c.first_tried.ensures.within in
    subst (λ (s : ChipState). NoneEnabled s.machine) (sym c.in_default.ensures.state) (none_enabled c.loop.self.machine c.first_tried.result few (sym c.in_default.ensures.found))
