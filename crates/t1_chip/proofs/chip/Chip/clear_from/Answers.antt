use Rattle.std.proofs.Common.{◌≡◌, ◌∙◌, ◌+◌, ◌<◌, ℕ, ap, subst, arith}
use Rattle.t1_shape.specs.Shapes.{Shape}
use Rattle.t1_machine.specs.Slots.{slots}
use Rattle.t1_chip.specs.Chips.{ChipState}
use Rattle.t1_chip.specs.Sets.{AreClear}
use Rattle.t1_chip.proofs.chip.Chip.clear_from.Goals as goal

pub returns-clause-clear : goal.returns-clause-clear
returns-clause-clear c = λ i k.
    let clear : AreClear c.args.self.now.machine c.self.inside.maybe = subst (λ (s : ChipState). AreClear s.machine c.self.inside.maybe) c.self.view_is c.self.invariant.1 in
    let chip = c.chip.ensures ∙ ap (λ (s : ChipState). s.machine.chip) c.self.view_is in
    let count : c.slots.result ≡ slots c.args.self.now.machine.chip = c.slots.ensures.value ∙ ap (λ (k : Shape). slots k) chip in
    let within = c.clear_from.ensures.within in
    let few : c.args.number + i < c.slots.result = omega (arith, within, k) in
    clear (c.args.number + i) (subst (λ (n : ℕ). c.args.number + i < n) count few) (c.clear_from.ensures.clear i k)
