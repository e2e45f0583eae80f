use Rattle.std.proofs.Common.{◌≡◌, ◌∙◌, ◌+◌, ◌/◌, ℕ, Option, None, set, ap, sym}
use Rattle.t1_shape.specs.Slots.{first_slot}
use Rattle.t1_l2.specs.Array.{ArrayState, layout_of, place_of, filled, ensured_by}
use Rattle.t1_l2.proofs.View.{emptied_filled}
use Rattle.t1_l2.proofs.array.BankArray.ensure.Goals as goal

pub returns-in-None-clause-new : goal.returns-in-None-clause-new
returns-in-None-clause-new c =
    let a = c.args.self.now in
    let line : ℕ = c.args.addr / 64 in
    let way : ℕ = c.room-way.result in
    let back : c.write_back-evicted.new.self ≡ record a { tags = set a.tags (first_slot (layout_of a) (place_of a line) + way) None } =
    c.write_back-evicted.ensures.new ∙ ap (λ (k : ℕ). record a { tags = set a.tags (k + way) None }) c.first_of.ensures.value in
    c.fill.ensures
    ∙ (ap (λ (s : ArrayState). filled s line way) back
    ∙ (emptied_filled a line way
    ∙ (ap (λ (w : ℕ). filled a line w) c.room-way.ensures.value
    ∙ ap (λ (o : Option ℕ). ensured_by a line o) (sym c.in-None.is ∙ c.find.ensures.value))))
