use Rattle.std.proofs.Common.{ℕ, ◌<◌, sym, subst}
use Rattle.t1_shape.specs.Numbers.{l2_ways}
use Rattle.t1_shape.specs.Slots.{set_of}
use Rattle.t1_shape.proofs.Slots.{victim_below}
use Rattle.t1_l2.specs.Array.{layout_of, place_of}
use Rattle.t1_l2.proofs.View.{kept_now}
use Rattle.t1_l2.proofs.array.BankArray.room.Goals as goal

pub returns-clause-low : goal.returns-clause-low
returns-clause-low c =
    let a = c.args.self.now in
    let is = kept_now a c.self.invariant.l2 c.self.view_is in
    subst (λ (w : ℕ). w < l2_ways a.shape) (sym c.victim.ensures)
    (victim_below (layout_of a) a.tags a.pointers (place_of a c.args.line) (is.low (set_of (layout_of a) (place_of a c.args.line))))
