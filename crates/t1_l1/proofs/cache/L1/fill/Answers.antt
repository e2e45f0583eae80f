-- What is written to the arrays is the fill of the cache.
use Rattle.std.proofs.Common.{◌≡◌, ◌+◌, ◌*◌, ◌<◌, ◌≤◌, ℕ, length, ap, ◌∙◌, sym, arith}
use Rattle.t1_l1.proofs.Shown.{fill_is}
use Rattle.t1_l1.proofs.cache.L1.fill.Goals as goal

pub returns : goal.returns
returns g c =
    let i = c.self.inside in
    let slot : ℕ = c.first_slot.result + c.args.way in
    let room : c.first_slot.result + g.row.WAYS ≤ g.row.WAYS * i.sets = c.first_slot.ensures.room in
    let count : length i.lines.items ≡ g.row.WAYS * i.sets = c.self.invariant.line_count in
    let way : c.args.way < g.row.WAYS = c.requires in
    let place : slot ≡ g.row.WAYS * c.set_of-set.result + c.args.way =
    ap (λ (n : ℕ). n + c.args.way) (c.first_slot.ensures.value ∙ ap (λ (n : ℕ). g.row.WAYS * n) (sym c.set_of-set.ensures.value)) in
    fill_is g.row.WAYS i.sets g.row.LINE i.tags.items i.lines.items i.pointers.items c.args.self.now c.args.addr c.args.way slot c.set_of-set.result c.args.line.now
    c.self.view_is c.set_of-set.ensures.value place (omega (arith, room, count, way))
