-- The slot that is emptied is that of the way.
use Rattle.t1_l1.proofs.Shown.{empty_is}
use Rattle.t1_l1.proofs.cache.L1.invalidate.Goals as goal

pub returns : goal.returns
returns g c =
    let i = c.self.inside in
    empty_is g.row.WAYS i.sets g.row.LINE i.tags.items i.lines.items i.pointers.items c.args.self.now c.args.set c.args.way c.slot_at-slot.result c.self.view_is c.slot_at-slot.ensures.value
