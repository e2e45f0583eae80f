use Rattle.std.proofs.Common.{◌∙◌, ap, get_or, arith}
use Rattle.std.proofs.lemmas.List.{get_or-set_other, get_or-set_same}
use Rattle.std.proofs.lemmas.Grind.{common_steps}
use Rattle.t1_ring.specs.Row.{rooms_of}
use Rattle.t1_ring.proofs.Sets.{room_set, rooms_length}
use Rattle.t1_ring.proofs.row.room_at.Goals as goal

pub returns-clause-here : goal.returns-clause-here
returns-clause-here g c = λ e.
    let at = room_set c.args.ends.now.items c.args.at c.room.new.self in
    let long = rooms_length c.args.ends.now.items in
    let here = ap (λ l. get_or l c.args.at 0) at ∙ get_or-set_same (rooms_of c.args.ends.now.items) c.args.at c.room.new.self.room 0 (grind (arith, common_steps)) in
    grind (arith, common_steps)

pub returns-clause-others : goal.returns-clause-others
returns-clause-others g c = λ j other.
    ap (λ l. get_or l j 0) (room_set c.args.ends.now.items c.args.at c.room.new.self) ∙ get_or-set_other (rooms_of c.args.ends.now.items) c.args.at j c.room.new.self.room 0 other
