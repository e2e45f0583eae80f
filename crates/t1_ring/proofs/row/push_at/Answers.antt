use Rattle.std.proofs.Common.{◌∙◌, ap, get_or}
use Rattle.std.proofs.lemmas.List.{get_or-set_other}
use Rattle.t1_ring.specs.Row.{rooms_of}
use Rattle.t1_ring.proofs.Sets.{room_set}
use Rattle.t1_ring.proofs.row.push_at.Goals as goal

pub returns-clause-others : goal.returns-clause-others
returns-clause-others g c = λ j other.
    ap (λ l. get_or l j 0) (room_set c.args.ends.now.items c.args.at c.push.new.self) ∙ get_or-set_other (rooms_of c.args.ends.now.items) c.args.at j c.push.new.self.room 0 other
