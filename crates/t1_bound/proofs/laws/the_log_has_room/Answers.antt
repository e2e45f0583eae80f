use Rattle.t1_bound.proofs.Bound.{has_log_room}
use Rattle.t1_bound.proofs.laws.the_log_has_room.Goals as goal

pub returns : goal.returns
returns c = has_log_room
