use Rattle.t1_core_idle.proofs.laws.words_can_have_all_room.Goals as goal
use Rattle.t1_core_idle.proofs.Rooms.{words_can_have_all_room}

pub returns : goal.returns
returns c = words_can_have_all_room
