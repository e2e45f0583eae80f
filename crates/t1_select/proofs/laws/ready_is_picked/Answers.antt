use Rattle.t1_select.proofs.Fair.{picked_in_time}
use Rattle.t1_select.proofs.laws.ready_is_picked.Goals as goal

pub returns : goal.returns
returns c = picked_in_time
