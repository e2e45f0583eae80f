use Rattle.t1_core_idle.proofs.laws.finished_cores_have_ended.Goals as goal
use Rattle.t1_core_idle.proofs.Ends.{finished_cores_have_ended}

pub returns : goal.returns
returns c = finished_cores_have_ended
