use Rattle.t1_core_idle.proofs.laws.waiting_strands_have_ended.Goals as goal
use Rattle.t1_core_idle.proofs.Acts.{waiting_strands_have_ended}

pub returns : goal.returns
returns c = waiting_strands_have_ended
