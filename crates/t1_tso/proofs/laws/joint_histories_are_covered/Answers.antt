use Rattle.t1_tso.proofs.laws.joint_histories_are_covered.Goals as goal
use Rattle.t1_tso.proofs.Histories.{log_is_covered}

pub returns : goal.returns
returns c = log_is_covered
