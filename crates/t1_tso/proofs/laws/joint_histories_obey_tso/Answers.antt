use Rattle.t1_tso.proofs.laws.joint_histories_obey_tso.Goals as goal
use Rattle.t1_tso.proofs.Histories.{history_obeys_tso}

pub returns : goal.returns
returns c = history_obeys_tso
