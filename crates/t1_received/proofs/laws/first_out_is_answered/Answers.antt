use Rattle.t1_received.proofs.laws.first_out_is_answered.Goals as goal
use Rattle.t1_received.proofs.Sorts.{first_out_is_answered}

pub returns : goal.returns
returns c = first_out_is_answered
