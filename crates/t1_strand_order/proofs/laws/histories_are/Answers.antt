use Rattle.t1_strand_order.proofs.laws.histories_are.Goals as goal
use Rattle.t1_strand_order.proofs.Example.{histories_are}

pub returns : goal.returns
returns c = histories_are
