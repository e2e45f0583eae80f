use Rattle.t1_strand_order.proofs.laws.histories_keep_order.Goals as goal
use Rattle.t1_strand_order.proofs.Histories.{histories_keep_order}

pub returns : goal.returns
returns c = histories_keep_order
