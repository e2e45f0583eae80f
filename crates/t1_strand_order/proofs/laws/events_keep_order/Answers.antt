use Rattle.t1_strand_order.proofs.laws.events_keep_order.Goals as goal
use Rattle.t1_strand_order.proofs.Histories.{events_keep_order}

pub returns : goal.returns
returns c = events_keep_order
