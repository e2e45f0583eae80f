use Rattle.t1_strand_order.proofs.laws.sent_stores_keep_order.Goals as goal
use Rattle.t1_strand_order.proofs.Stores.{sent_stores_keep_order}

pub returns : goal.returns
returns c = sent_stores_keep_order
