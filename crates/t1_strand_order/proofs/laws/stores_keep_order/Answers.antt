use Rattle.t1_strand_order.proofs.laws.stores_keep_order.Goals as goal
use Rattle.t1_strand_order.proofs.Stores.{stores_keep_order}

pub returns : goal.returns
returns c = stores_keep_order
