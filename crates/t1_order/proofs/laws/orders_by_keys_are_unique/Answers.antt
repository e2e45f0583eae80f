use Rattle.t1_order.proofs.Unique.{orders_are_one}
use Rattle.t1_order.proofs.laws.orders_by_keys_are_unique.Goals as goal

pub returns : goal.returns
returns c = orders_are_one
