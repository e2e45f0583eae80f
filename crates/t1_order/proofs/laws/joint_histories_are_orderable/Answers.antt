use Rattle.t1_order.proofs.Joint.{joint_are_orderable}
use Rattle.t1_order.proofs.laws.joint_histories_are_orderable.Goals as goal

pub returns : goal.returns
returns c = joint_are_orderable
