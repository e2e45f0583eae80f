use Rattle.t1_joint.proofs.Shapes.{items_shaped}
use Rattle.t1_joint.proofs.laws.items_are_shaped.Goals as goal

pub returns : goal.returns
returns c = items_shaped
