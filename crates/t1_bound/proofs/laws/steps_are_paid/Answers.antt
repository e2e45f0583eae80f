use Rattle.t1_bound.proofs.Bound.{are_paid}
use Rattle.t1_bound.proofs.laws.steps_are_paid.Goals as goal

pub returns : goal.returns
returns c = are_paid
