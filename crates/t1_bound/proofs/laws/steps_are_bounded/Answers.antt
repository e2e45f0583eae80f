use Rattle.t1_bound.proofs.Bound.{are_bounded}
use Rattle.t1_bound.proofs.laws.steps_are_bounded.Goals as goal

pub returns : goal.returns
returns c = are_bounded
