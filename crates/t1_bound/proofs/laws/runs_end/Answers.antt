use Rattle.t1_bound.proofs.Ends.{ends_soon}
use Rattle.t1_bound.proofs.laws.runs_end.Goals as goal

pub returns : goal.returns
returns c = ends_soon
