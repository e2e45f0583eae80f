use Rattle.t1_core.proofs.Joined.{times_rise}
use Rattle.t1_core.proofs.laws.times_rise.Goals as goal

pub returns : goal.returns
returns c = times_rise
