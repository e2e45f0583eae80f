use Rattle.t1_bound.proofs.Bound.{is_no_longer}
use Rattle.t1_bound.proofs.laws.the_log_is_no_longer_than_the_steps.Goals as goal

pub returns : goal.returns
returns c = is_no_longer
