use Rattle.t1_select.proofs.Fair.{none_ready}
use Rattle.t1_select.proofs.laws.none_is_ready.Goals as goal

pub returns : goal.returns
returns c = none_ready
