use Rattle.t1_core_rule.proofs.laws.clocks_go_on.Goals as goal
use Rattle.t1_core_rule.proofs.Walks.{clocks_go_on}

pub returns : goal.returns
returns c = clocks_go_on
