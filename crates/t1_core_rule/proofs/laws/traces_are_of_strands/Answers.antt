use Rattle.t1_core_rule.proofs.laws.traces_are_of_strands.Goals as goal
use Rattle.t1_core_rule.proofs.Walks.{traces_are_of_strands}

pub returns : goal.returns
returns c = traces_are_of_strands
