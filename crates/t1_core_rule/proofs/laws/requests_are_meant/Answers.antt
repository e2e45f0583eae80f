use Rattle.t1_core_rule.proofs.laws.requests_are_meant.Goals as goal
use Rattle.t1_core_rule.proofs.Walks.{requests_are_meant}

pub returns : goal.returns
returns c = requests_are_meant
