use Rattle.t1_core_rule.proofs.laws.packets_are_past.Goals as goal
use Rattle.t1_core_rule.proofs.Walks.{packets_are_past}

pub returns : goal.returns
returns c = packets_are_past
