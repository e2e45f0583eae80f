use Rattle.t1_core_rule.proofs.laws.packets_can_be_proper.Goals as goal
use Rattle.t1_core_rule.proofs.Examples.{packets_can_be_proper}

pub returns : goal.returns
returns c = packets_can_be_proper
