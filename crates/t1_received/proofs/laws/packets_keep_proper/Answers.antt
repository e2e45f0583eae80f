use Rattle.t1_received.proofs.laws.packets_keep_proper.Goals as goal
use Rattle.t1_received.proofs.Packets.{packets_keep_proper}

pub returns : goal.returns
returns c = packets_keep_proper
