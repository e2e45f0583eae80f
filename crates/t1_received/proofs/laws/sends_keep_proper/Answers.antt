use Rattle.t1_received.proofs.laws.sends_keep_proper.Goals as goal
use Rattle.t1_received.proofs.Sends.{sends_keep_proper}

pub returns : goal.returns
returns c = sends_keep_proper
