use Rattle.t1_fit.proofs.History.{packets_are_proper}
use Rattle.t1_fit.proofs.laws.fitting_parts_have_proper_packets.Goals as goal

pub returns : goal.returns
returns c = packets_are_proper
