use Rattle.t1_received.proofs.laws.caches_follow_packets.Goals as goal
use Rattle.t1_received.proofs.Packets.{caches_follow_packets}

pub returns : goal.returns
returns c = caches_follow_packets
