use Rattle.t1_core_rule.proofs.laws.caches_follow_packets.Goals as goal
use Rattle.t1_core_rule.proofs.Examples.{caches_follow_packets}

pub returns : goal.returns
returns c = caches_follow_packets
