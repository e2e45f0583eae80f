use Rattle.t1_core.proofs.Joined.{only_packets_change_caches}
use Rattle.t1_core.proofs.laws.only_packets_change_caches.Goals as goal

pub returns : goal.returns
returns c = only_packets_change_caches
