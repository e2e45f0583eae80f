use Rattle.t1_core.proofs.Joined.{strands_are_replays}
use Rattle.t1_core.proofs.laws.strands_are_replays.Goals as goal

pub returns : goal.returns
returns c = strands_are_replays
