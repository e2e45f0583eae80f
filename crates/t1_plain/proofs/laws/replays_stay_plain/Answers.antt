use Rattle.t1_plain.proofs.laws.replays_stay_plain.Goals as goal
use Rattle.t1_plain.proofs.Plain.{replays_stay_plain}

pub returns : goal.returns
returns c = replays_stay_plain
