use Rattle.t1_plain.proofs.laws.starts_are_plain.Goals as goal
use Rattle.t1_plain.proofs.Plain.{starts_are_plain}

pub returns : goal.returns
returns c = starts_are_plain
