use Rattle.t1_core_idle.proofs.laws.finished_traces_have_endings.Goals as goal
use Rattle.t1_core_idle.proofs.Ends.{finished_traces_have_endings}

pub returns : goal.returns
returns c = finished_traces_have_endings
