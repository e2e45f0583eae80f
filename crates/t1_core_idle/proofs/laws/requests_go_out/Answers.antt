use Rattle.t1_core_idle.proofs.laws.requests_go_out.Goals as goal
use Rattle.t1_core_idle.proofs.Dests.{requests_go_out}

pub returns : goal.returns
returns c = requests_go_out
