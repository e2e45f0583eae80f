use Rattle.t1_machine_rule.proofs.laws.machines_stand.Goals as goal
use Rattle.t1_machine_rule.proofs.Stand.{machines_stand}

pub returns : goal.returns
returns c = λ w m run. machines_stand w m run
