use Rattle.t1_machine_rule.proofs.laws.machines_are_never_stuck.Goals as goal
use Rattle.t1_machine_rule.proofs.Machines.{never_stuck}

pub returns : goal.returns
returns c = λ w m run none. never_stuck w m run none
