use Rattle.t1_machine_rule.proofs.laws.machines_end_in_joint_histories.Goals as goal
use Rattle.t1_machine_rule.proofs.Machines.{end_in_histories}

pub returns : goal.returns
returns c = λ w m run none. end_in_histories w m run none
