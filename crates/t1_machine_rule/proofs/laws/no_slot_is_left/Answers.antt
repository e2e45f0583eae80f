use Rattle.t1_machine_rule.proofs.laws.no_slot_is_left.Goals as goal
use Rattle.t1_machine_rule.proofs.Machines.{none_is_left}

pub returns : goal.returns
returns c = λ w m run over. none_is_left w m run over
