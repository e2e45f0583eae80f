use Rattle.t1_machine_rule.proofs.laws.slots_keep.Goals as goal
use Rattle.t1_machine_rule.proofs.After.{kept_after}

pub returns : goal.returns
returns c = λ w numbers runs. kept_after w runs numbers
