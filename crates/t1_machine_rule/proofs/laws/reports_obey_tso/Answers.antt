use Rattle.t1_machine_rule.proofs.laws.reports_obey_tso.Goals as goal
use Rattle.t1_machine_rule.proofs.Machines.{reports_obey}

pub returns : goal.returns
returns c = λ w m order run none keys. reports_obey w m order run none keys
