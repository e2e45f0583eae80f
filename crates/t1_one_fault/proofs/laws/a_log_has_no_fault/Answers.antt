use Rattle.t1_one_fault.proofs.Ones.{no_fault}
use Rattle.t1_one_fault.proofs.laws.a_log_has_no_fault.Goals as goal

pub returns : goal.returns
returns c = λ report error w b f. no_fault report error w b f
