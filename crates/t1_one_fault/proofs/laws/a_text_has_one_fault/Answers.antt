use Rattle.t1_one_fault.proofs.Ones.{one_fault}
use Rattle.t1_one_fault.proofs.laws.a_text_has_one_fault.Goals as goal

pub returns : goal.returns
returns c = λ text a b f g. one_fault text a b f g
