use Rattle.t1_reads_back.proofs.Histories.{histories_good}
use Rattle.t1_reads_back.proofs.laws.joint_histories_are_well_formed.Goals as goal

pub returns : goal.returns
returns c = λ w traces log order console j limits words short listing printable. histories_good w traces log order console j limits words short listing printable
