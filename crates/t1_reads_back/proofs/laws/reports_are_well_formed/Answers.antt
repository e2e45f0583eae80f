use Rattle.t1_reads_back.proofs.Machines.{reports_good}
use Rattle.t1_reads_back.proofs.laws.reports_are_well_formed.Goals as goal

pub returns : goal.returns
returns c = λ w m order run none keys limits entry words. reports_good w m order run none keys limits entry words
