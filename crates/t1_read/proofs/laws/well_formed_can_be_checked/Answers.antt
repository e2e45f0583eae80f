use Rattle.t1_read.proofs.Words.{can_be_checked}
use Rattle.t1_read.proofs.laws.well_formed_can_be_checked.Goals as goal

pub returns : goal.returns
returns c = can_be_checked
