use Rattle.t1_read.proofs.Printed.{has_log}
use Rattle.t1_read.proofs.laws.well_formed_is_printable.Goals as goal

pub returns : goal.returns
returns c = has_log
