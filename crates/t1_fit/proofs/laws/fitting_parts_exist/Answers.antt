use Rattle.t1_fit.proofs.Example.{parts_exist}
use Rattle.t1_fit.proofs.laws.fitting_parts_exist.Goals as goal

pub returns : goal.returns
returns c = parts_exist
