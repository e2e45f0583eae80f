use Rattle.t1_fit.proofs.History.{fitting_parts_tso}
use Rattle.t1_fit.proofs.laws.fitting_parts_obey_tso.Goals as goal

pub returns : goal.returns
returns c = fitting_parts_tso
