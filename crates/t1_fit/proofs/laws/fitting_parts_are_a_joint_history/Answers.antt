use Rattle.t1_fit.proofs.History.{fitting_parts_are_history}
use Rattle.t1_fit.proofs.laws.fitting_parts_are_a_joint_history.Goals as goal

pub returns : goal.returns
returns c = fitting_parts_are_history
