use Rattle.t1_select.proofs.Fair.{comes_nearer}
use Rattle.t1_select.proofs.laws.ready_comes_nearer.Goals as goal

pub returns : goal.returns
returns c = comes_nearer
