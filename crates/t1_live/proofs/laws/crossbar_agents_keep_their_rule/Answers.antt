use Rattle.t1_live.proofs.Fitting.{crossbar_rule}
use Rattle.t1_live.proofs.laws.crossbar_agents_keep_their_rule.Goals as goal

pub returns : goal.returns
returns c = λ side k. crossbar_rule side.setup side k
