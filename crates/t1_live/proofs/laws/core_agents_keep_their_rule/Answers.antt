use Rattle.t1_live.proofs.Fitting.{core_rule}
use Rattle.t1_live.proofs.laws.core_agents_keep_their_rule.Goals as goal

pub returns : goal.returns
returns c = λ side k. core_rule side k
