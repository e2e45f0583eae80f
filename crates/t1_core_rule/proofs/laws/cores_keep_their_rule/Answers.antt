use Rattle.t1_core_rule.proofs.laws.cores_keep_their_rule.Goals as goal
use Rattle.t1_core_rule.proofs.Rules.{cores_keep_their_rule}

pub returns : goal.returns
returns c = cores_keep_their_rule
