use Rattle.t1_live.proofs.laws.destination_agents_keep_their_rule.Goals as goal

pub returns : goal.returns
returns c = λ side k. k.part
