use Rattle.t1_plain.proofs.laws.plain_strands_have_no_hyper.Goals as goal
use Rattle.t1_plain.proofs.Plain.{plain_strands_have_no_hyper}

pub returns : goal.returns
returns c = plain_strands_have_no_hyper
