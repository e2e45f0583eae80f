use Rattle.t1_event.proofs.laws.one_strand_obeys_tso.Goals as goal
use Rattle.t1_event.proofs.OneStrand.{one_strand_obeys_tso}

pub returns : goal.returns
returns c = one_strand_obeys_tso
