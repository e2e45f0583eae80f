use Rattle.t1_l1.proofs.Pointers.{pointers_are_ways}
use Rattle.t1_l1.proofs.laws.pointers_are_ways.Goals as goal

pub returns : goal.returns
returns c = pointers_are_ways
