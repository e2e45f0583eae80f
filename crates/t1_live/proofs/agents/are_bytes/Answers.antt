use Rattle.std.proofs.Common.{arith}
use Rattle.t1_live.proofs.agents.are_bytes.Goals as goal

pub returns : goal.returns
returns c = λ i. omega (arith, c.type_inv.image i)
