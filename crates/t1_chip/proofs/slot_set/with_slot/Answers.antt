use Rattle.std.proofs.Common.{arith}
use Rattle.t1_chip.proofs.Sets.{with_one}
use Rattle.t1_chip.proofs.slot_set.with_slot.Goals as goal

pub returns : goal.returns
returns c = λ n e. with_one c.args.set c.args.number n (let l = c.requires in omega (arith, l)) e
