use Rattle.std.proofs.Common.{arith}
use Rattle.t1_chip.proofs.Sets.{without_one}
use Rattle.t1_chip.proofs.slot_set.without_slot.Goals as goal

pub returns : goal.returns
returns c = λ n h e. without_one c.args.set c.args.number n (let l = c.requires in omega (arith, l)) (omega (arith, h)) e
