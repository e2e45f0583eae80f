use Rattle.std.proofs.Common.{◌<◌, ◌^◌, rules}
use Rattle.t1_chip.proofs.Sets.{with_word}
use Rattle.t1_chip.proofs.slot_set.with_bits.Goals as goal

pub returns : goal.returns
returns c = λ n e.
    let small : c.args.bits < 2 ^ 16 = search rules in
    with_word c.args.set c.args.first c.args.bits n c.requires small e
