use Rattle.std.proofs.Common.{arith}
use Rattle.t1_check.proofs.Crossings.{some_below}
use Rattle.t1_check.proofs.crossing.first_below.Goals as goal

pub returns : goal.returns
returns c =
    absurd (some_below c.args.goals.now c.args.start c.args.bound (omega (arith, c.ranges.bound.fits)) c.requires (λ j a b. c.loop-at.invariant j a (omega (arith, b, c.loop-at-test.false))))
