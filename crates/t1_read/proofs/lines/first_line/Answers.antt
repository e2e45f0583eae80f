use Rattle.std.proofs.Common.{arith}
use Rattle.t1_read.proofs.Feeds.{feeds_more, no_feed}
use Rattle.t1_read.proofs.lines.first_line.Goals as goal

pub loop-at-preserved : goal.loop-at-preserved
loop-at-preserved c = (
    let n = feeds_more c.args.text.now c.loop-at.at c.loop-at-test.true in
    let z = no_feed _ c.if-text-at-eq10.false in
    omega (arith, n, z, c.loop-at.invariant)
    )
