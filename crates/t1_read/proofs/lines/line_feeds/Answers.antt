use Rattle.std.proofs.Common.{take, arith}
use Rattle.std.proofs.lemmas.List.{length-take}
use Rattle.t1_read.proofs.Feeds.{feeds_more, feeds_few, one_feed, no_feed}
use Rattle.t1_read.proofs.lines.line_feeds.Goals.{then-text-at-eq10, else-text-at-eq10}
use Rattle.t1_read.proofs.lines.line_feeds.Goals as goal

pub overflow_add-count : goal.overflow_add-count
overflow_add-count c = (
    let few = feeds_few (take c.loop-at.at c.args.text.now) in
    let n = length-take c.loop-at.at c.args.text.now in
    omega (arith, few, n, c.loop-at.invariant, c.requires)
    )

pub loop-at-preserved : goal.loop-at-preserved
loop-at-preserved c = (
    let n = feeds_more c.args.text.now c.loop-at.at c.loop-at-test.true in
    elim c.if-text-at-eq10.branch [
      | then-text-at-eq10 w ↦ (let z = one_feed _ w.if-text-at-eq10.true in omega (arith, n, z, w.count-is, c.loop-at.invariant))
      | else-text-at-eq10 w ↦ (let z = no_feed _ w.if-text-at-eq10.false in omega (arith, n, z, w.count-is, c.loop-at.invariant))
    ]
    )
