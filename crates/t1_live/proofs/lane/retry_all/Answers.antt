use Rattle.std.proofs.Common.{◌<◌, ◌∙◌, length, arith}
use Rattle.std.proofs.lemmas.Grind.{common_steps}
use Rattle.t1_ring.proofs.Sets.{sent_same, tx_mark_same}
use Rattle.t1_live.proofs.lane.retry_all.Goals as goal

pub loop-at-preserved : goal.loop-at-preserved
loop-at-preserved g c =
    let i = c.loop-at.invariant in
    let lanes = c.loop-at.lanes.items in
    let within : c.loop-at.at < length lanes = grind (arith, common_steps) in
    record {
      len = i.len;
      marks = tx_mark_same lanes c.loop-at.at c.retry.new.self c.index_mut.result.now c.index_mut.ensures.value within c.retry.ensures.mark ∙ i.marks;
      sent = sent_same lanes c.loop-at.at c.retry.new.self c.index_mut.result.now c.index_mut.ensures.value within c.retry.ensures.sent ∙ i.sent;
    }
