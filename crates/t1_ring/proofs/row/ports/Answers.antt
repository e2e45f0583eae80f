use Rattle.std.proofs.Common.{rules, arith}
use Rattle.std.proofs.lemmas.Grind.{common_steps}
use Rattle.t1_ring.proofs.Sets.{mark_more, blank_sent, blank_got}
use Rattle.t1_ring.proofs.row.ports.Goals as goal

pub loop-preserved : goal.loop-preserved
loop-preserved g c =
    let i = c.loop.invariant in
    record {
      senders = grind (arith, common_steps);
      receivers = grind (arith, common_steps);
      room = grind (arith, common_steps);
      marks = mark_more _ _ _ _ _ _ c.push_reserved.ensures.items c.push_reserved-in-loop.ensures.items (search rules) i.marks;
      sent = blank_sent _ _ _ c.push_reserved.ensures.items (search rules) i.sent;
      got = blank_got _ _ _ c.push_reserved-in-loop.ensures.items (search rules) i.got;
    }
