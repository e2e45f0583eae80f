use Rattle.std.proofs.Common.{◌<◌, ℕ, sym, subst, arith}
use Rattle.std.proofs.lemmas.Grind.{common_steps}
use Rattle.t1_ring.proofs.Sets.{room_here, sent_more, tx_mark_same}
use Rattle.t1_live.proofs.Lanes.{of_mark}
use Rattle.t1_live.proofs.lane.send_at.Goals as goal

pub send-requires-clause-room : goal.send-requires-clause-room
send-requires-clause-room g c =
    subst (λ (n : ℕ). 0 < n) (room_here c.args.lanes.now.items c.args.at c.index_mut.result.now c.index_mut.ensures.value (grind (arith, common_steps))) c.requires.room

pub send-requires-clause-core : goal.send-requires-clause-core
send-requires-clause-core g c = sym (of_mark c.args.request.core c.args.lanes.now.items c.args.at c.index_mut.result.now c.requires.core c.index_mut.ensures.value (grind (arith, common_steps)))

pub returns-clause-marks : goal.returns-clause-marks
returns-clause-marks g c = tx_mark_same c.args.lanes.now.items c.args.at c.send.new.self c.index_mut.result.now c.index_mut.ensures.value (grind (arith, common_steps)) c.send.ensures.mark

pub returns-clause-sent : goal.returns-clause-sent
returns-clause-sent g c = sent_more c.args.lanes.now.items c.args.at c.send.new.self c.index_mut.result.now c.args.request c.index_mut.ensures.value (grind (arith, common_steps)) c.send.ensures.sent
