use Rattle.std.proofs.Common.{get_or, rules, arith}
use Rattle.t1_ring.specs.Row.{rooms_of}
use Rattle.t1_ring.proofs.Bits.{room_step, bits_more, no_bits}
use Rattle.t1_ring.proofs.row.rooms.Goals as goal

pub loop-k-init : goal.loop-k-init
loop-k-init g c = record {
  marks = search rules;
  len = search rules;
  sent = search rules;
  small = omega arith;
  room = λ j e. absurd (no_bits j e);
}

pub loop-k-preserved : goal.loop-k-preserved
loop-k-preserved g c = record {
  marks = search rules;
  len = search rules;
  sent = search rules;
  small = bits_more _ _ _ c.room_at.ensures.bit c.loop-k.invariant.small;
  room = room_step (λ i. get_or (rooms_of c.room_at.new.ends.items) i 0) (λ i. get_or (rooms_of c.loop-k.ends.items) i 0) _ _ _ _ c.loop-k-test.true c.room_at.ensures.bit c.room_at.ensures.here c.room_at.ensures.others c.loop-k.invariant.room;
}
