use Rattle.std.proofs.Common.{◌≡◌, ◌+◌, ◌-◌, ◌<◌, ◌∙◌, ℕ, length, get_or, refl, sym, arith}
use Rattle.std.proofs.lemmas.Grind.{common_steps}
use Rattle.std.proofs.lemmas.List.{get_or_past}
use Rattle.t1_ring.specs.Row.{rooms_of}
use Rattle.t1_ring.proofs.Bits.{room_step, bits_more, no_bits}
use Rattle.t1_ring.proofs.Sets.{room_here, rooms_length}
use Rattle.t1_live.proofs.Lanes.{free_step}
use Rattle.t1_live.proofs.lane.rooms.Goals as goal

pub loop-k-init : goal.loop-k-init
loop-k-init c =
    let lanes = c.args.lanes.now.items in
    let all : c.len-count.result ≡ length lanes = grind (arith, common_steps) in
    let long = rooms_length lanes in
    record {
      small = omega arith;
      room = λ j e. absurd (no_bits j e);
      free = λ j e. absurd (let past = get_or_past (rooms_of lanes) (c.len-count.result - 0 + j) 0 (omega (arith, all, long)) in omega (arith, past, e));
    }

pub loop-k-preserved : goal.loop-k-preserved
loop-k-preserved c =
    let i = c.loop-k.invariant in
    let lanes = c.args.lanes.now.items in
    let count = c.len-count.result in
    let k = c.loop-k.k in
    let all : count ≡ length lanes = grind (arith, common_steps) in
    let low = c.loop-k-test.true in
    let within : count - 1 - k < length lanes = omega (arith, all, low) in
    let is : c.room.result ≡ get_or (rooms_of lanes) (count - 1 - k) 0 = c.room.ensures.0 ∙ sym (room_here lanes (count - 1 - k) c.index.result.now c.index.ensures within) in
    record {
      small = bits_more c.loop-k.bits c.room.result k c.room.ensures.1 i.small;
      room = room_step (λ (j : ℕ). get_or (rooms_of lanes) j 0) (λ (j : ℕ). get_or (rooms_of lanes) j 0) count k c.loop-k.bits c.room.result low c.room.ensures.1 (λ e. omega (arith, e, is)) (λ j ne. refl) i.room;
      free = free_step (λ (j : ℕ). get_or (rooms_of lanes) j 0) count k c.loop-k.bits c.room.result low c.room.ensures.1 is i.free;
    }
