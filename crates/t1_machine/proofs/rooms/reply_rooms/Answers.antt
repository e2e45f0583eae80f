use Rattle.std.proofs.Common.{◌≡◌, ◌∙◌, ◌*◌, ◌^◌, ◌+◌, ℕ, [], get_or, ap, add-one}
use Rattle.std.proofs.Math.Nat.{pow-suc}
use Rattle.std.proofs.lemmas.List.{get_or_read}
use Rattle.t1_machine.specs.Machine.{room_bit}
use Rattle.t1_machine.proofs.Bits.{ring_more, ring_ends, bit_below}
use Rattle.t1_machine.proofs.rooms.reply_rooms.Goals as goal

pow_next : (bit i : ℕ) → bit ≡ 2 ^ i → bit * 2 ≡ 2 ^ (i + 1)
pow_next bit i e = rw (add-one i, pow-suc 2 i) (ap (λ (n : ℕ). n * 2) e)

pub loop-ring-preserved : goal.loop-ring-preserved
loop-ring-preserved c =
    let e = get_or_read c.args.replies.now _ _ c.loop-ring-test.true c.ring-item.is [] in
    let f : c.reply_bit.result ≡ room_bit 16 (get_or c.args.replies.now c.loop-ring.ring-index []) = c.reply_bit.ensures.value ∙ ap (λ r. room_bit 16 r) e in
    record {
      word = rw f (ring_more c.args.replies.now c.loop-ring.ring-index c.loop-ring.word c.loop-ring.bit _ c.loop-ring-test.true c.loop-ring.invariant.word);
      below = bit_below c.loop-ring.word c.loop-ring.bit c.reply_bit.result c.loop-ring.invariant.below c.reply_bit.ensures.bit;
      bit = pow_next c.loop-ring.bit c.loop-ring.ring-index c.loop-ring.invariant.bit;
    }

pub returns : goal.returns
returns c = ring_ends c.args.replies.now c.loop-ring.ring-index c.loop-ring.word c.loop-ring.bit _ c.loop-ring-test.false c.loop-ring.invariant.word
