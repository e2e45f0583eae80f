-- Words with a bit for each ring that has room.
use Rattle.std.proofs.Common.{◌≡◌, ◌+◌, ◌*◌, ◌/◌, ◌%◌, ◌^◌, ◌<◌, ◌≤◌, ℕ, zero, suc, Bool, true, false, List, [], ◌∷◌, length, get_or, drop, nat_lt, refl, ap, sym, ◌∙◌, subst, arith, add-one, lit≤, if◌then◌else◌}
use Rattle.std.proofs.Math.ListN.{drop_of_length-le}
use Rattle.std.specs.Int.{bit_at}
use Rattle.std.proofs.lemmas.Nat.Bits.{bit_at-suc, bit_at_lowest}
use Rattle.std.proofs.lemmas.Bool.{ltb-true, eqb-true}
use Rattle.t1_packet.specs.declared.packet.Packet.{Packet}
use Rattle.t1_packet.specs.Data.{RequestData}
use Rattle.t1_core.specs.Steps.{has_room}
use Rattle.t1_machine.specs.Machine.{most_replies, room_bit, ring_of, rooms_from, request_rooms, reply_rooms}

-- ---- one bit before the others

low_bit : (b x : ℕ) → b ≤ 1 → bit_at (b + 2 * x) 0 ≡ b
low_bit b x h = bit_at_lowest (b + 2 * x) ∙ omega arith

next_bit : (b x i : ℕ) → b ≤ 1 → bit_at (b + 2 * x) (suc i) ≡ bit_at x i
next_bit b x i h =
    let half : (b + 2 * x) / 2 ≡ x = omega arith in
    bit_at-suc (b + 2 * x) i ∙ ap (λ (n : ℕ). bit_at n i) half

bit_small : {A : Type 0} (most : ℕ) (ring : List A) → room_bit most ring ≤ 1
bit_small most ring = by (nat_lt (length ring) most)
  where
    by : (b : Bool) → (if b then 1 else 0) ≤ 1
    by true = omega arith
    by false = omega arith

set_bit : (b : Bool) → ◌≡◌ {A = ℕ} (if b then 1 else 0) 1 → b ≡ true
set_bit true e = refl
set_bit false e = let clash : ◌≡◌ {A = ℕ} 0 1 = e in absurd (omega arith)

bit_room : {A : Type 0} (most : ℕ) (ring : List A) → room_bit most ring ≡ 1 → length ring < most
bit_room most ring e = ltb-true (length ring) most (set_bit (nat_lt (length ring) most) e)

-- a bit that is tested by a division
tested : (word i : ℕ) → has_room word i ≡ true → bit_at word i ≡ 1
tested word i e = eqb-true (word / 2 ^ i % 2) 1 e

-- ---- the request rings of a core

from_dest : (requests : List (List RequestData)) (core d n i : ℕ) → i < n → bit_at (rooms_from requests core d n) i ≡ 1 → length (ring_of requests core (d + i)) < 2
from_dest requests core d zero i below e = absurd (omega arith)
from_dest requests core d (suc n) zero below e =
    let here : length (ring_of requests core d) < 2 =
    bit_room 2 (ring_of requests core d) (sym (low_bit (room_bit 2 (ring_of requests core d)) (rooms_from requests core (d + 1) n) (bit_small 2 (ring_of requests core d))) ∙ e) in
    let end : d ≡ d + 0 = omega arith in subst (λ (n : ℕ). length (ring_of requests core n) < 2) end here
from_dest requests core d (suc n) (suc i) below e =
    let next : bit_at (rooms_from requests core (d + 1) n) i ≡ 1 =
    sym (next_bit (room_bit 2 (ring_of requests core d)) (rooms_from requests core (d + 1) n) i (bit_small 2 (ring_of requests core d))) ∙ e in
    let rest : length (ring_of requests core (d + 1 + i)) < 2 = from_dest requests core (d + 1) n i (omega arith) next in
    let place : d + 1 + i ≡ d + suc i = omega arith in
    rw (← place) rest

-- where the bit of a destination is set, the ring to it has room
pub request_has_room : (requests : List (List RequestData)) (core d : ℕ) → d < 9 → has_room (request_rooms requests core) d ≡ true
    → length (get_or requests (9 * core + d) []) < 2
unfolding request_rooms
request_has_room requests core d below e =
    let start : 0 + d ≡ d = omega arith in
    subst (λ (n : ℕ). length (ring_of requests core n) < 2) start (from_dest requests core 0 9 d below (tested (rooms_from requests core 0 9) d e))

-- ---- the reply rings

reply_is : (rings : List (List Packet)) (i : ℕ) → i < length rings → bit_at (reply_rooms rings) i ≡ 1 → length (get_or rings i []) < most_replies
unfolding reply_rooms
reply_is [] i h e = absurd (omega arith)
reply_is (ring ∷ rings) zero h e = bit_room 16 ring (sym (low_bit (room_bit 16 ring) (reply_rooms rings) (bit_small 16 ring)) ∙ e)
reply_is (ring ∷ rings) (suc i) h e = reply_is rings i (omega arith) (sym (next_bit (room_bit 16 ring) (reply_rooms rings) i (bit_small 16 ring)) ∙ e)

-- where the bit of a core is set, its reply ring has room
pub reply_has_room : (rings : List (List Packet)) (i : ℕ) → i < length rings → has_room (reply_rooms rings) i ≡ true → length (get_or rings i []) < most_replies
reply_has_room rings i h e = reply_is rings i h (tested (reply_rooms rings) i e)

-- ---- one ring more

ring_next : (rings : List (List Packet)) (i word bit total : ℕ) → i < length rings → word + bit * reply_rooms (drop i rings) ≡ total
    → (word + bit * room_bit 16 (get_or rings i [])) + (bit * 2) * reply_rooms (drop (suc i) rings) ≡ total
unfolding reply_rooms
ring_next [] i word bit total h e = absurd (omega arith)
ring_next (ring ∷ rings) zero word bit total h e =
    let f : ℕ = room_bit 16 ring in
    let x : ℕ = reply_rooms rings in
    let m : bit * (f + 2 * x) ≡ bit * f + (bit * 2) * x = grind arith in
    let g : (word + bit * f) + (bit * 2) * x ≡ word + bit * (f + 2 * x) = omega (arith, m) in g ∙ e
ring_next (ring ∷ rings) (suc i) word bit total h e = ring_next rings i word bit total (omega arith) e

pub ring_more : (rings : List (List Packet)) (i word bit total : ℕ) → i < length rings → word + bit * reply_rooms (drop i rings) ≡ total
    → (word + bit * room_bit 16 (get_or rings i [])) + (bit * 2) * reply_rooms (drop (i + 1) rings) ≡ total
ring_more rings i word bit total h e = rw (add-one i) (ring_next rings i word bit total h e)

pub ring_ends : (rings : List (List Packet)) (i word bit total : ℕ) → length rings ≤ i → word + bit * reply_rooms (drop i rings) ≡ total → word ≡ total
unfolding reply_rooms
ring_ends rings i word bit total h e =
    let none : drop i rings ≡ [] = drop_of_length-le rings h in
    let zero_left : reply_rooms (drop i rings) ≡ 0 = ap (λ (xs : List (List Packet)). reply_rooms xs) none in
    let m : bit * reply_rooms (drop i rings) ≡ bit * 0 = ap (λ (k : ℕ). bit * k) zero_left in
    let z : bit * 0 ≡ 0 = omega arith in
    omega (arith, m, z, e)

pub bit_below : (word bit b : ℕ) → word < bit → b ≤ 1 → word + bit * b < bit * 2
bit_below word bit zero h f = let z : bit * 0 ≡ 0 = omega arith in omega (arith, z)
bit_below word bit (suc zero) h f = let z : bit * 1 ≡ bit = omega arith in omega (arith, z)
bit_below word bit (suc (suc b)) h f = absurd (omega arith)

pub pow_small : (i : ℕ) → i ≤ 8 → 2 ^ i ≤ 256
pow_small zero h = lit≤ tt
pow_small (suc zero) h = lit≤ tt
pow_small (suc (suc zero)) h = lit≤ tt
pow_small (suc (suc (suc zero))) h = lit≤ tt
pow_small (suc (suc (suc (suc zero)))) h = lit≤ tt
pow_small (suc (suc (suc (suc (suc zero))))) h = lit≤ tt
pow_small (suc (suc (suc (suc (suc (suc zero)))))) h = lit≤ tt
pow_small (suc (suc (suc (suc (suc (suc (suc zero))))))) h = lit≤ tt
pow_small (suc (suc (suc (suc (suc (suc (suc (suc zero)))))))) h = lit≤ tt
pow_small (suc (suc (suc (suc (suc (suc (suc (suc (suc i))))))))) h = absurd (omega arith)
