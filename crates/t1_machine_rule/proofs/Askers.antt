-- The asker that a destination serves, and the words of rooms, where rings are empty.
use Rattle.std.proofs.Common.{◌≡◌, ℕ, zero, suc, ◌+◌, ◌*◌, ◌/◌, ◌%◌, ◌^◌, ◌<◌, ◌≤◌, ◌==◌, true, false, List, [], ◌∷◌, length, get_or, Option, Some, None, refl, ap, sym, ◌∙◌, subst, inl, inr, arith}
use Rattle.std.specs.Int.{bit_at}
use Rattle.std.proofs.lemmas.Bool.{cases_Bool, cases_eq, cases_lt, eq-eqb, ne_eqb, eqb-false}
use Rattle.std.proofs.lemmas.Nat.Bits.{bit_at-suc, bit_at_lowest}
use Rattle.t1_packet.specs.declared.packet.Packet.{Packet}
use Rattle.t1_packet.specs.declared.served.Served.{Served}
use Rattle.t1_packet.specs.Packets.{packet_to}
use Rattle.t1_packet.specs.Data.{RequestData}
use Rattle.t1_core.specs.Steps.{has_room}
use Rattle.t1_xbar.specs.Admission as xbar
use Rattle.t1_xbar.specs.Admission.{full_from, full_before}
use Rattle.t1_machine.specs.Rings.{is_empty}
use Rattle.t1_machine.specs.Machine.{ring_of, room_bit, request_rooms, reply_rooms, core_after, asker_from}

empty_is : {A : Type 0} (xs : List A) → is_empty xs ≡ true → xs ≡ []
empty_is [] e = refl
empty_is (x ∷ xs) e = let clash : false ≡ true = e in cc

-- ---- askers

-- where none asks, the ring of each core that is within so many steps is empty
pub none_asks : (requests : List (List RequestData)) (cores d c n j : ℕ) → c < cores → j < cores → (c ≤ j → j < c + n) → (j < c → j + cores < c + n)
    → asker_from requests cores d c n ≡ None → ring_of requests j d ≡ []
unfolding asker_from
none_asks requests cores d c zero j lc lj near far e =
    elim (cases_lt j c) [
      | inl l ↦ absurd (let f = far l in omega (arith, f, lj, lc))
      | inr l ↦ absurd (let f = near l in omega (arith, f, l))
    ]
none_asks requests cores d c (suc n) j lc lj near far e =
    elim (cases_Bool (is_empty (ring_of requests c d))) [
      | inl t ↦
          let more : asker_from requests cores d (core_after cores c) n ≡ None = rw t at e in
          elim (cases_eq j c) [
            | inl same ↦ ap (λ (k : ℕ). ring_of requests k d) same ∙ empty_is (ring_of requests c d) t
            | inr ne ↦ elim (cases_eq (c + 1) cores) [
              | inl last ↦
                  let next : core_after cores c ≡ 0 = rw (eq-eqb (c + 1) cores last) refl in
                  let more' : asker_from requests cores d 0 n ≡ None = subst (λ (k : ℕ). asker_from requests cores d k n ≡ None) next more in
                  let below : j < c = omega (arith, ne, lj, last) in
                  let f = far below in
                  none_asks requests cores d 0 n j (omega (arith, lc)) lj (λ l. omega (arith, f, last)) (λ l. absurd (omega (arith, l))) more'
              | inr go ↦
                  let next : core_after cores c ≡ c + 1 = rw (ne_eqb (c + 1) cores go) refl in
                  let more' : asker_from requests cores d (c + 1) n ≡ None = subst (λ (k : ℕ). asker_from requests cores d k n ≡ None) next more in
                  none_asks requests cores d (c + 1) n j (omega (arith, lc, go)) lj
                  (λ l. (let f = near (omega (arith, l)) in omega (arith, f)))
                  (λ l. (let f = far (omega (arith, l, ne)) in omega (arith, f))) more'
            ]
          ]
      | inr t ↦ absurd (let some : Some c ≡ None = rw t at e in let clash : ◌≡◌ {A = Option ℕ} (Some c) None = some in cc)
    ]

-- where all rings to a destination are empty, none asks
pub asks_none : (requests : List (List RequestData)) (cores d c n : ℕ) → c < cores → ((j : ℕ) → j < cores → ring_of requests j d ≡ []) → asker_from requests cores d c n ≡ None
unfolding asker_from
asks_none requests cores d c zero lc none = refl
asks_none requests cores d c (suc n) lc none =
    let t : is_empty (ring_of requests c d) ≡ true = ap (λ (rs : List RequestData). is_empty rs) (none c lc) in
    rw t (elim (cases_Bool (c + 1 == cores)) [
      | inl last ↦ rw last (asks_none requests cores d 0 n (omega (arith, lc)) none)
      | inr go ↦ rw go (asks_none requests cores d (c + 1) n (let ne = eqb-false (c + 1) cores go in omega (arith, lc, ne)) none)
    ])

-- ---- rooms

-- a word of nine bits, all set
rooms_511 : (requests : List (List RequestData)) (c : ℕ) → ((d : ℕ) → d < 9 → ring_of requests c d ≡ []) → request_rooms requests c ≡ 511
unfolding request_rooms
rooms_511 requests c none =
    let bit : (d : ℕ) → d < 9 → room_bit 2 (ring_of requests c d) ≡ 1 = λ d l. ap (λ (rs : List RequestData). room_bit 2 rs) (none d l) in
    let b0 = bit 0 (omega arith) in
    let b1 = bit 1 (omega arith) in
    let b2 = bit 2 (omega arith) in
    let b3 = bit 3 (omega arith) in
    let b4 = bit 4 (omega arith) in
    let b5 = bit 5 (omega arith) in
    let b6 = bit 6 (omega arith) in
    let b7 = bit 7 (omega arith) in
    let b8 = bit 8 (omega arith) in
    omega (arith, b0, b1, b2, b3, b4, b5, b6, b7, b8)

room_511 : (d : ℕ) → d < 9 → has_room 511 d ≡ true
room_511 zero l = refl
room_511 (suc zero) l = refl
room_511 (suc (suc zero)) l = refl
room_511 (suc (suc (suc zero))) l = refl
room_511 (suc (suc (suc (suc zero)))) l = refl
room_511 (suc (suc (suc (suc (suc zero))))) l = refl
room_511 (suc (suc (suc (suc (suc (suc zero)))))) l = refl
room_511 (suc (suc (suc (suc (suc (suc (suc zero))))))) l = refl
room_511 (suc (suc (suc (suc (suc (suc (suc (suc zero)))))))) l = refl
room_511 (suc (suc (suc (suc (suc (suc (suc (suc (suc d))))))))) l = absurd (omega (arith, l))

pub requests_have_room : (requests : List (List RequestData)) (c : ℕ) → ((d : ℕ) → d < 9 → ring_of requests c d ≡ []) → (d : ℕ) → d < 9 → has_room (request_rooms requests c) d ≡ true
requests_have_room requests c none d l = ap (λ (word : ℕ). has_room word d) (rooms_511 requests c none) ∙ room_511 d l

reply_bit : (rings : List (List Packet)) (i : ℕ) → ((k : ℕ) → k < length rings → get_or rings k [] ≡ []) → i < length rings → bit_at (reply_rooms rings) i ≡ 1
unfolding reply_rooms
reply_bit [] i none l = absurd (omega (arith, l))
reply_bit (ring ∷ rings) zero none l =
    let one : room_bit 16 ring ≡ 1 = ap (λ (ps : List Packet). room_bit 16 ps) (none 0 (omega arith)) in
    bit_at_lowest (room_bit 16 ring + 2 * reply_rooms rings) ∙ omega (arith, one)
reply_bit (ring ∷ rings) (suc i) none l =
    let one : room_bit 16 ring ≡ 1 = ap (λ (ps : List Packet). room_bit 16 ps) (none 0 (omega arith)) in
    let half : (room_bit 16 ring + 2 * reply_rooms rings) / 2 ≡ reply_rooms rings = omega (arith, one) in
    bit_at-suc (room_bit 16 ring + 2 * reply_rooms rings) i ∙ (ap (λ (n : ℕ). bit_at n i) half ∙ reply_bit rings i (λ k lk. none (suc k) (omega (arith, lk))) (omega (arith, l)))

pub replies_have_room : (rings : List (List Packet)) → ((k : ℕ) → k < length rings → get_or rings k [] ≡ []) → (i : ℕ) → i < length rings → xbar.has_room (reply_rooms rings) i ≡ true
replies_have_room rings none i l =
    let one : reply_rooms rings / 2 ^ i % 2 ≡ 1 = reply_bit rings i none l in eq-eqb (reply_rooms rings / 2 ^ i % 2) 1 one

-- where all reply rings have room, no core is full
pub none_full : (rooms index : ℕ) (a : Served) (c n cores : ℕ) → c + n ≤ cores → ((i : ℕ) → i < cores → xbar.has_room rooms i ≡ true) → full_from rooms index a c n ≡ None
unfolding full_from
none_full rooms index a c zero cores l room = refl
none_full rooms index a c (suc n) cores l room = by (packet_to c index a) (none_full rooms index a (c + 1) n cores (omega (arith, l)) room)
  where
    by : (o : Option Packet) → full_from rooms index a (c + 1) n ≡ None → full_before rooms c o (full_from rooms index a (c + 1) n) ≡ None
    by None more = more
    by (Some packet) more = rw (room c (omega (arith, l))) more

-- a core that asks has a request in its ring
pub asker_some : (requests : List (List RequestData)) (cores d c n k : ℕ) → asker_from requests cores d c n ≡ Some k → ring_of requests k d ≡ [] → ⊥
unfolding asker_from
asker_some requests cores d c zero k e h = let clash : ◌≡◌ {A = Option ℕ} None (Some k) = e in cc
asker_some requests cores d c (suc n) k e h =
    elim (cases_Bool (is_empty (ring_of requests c d))) [
      | inl t ↦ (let more : asker_from requests cores d (core_after cores c) n ≡ Some k = rw t at e in asker_some requests cores d (core_after cores c) n k more h)
      | inr t ↦
          let some : ◌≡◌ {A = Option ℕ} (Some c) (Some k) = rw t at e in
          let same : c ≡ k = cc (some) in
          let f : is_empty (ring_of requests k d) ≡ false = subst (λ (j : ℕ). is_empty (ring_of requests j d) ≡ false) same t in
          let clash : true ≡ false = sym (ap (λ (rs : List RequestData). is_empty rs) h) ∙ f in cc
    ]
