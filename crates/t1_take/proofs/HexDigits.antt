-- Hexadecimal digits, one more at the end.
use Rattle.std.proofs.Common.{◌≡◌, ℕ, zero, suc, ◌+◌, ◌*◌, ◌-◌, ◌/◌, ◌%◌, ◌^◌, ◌<◌, ◌≤◌, List, [], ◌∷◌, ◌++◌, length, take, drop, get_or, refl, sym, ap, ◌∙◌, arith}
use Rattle.std.proofs.Math.Nat.{div-div-eq-div-mul}
use Rattle.std.proofs.Math.Pow.{pow_mono}
use Rattle.std.proofs.lemmas.Nat.{pow-add}
use Rattle.std.proofs.lemmas.List.{take_more, get_or-drop, length-drop}
use Rattle.t1_log.specs.Hex.{digit_of, hex_of}

-- the digits of a number to which a digit was appended
high_same : (v d k : ℕ) → d < 16 → (v * 16 + d) / 2 ^ (4 * suc k) ≡ v / 2 ^ (4 * k)
high_same v d k h =
    let split : 2 ^ (4 * suc k) ≡ 16 * 2 ^ (4 * k) = (let e : 4 * suc k ≡ 4 + 4 * k = omega arith in ap (λ n. 2 ^ n) e) ∙ pow-add 2 4 (4 * k) in
    let one : (v * 16 + d) / 16 ≡ v = omega (arith, h) in
    ap (λ n. (v * 16 + d) / n) split ∙ (sym (div-div-eq-div-mul (v * 16 + d) 16 (2 ^ (4 * k))) ∙ ap (λ n. n / 2 ^ (4 * k)) one)

pub hex_last : (k v d : ℕ) → d < 16 → hex_of (suc k) (v * 16 + d) ≡ hex_of k v ++ digit_of d ∷ []
unfolding hex_of
hex_last zero v d h =
    let low : (v * 16 + d) / 1 % 16 ≡ d = omega (arith, h) in
    rw low refl
hex_last (suc k) v d h = rw (high_same v d k h) (ap (λ ds. digit_of (v / 2 ^ (4 * k) % 16) ∷ ds) (hex_last k v d h))

-- one digit more keeps a number in its digits
pub hex_room : (k v d : ℕ) → v < 2 ^ (4 * k) → d < 16 → v * 16 + d < 2 ^ (4 * suc k)
hex_room k v d a b =
    let split : 2 ^ (4 * suc k) ≡ 16 * 2 ^ (4 * k) = (let e : 4 * suc k ≡ 4 + 4 * k = omega arith in ap (λ n. 2 ^ n) e) ∙ pow-add 2 4 (4 * k) in
    omega (arith, a, b, split)

-- nothing wraps up to 16 digits
pub hex_fits : (k v d : ℕ) → k < 16 → v < 2 ^ (4 * k) → d < 16 → (v * 16 % 2 ^ 64 + d) % 2 ^ 64 ≡ v * 16 + d
hex_fits k v d few a b =
    let room = hex_room k v d a b in
    let most : 2 ^ (4 * suc k) ≤ 2 ^ 64 = pow_mono {i = 4 * suc k} {j = 64} (omega (arith, few)) in
    omega (arith, room, most)

pub record IsHexAt (text : List ℕ) (at k value : ℕ) : Type 0 where
  pub room : value < 2 ^ (4 * k)
  pub is : take k (drop at text) ≡ hex_of k value

pub hex_start : (text : List ℕ) (at : ℕ) → IsHexAt text at 0 0
unfolding hex_of
hex_start text at = record { room = omega arith; is = refl }

pub hex_goes : (text : List ℕ) (at k value d byte next : ℕ) → k < 16 → k < length text - at → IsHexAt text at k value → byte ≡ get_or text (at + k) 0 → d < 16 → byte ≡ digit_of d
    → next ≡ (value * 16 % 2 ^ 64 + d) % 2 ^ 64 → IsHexAt text at (k + 1) next
hex_goes text at k value d byte next few within so is small digit value_is =
    let e : k + 1 ≡ suc k = omega arith in
    let n : next ≡ value * 16 + d = value_is ∙ hex_fits k value d few so.room small in
    let one : get_or (drop at text) k 0 ≡ digit_of d = get_or-drop at text k 0 ∙ (sym is ∙ digit) in
    record {
      room = (let r = hex_room k value d so.room small in rw (e, n) r);
      is =
          take_more (drop at text) k 0 (omega (arith, within, length-drop at text))
          ∙ (rw (one, so.is) (sym (hex_last k value d small)) ∙ (ap (λ m. hex_of m (value * 16 + d)) (sym e) ∙ ap (hex_of (k + 1)) (sym n)));
    }
