-- Bits that are put in at the low end.
use Rattle.std.proofs.Common.{◌≡◌, ◌+◌, ◌*◌, ◌/◌, ◌%◌, ◌^◌, ◌<◌, ◌≤◌, ◌-◌, ◌==◌, ◌≢◌, subst, ℕ, zero, suc, true, sym, ap, ◌∙◌, add-one, arith}
use Rattle.std.proofs.Math.Nat.{div-div-eq-div-mul, pow-le-pow_right}
use Rattle.std.proofs.lemmas.Grind.{pow_more, common_steps}
use Rattle.std.proofs.lemmas.Bool.Decides.{nat_tests}
use Rattle.t1_ring.specs.Row.{has_bit}

half : (r b : ℕ) → b < 2 → (2 * r + b) / 2 ≡ r
half r b h = omega arith

pub low : (r b : ℕ) → b < 2 → (2 * r + b) % 2 ≡ b
low r b h = omega arith

pub has_room_zero : (r b : ℕ) → b < 2 → has_bit (2 * r + b) 0 ≡ true → b ≡ 1
has_room_zero r b h e = let l = low r b h in grind (arith, nat_tests)

pub higher : (r b i : ℕ) → b < 2 → (2 * r + b) / 2 ^ (i + 1) ≡ r / 2 ^ i
higher r b i h =
    let two : 2 ^ (i + 1) ≡ 2 * 2 ^ i = omega (arith, pow_more 2 i) in
    ap (λ k. (2 * r + b) / k) two ∙ sym (div-div-eq-div-mul (2 * r + b) 2 (2 ^ i)) ∙ ap (λ k. k / 2 ^ i) (half r b h)

pub has_room_suc : (r b i : ℕ) → b < 2 → has_bit (2 * r + b) (suc i) ≡ true → has_bit r i ≡ true
has_room_suc r b i h e = ap (λ k. k % 2 == 1) (sym (higher r b i h)) ∙ ap (λ k. has_bit (2 * r + b) k) (add-one i) ∙ e

pub bits_fit : (r b k : ℕ) → b < 2 → k < 8 → r < 2 ^ k → 2 * r + b < 256
bits_fit r b k h few below =
    let most : 2 ^ (k + 1) ≤ 2 ^ 8 = pow-le-pow_right (omega arith) {i = k + 1} {j = 8} (omega arith) in
    omega (arith, pow_more 2 k)

pub bits_more : (r b k : ℕ) → b < 2 → r < 2 ^ k → 2 * r + b < 2 ^ (k + 1)
bits_more r b k h below = omega (arith, pow_more 2 k)

pub no_bits : (i : ℕ) → has_bit 0 i ≡ true → ⊥
no_bits i e = let z : 0 / 2 ^ i ≡ 0 = grind (arith, common_steps) in grind (arith, nat_tests)

-- the next end is looked at
pub room_step : (new before : ℕ → ℕ) (count k bits bit : ℕ) → k < count → bit < 2 → (bit ≡ 1 → 0 < new (count - 1 - k))
    → ((j : ℕ) → j ≢ count - 1 - k → new j ≡ before j) → ((j : ℕ) → has_bit bits j ≡ true → 0 < before (count - k + j))
    → (j : ℕ) → has_bit (2 * bits + bit) j ≡ true → 0 < new (count - (k + 1) + j)
room_step new before count k bits bit below small here others was zero e =
    let same : count - 1 - k ≡ count - (k + 1) + 0 = omega arith in
    subst (λ i. 0 < new i) same (here (has_room_zero bits bit small e))
room_step new before count k bits bit below small here others was (suc j) e =
    let same : count - k + j ≡ count - (k + 1) + suc j = omega arith in
    let other : count - (k + 1) + suc j ≢ count - 1 - k = omega arith in
    let old : 0 < before (count - (k + 1) + suc j) = subst (λ i. 0 < before i) same (was j (has_room_suc bits bit j small e)) in
    let o = others (count - (k + 1) + suc j) other in omega arith
