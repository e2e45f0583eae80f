-- Numbers of so many bytes, as the code tests them.
use Rattle.std.proofs.Common.{◌≡◌, ◌+◌, ◌*◌, ◌/◌, ◌^◌, ◌<◌, ◌≤◌, ◌==◌, ℕ, true, false, refl, ap, sym, ◌∙◌, inl, inr, arith, nat_lt, lit<}
use Rattle.std.proofs.Math.Nat.{pow-le-pow_right, div-eq_of_lt, lt-mul-div-succ}
use Rattle.std.proofs.lemmas.Nat.{pow_pos}
use Rattle.std.proofs.lemmas.Bool.{cases_lt, cases_eq, lt-ltb, le-ltb, eq-eqb, ne_eqb}

pub fits_wide : (value size : ℕ) → value < 2 ^ 64 → 8 ≤ size → true ≡ nat_lt value (2 ^ (8 * size))
fits_wide value size v s =
    let bits : 64 ≤ 8 * size = omega (arith, s) in
    let more : 2 ^ 64 ≤ 2 ^ (8 * size) = pow-le-pow_right {n = 2} (lit< tt) bits in
    let low : value < 2 ^ (8 * size) = omega (arith, v, more) in
    sym (lt-ltb value (2 ^ (8 * size)) low)

divided : (value m : ℕ) → 0 < m → (value / m == 0) ≡ nat_lt value m
divided value m some = elim (cases_lt value m) [
  | inl low ↦ eq-eqb (value / m) 0 (div-eq_of_lt low) ∙ sym (lt-ltb value m low)
  | inr high ↦ ne_eqb (value / m) 0 (λ none.
      let past : value < m * (value / m + 1) = lt-mul-div-succ value some in
      let less : m * (value / m + 1) ≡ m = ap (λ (q : ℕ). m * (q + 1)) none ∙ (let e : m * 1 ≡ m = omega arith in e) in
      omega (arith, past, less, high)) ∙ sym (le-ltb value m high)
]

pub fits_narrow : (value size : ℕ) → (value / 2 ^ (8 * size) == 0) ≡ nat_lt value (2 ^ (8 * size))
fits_narrow value size = divided value (2 ^ (8 * size)) (pow_pos (8 * size))
