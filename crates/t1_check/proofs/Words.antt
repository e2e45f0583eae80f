-- Bytes of numbers, and bytes of words.
use Rattle.std.proofs.Common.{◌≡◌, ℕ, zero, suc, ◌+◌, ◌*◌, ◌-◌, ◌/◌, ◌%◌, ◌^◌, ◌<◌, ◌≤◌, ◌++◌, List, [], ◌∷◌, length, get_or, replicate, refl, sym, ap, ◌∙◌, inl, inr, arith}
use Rattle.std.proofs.lemmas.Bool.{cases_eq, eq-eqb, ne_eqb}
use Rattle.std.proofs.Math.Nat.{div-div-eq-div-mul, div-eq_of_lt}
use Rattle.std.proofs.Math.Pow.{pow_mono}
use Rattle.std.proofs.lemmas.Nat.{pow-add}
use Rattle.std.specs.Option.{unwrap_or}
use Rattle.std.specs.Ordering.{nat_cmp}
use Rattle.std.specs.BTreeMap.{get}
use Rattle.t1_num.specs.Memory.{byte_of}
use Rattle.t1_check.specs.declared.latest.Latest.{Latest}
use Rattle.t1_check.specs.Latest.{at}

-- a byte past the size is 0
pub byte_past : (value size k : ℕ) → size ≤ k → byte_of value size k ≡ 0
unfolding byte_of
byte_past value zero k h = refl
byte_past value (suc n) k h = rw (ne_eqb k n (omega (arith, h))) (byte_past (value / 256) n k (omega (arith, h)))

shift_more : (value n k : ℕ) → k < n → value / 256 / 2 ^ (8 * (n - 1 - k)) ≡ value / 2 ^ (8 * (suc n - 1 - k))
shift_more value n k h =
    let both : 256 * 2 ^ (8 * (n - 1 - k)) ≡ 2 ^ (8 + 8 * (n - 1 - k)) = sym (pow-add 2 8 (8 * (n - 1 - k))) in
    let e : 8 + 8 * (n - 1 - k) ≡ 8 * (suc n - 1 - k) = omega (arith, h) in
    div-div-eq-div-mul value 256 (2 ^ (8 * (n - 1 - k))) ∙ ap (λ (d : ℕ). value / d) (both ∙ ap (λ (m : ℕ). 2 ^ m) e)

-- and a byte within it stands so many bytes from the right
pub byte_shifted : (value size k : ℕ) → k < size → byte_of value size k ≡ value / 2 ^ (8 * (size - 1 - k)) % 256
unfolding byte_of
byte_shifted value zero k h = absurd (omega (arith, h))
byte_shifted value (suc n) k h =
    elim (cases_eq k n) [
      | inl e ↦
          let z : 8 * (suc n - 1 - k) ≡ 0 = omega (arith, e) in
          rw (eq-eqb k n e, z) (let o : value % 256 ≡ value / 1 % 256 = omega arith in o)
      | inr e ↦ rw (ne_eqb k n e) (byte_shifted (value / 256) n k (omega (arith, h, e)) ∙ ap (λ (q : ℕ). q % 256) (shift_more value n k (omega (arith, h, e))))
    ]

-- the byte of a number of 64 bits that lies above them
pub byte_high : (value size k : ℕ) → value < 2 ^ 64 → k < size → 8 ≤ size - 1 - k → byte_of value size k ≡ 0
byte_high value size k v h p =
    let more : 2 ^ 64 ≤ 2 ^ (8 * (size - 1 - k)) = pow_mono {i = 64} {j = 8 * (size - 1 - k)} (omega (arith, p)) in
    let z : value / 2 ^ (8 * (size - 1 - k)) ≡ 0 = div-eq_of_lt {n = value} {m = 2 ^ (8 * (size - 1 - k))} (omega (arith, v, more)) in
    byte_shifted value size k h ∙ ap (λ (q : ℕ). q % 256) z

-- the position of a byte of a word
pub word_byte : (latest : Latest) (number byte : ℕ) → byte < 8 → get_or (unwrap_or (get nat_cmp latest.words number) (replicate 8 0)) byte 0 ≡ at latest (8 * number + byte)
word_byte latest number byte l =
    let q : number ≡ (8 * number + byte) / 8 = omega (arith, l) in
    let r : byte ≡ (8 * number + byte) % 8 = omega (arith, l) in
    ap (λ (n : ℕ). get_or (unwrap_or (get nat_cmp latest.words n) (replicate 8 0)) byte 0) q
    ∙ ap (λ (b : ℕ). get_or (unwrap_or (get nat_cmp latest.words ((8 * number + byte) / 8)) (replicate 8 0)) b 0) r

-- the last cells of a list to which some were appended, and the ones before
pub cells_kept : (xs ys : List ℕ) (i : ℕ) → i < length xs → get_or (xs ++ ys) i 0 ≡ get_or xs i 0
cells_kept [] ys i h = absurd (omega (arith, h))
cells_kept (x ∷ xs) ys zero h = refl
cells_kept (x ∷ xs) ys (suc i) h = cells_kept xs ys i (omega (arith, h))

pub cells_new : (xs ys : List ℕ) (i j : ℕ) → i ≡ length xs + j → get_or (xs ++ ys) i 0 ≡ get_or ys j 0
cells_new [] ys i j e = let same : i ≡ j = omega (arith, e) in ap (λ (n : ℕ). get_or ys n 0) same
cells_new (x ∷ xs) ys zero j e = absurd (omega (arith, e))
cells_new (x ∷ xs) ys (suc i) j e = cells_new xs ys i j (omega (arith, e))
