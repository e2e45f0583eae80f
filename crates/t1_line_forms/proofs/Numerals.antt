-- Numbers that are printed are numbers by their digits.
use Rattle.std.proofs.Common.{◌≡◌, ℕ, zero, suc, ◌+◌, ◌*◌, ◌/◌, ◌%◌, ◌^◌, ◌<◌, ◌≤◌, inl, inr, true, List, [], ◌∷◌, length, refl, sym, ap, subst, ◌∙◌, length-append, rules, arith}
use Rattle.std.specs.Char.{is_ascii_digit}
use Rattle.std.specs.Fmt.{decimal}
use Rattle.std.specs.List.{list_all}
use Rattle.std.specs.Str.{all_ascii_digits}
use Rattle.std.proofs.lemmas.Bool.{and_from, or_left, or_right, cases_lt, lt-ltb, le-ltb, le-leb}
use Rattle.std.proofs.lemmas.Fmt.{digits_decimal, digits_value-decimal, decimal_nonempty, first_decimal, decimal_digit}
use Rattle.std.proofs.lemmas.List.Folds.{list_all-append}
use Rattle.std.proofs.lemmas.Str.Parse.{IsNumeralModel, numerals_by_fold}
use Rattle.t1_log.specs.Hex.{digit_of, hex_of, hex_of_bytes}
use Rattle.t1_line_forms.specs.Digits.{IsDecimal, number_on, number_of, is_hex_digit, IsHex}
use Rattle.t1_line_forms.specs.Words.{IsWord}

-- ---- decimal digits

own : IsNumeralModel (λ ds. all_ascii_digits ds ≡ true) (number_on 0)
own = numerals_by_fold _ (search (rules)) number_on (search (rules))

pub decimal_is : (n : ℕ) → IsWord n → IsDecimal (decimal n)
decimal_is n wide = record {
  are_digits = digits_decimal own n wide;
  some = decimal_nonempty n wide;
  lead = λ z. (
      elim (cases_lt 0 n) [
        | inl big ↦ (let first = first_decimal n big wide in absurd (omega (arith, first, z)))
        | inr none ↦ (
            let zero_is : n ≡ 0 = omega (arith, none) in
            ap (λ (k : ℕ). length (decimal k)) zero_is ∙ ap (λ (ds : List ℕ). length ds) (decimal_digit 0 (omega arith))
            )
      ]
      );
}

-- ---- hexadecimal digits

hex_digit : (d : ℕ) → d < 16 → is_hex_digit (digit_of d) ≡ true
hex_digit d small = elim (cases_lt d 10) [
  | inl low ↦ (
      let is : digit_of d ≡ 48 + d = rw (lt-ltb d 10 low) refl in
      rw is (or_left _ _ (and_from _ _ (le-leb 48 (48 + d) (omega arith)) (le-leb (48 + d) 57 (omega (arith, low)))))
      )
  | inr high ↦ (
      let is : digit_of d ≡ 87 + d = rw (le-ltb d 10 high) refl in
      rw is (or_right (is_ascii_digit (87 + d)) _ (and_from _ _ (le-leb 97 (87 + d) (omega (arith, high))) (le-leb (87 + d) 102 (omega (arith, small)))))
      )
]

hex_digits : (k n : ℕ) → list_all is_hex_digit (hex_of k n) ≡ true
unfolding hex_of
hex_digits zero n = refl
hex_digits (suc k) n = and_from _ _ (hex_digit (n / 2 ^ (4 * k) % 16) (omega arith)) (hex_digits k n)

hex_length : (k n : ℕ) → length (hex_of k n) ≡ k
unfolding hex_of
hex_length zero n = refl
hex_length (suc k) n = ap (λ (m : ℕ). suc m) (hex_length k n)

pub hex_is : (k n : ℕ) → 0 < k → IsHex k (hex_of k n)
hex_is k n some = record { are_digits = hex_digits k n; many = hex_length k n; some = some }

bytes_digits : (bytes : List ℕ) → list_all is_hex_digit (hex_of_bytes bytes) ≡ true
unfolding hex_of_bytes
bytes_digits [] = refl
bytes_digits (b ∷ bs) = list_all-append is_hex_digit (hex_of 2 b) (hex_of_bytes bs) ∙ and_from _ _ (hex_digits 2 b) (bytes_digits bs)

bytes_length : (bytes : List ℕ) → length (hex_of_bytes bytes) ≡ 2 * length bytes
unfolding hex_of_bytes
bytes_length [] = refl
bytes_length (b ∷ bs) =
    let both = length-append (hex_of 2 b) (hex_of_bytes bs) in
    let one = hex_length 2 b in
    let others = bytes_length bs in
    omega (arith, both, one, others)

pub bytes_are : (bytes : List ℕ) (count : ℕ) → length bytes ≡ count → 0 < count → IsHex (2 * count) (hex_of_bytes bytes)
bytes_are bytes count n some = record { are_digits = bytes_digits bytes; many = bytes_length bytes ∙ ap (λ (k : ℕ). 2 * k) n; some = omega (arith, some) }

-- a value, in a line that shows its size
pub value_is : (size value : ℕ) → 1 ≤ size → IsWord size → IsHex (2 * number_of (decimal size)) (hex_of (2 * size) value)
value_is size value some wide =
    subst (λ (n : ℕ). IsHex (2 * n) (hex_of (2 * size) value)) (sym (digits_value-decimal own size wide)) (hex_is (2 * size) value (omega (arith, some)))
