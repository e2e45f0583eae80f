-- Decimal digits in a text.
use Rattle.std.specs.Prelude.{ℕ, ◌≡◌, ◌+◌, ◌*◌, ◌-◌, ◌^◌, min, true, List, [], ◌∷◌, take, drop}
use Rattle.std.specs.Str.{all_ascii_digits}

-- the number of some digits, after others
abbrev pub read_on : ℕ → List ℕ → ℕ
read_on n [] = n
read_on n (d ∷ ds) = read_on (10 * n + (d - 48)) ds

-- the digits from a place on, up to another, and their number, or the greatest of 64 bits
pub record AreDigits (text : List ℕ) (start end value : ℕ) : Type 0 where
  pub digits : all_ascii_digits (take (end - start) (drop start text)) ≡ true
  pub value_is : value ≡ min (read_on 0 (take (end - start) (drop start text))) (2 ^ 64 - 1)
