-- Numbers by their digits, however many there are.
use Rattle.std.specs.Prelude.{ℕ, ◌≡◌, ◌+◌, ◌*◌, ◌-◌, ◌<◌, ◌&&◌, ◌||◌, Bool, false, IsTrue, nat_le, List, [], ◌∷◌, length, get_or}
use Rattle.std.specs.Char.{is_ascii_digit}
use Rattle.std.specs.Str.{all_ascii_digits}
use Rattle.std.specs.List.{list_all}

-- a decimal number: at least one digit, and no leading zero unless it is alone
pub record IsDecimal (digits : List ℕ) : Type 0 where
  pub are_digits : IsTrue (all_ascii_digits digits)
  pub some : 0 < length digits
  pub lead : get_or digits 0 0 ≡ 48 → length digits ≡ 1

-- no decimal digit stands next
abbrev pub EndsDecimal : List ℕ → Type 0
EndsDecimal [] = Unit {0}
EndsDecimal (byte ∷ bytes) = is_ascii_digit byte ≡ false

-- the number that some decimal digits show
abbrev pub number_on : ℕ → List ℕ → ℕ
number_on number [] = number
number_on number (digit ∷ digits) = number_on (10 * number + (digit - 48)) digits

abbrev pub number_of : List ℕ → ℕ
number_of digits = number_on 0 digits

-- 0 to 9, and a to f in small letters
abbrev pub is_hex_digit : ℕ → Bool
is_hex_digit byte = is_ascii_digit byte || (nat_le 97 byte && nat_le byte 102)

-- so many hexadecimal digits, and at least one
pub record IsHex (count : ℕ) (digits : List ℕ) : Type 0 where
  pub are_digits : IsTrue (list_all is_hex_digit digits)
  pub many : length digits ≡ count
  pub some : 0 < count
