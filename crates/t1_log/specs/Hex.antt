-- Numbers in hexadecimal digits, in small letters.
use Rattle.std.specs.Prelude.{ℕ, zero, suc, ◌+◌, ◌*◌, ◌/◌, ◌%◌, ◌^◌, nat_lt, if◌then◌else◌, List, [], ◌∷◌, ◌++◌}

-- 0 to 9, and then a to f
abbrev pub digit_of : ℕ → ℕ
digit_of d = if nat_lt d 10 then 48 + d else 87 + d

-- so many low digits of a number, the highest first
unfoldable pub hex_of : ℕ → ℕ → List ℕ
hex_of zero n = []
hex_of (suc k) n = digit_of (n / 2 ^ (4 * k) % 16) ∷ hex_of k n

-- the bytes one after another, each in two digits
unfoldable pub hex_of_bytes : List ℕ → List ℕ
hex_of_bytes [] = []
hex_of_bytes (byte ∷ bytes) = hex_of 2 byte ++ hex_of_bytes bytes
