-- What stands at the front of a text: a token, a blank or a comment, as long as it can be.
use Rattle.std.specs.Prelude.{ℕ, ◌+◌, ◌*◌, ◌^◌, ◌==◌, ◌&&◌, nat_lt, if◌then◌else◌, Bool, true, false, List, [], ◌∷◌, take, Option, Some, None}
use Rattle.t1_lex.specs.Bytes.{is_digit, starts_name, is_name_byte, is_word_byte, is_blank, is_mark, is_escape, is_in_line, digit_value}
use Rattle.t1_lex.specs.declared.token.TokenKind.{TokenKind}
use Rattle.t1_lex.specs.declared.token.TokenKind.TheVariants.{Name, Number, Text, Percent, Hash, Punct, LineEnd}

-- how many bytes at the front pass a test
unfoldable pub run_of : (ℕ → Bool) → List ℕ → ℕ
run_of test [] = 0
run_of test (b ∷ bs) = if test b then run_of test bs + 1 else 0

-- the value of digits after a value, below 2 ^ 64
unfoldable pub value_from : ℕ → ℕ → List ℕ → Option ℕ
value_from base n [] = Some n
value_from base n (d ∷ ds) =
    if nat_lt (digit_value d) base && nat_lt (n * base + digit_value d) (2 ^ 64)
    then value_from base (n * base + digit_value d) ds
    else None

-- what stands after a first 0: nothing, or x and hexadecimal digits
unfoldable pub after_zero : List ℕ → Option ℕ
after_zero [] = Some 0
after_zero (x ∷ []) = None
after_zero (x ∷ d ∷ ds) = if x == 120 then value_from 16 0 (d ∷ ds) else None

unfoldable pub number_of : List ℕ → Option ℕ
number_of [] = None
number_of (d ∷ ds) = if d == 48 then after_zero ds else value_from 10 0 (d ∷ ds)

-- how many bytes a text goes on to its closing quote, after so many
unfoldable pub text_from : ℕ → Bool → List ℕ → Option ℕ
text_from n escaped [] = None
text_from n true (b ∷ bs) = if is_escape b then text_from (n + 1) false bs else None
text_from n false (b ∷ bs) =
    if b == 34 then Some (n + 1) else
    if b == 10 then None else
    text_from (n + 1) (b == 92) bs

-- a piece has a number of bytes, and a kind where it is a token
abbrev pub Piece : Type 0
Piece = ℕ × Option TokenKind

unfoldable pub numbered : ℕ → Option ℕ → Option Piece
numbered size None = None
numbered size (Some n) = Some (size, Some (Number n))

-- the longest word of letters and digits, where it is a number
unfoldable pub number_piece : List ℕ → Option Piece
number_piece bs = numbered (run_of is_word_byte bs) (number_of (take (run_of is_word_byte bs) bs))

-- after a % or #, a name
unfoldable pub named_piece : TokenKind → List ℕ → Option Piece
named_piece kind [] = None
named_piece kind (b ∷ bs) = if starts_name b then Some (run_of is_name_byte bs + 2, Some kind) else None

-- after a quote
unfoldable pub text_piece : List ℕ → Option Piece
text_piece bs = elim (text_from 1 false bs) [
  | None ↦ None
  | Some n ↦ Some (n, Some Text)
]

unfoldable pub piece_of : List ℕ → Option Piece
piece_of [] = None
piece_of (b ∷ bs) =
    if is_digit b then number_piece (b ∷ bs) else
    if starts_name b then Some (run_of is_name_byte bs + 1, Some Name) else
    if is_blank b then Some (1, None) else
    if b == 33 then Some (run_of is_in_line bs + 1, None) else
    if b == 10 then Some (1, Some LineEnd) else
    if b == 34 then text_piece bs else
    if b == 37 then named_piece Percent bs else
    if b == 35 then named_piece Hash bs else
    if is_mark b then Some (1, Some (Punct b)) else
    None
