-- Texts that are written part by part.
use Rattle.std.specs.Prelude.{ℕ, ◌≡◌, ◌<◌, ◌&&◌, not, Bool, true, false, List, [], ◌∷◌, ◌++◌, length, Some}
use Rattle.t1_lex.specs.Bytes.{is_digit, starts_name, is_name_byte}
use Rattle.t1_lex.specs.Pieces.{piece_of}
use Rattle.t1_lex.specs.Tokens.{Lexeme, cut_of, lexemes_in}
use Rattle.t1_lex.specs.declared.token.TokenKind.{TokenKind}
use Rattle.t1_lex.specs.declared.token.TokenKind.TheVariants.{Punct}

-- a space, a mark, or a token of another kind with its bytes
pub data Part : Type 0 where
  Space : Part
  Mark : ℕ → Part
  Long : TokenKind → List ℕ → Part

abbrev pub bytes_of : List Part → List ℕ
bytes_of [] = []
bytes_of (Space ∷ ps) = 32 ∷ bytes_of ps
bytes_of (Mark b ∷ ps) = b ∷ bytes_of ps
bytes_of (Long kind bs ∷ ps) = bs ++ bytes_of ps

-- the tokens that parts name
abbrev pub lexemes_of : List Part → List Lexeme
lexemes_of [] = []
lexemes_of (Space ∷ ps) = lexemes_of ps
lexemes_of (Mark b ∷ ps) = (Punct b, b ∷ []) ∷ lexemes_of ps
lexemes_of (Long kind bs ∷ ps) = (kind, bs) ∷ lexemes_of ps

-- no byte that passes the test stands first
unfoldable pub stops : (ℕ → Bool) → List ℕ → Bool
stops test [] = true
stops test (b ∷ bs) = not (test b)

unfoldable pub all_bytes : (ℕ → Bool) → List ℕ → Bool
all_bytes test [] = true
all_bytes test (b ∷ bs) = test b && all_bytes test bs

unfoldable pub is_name : List ℕ → Bool
is_name [] = false
is_name (b ∷ bs) = not (is_digit b) && (starts_name b && all_bytes is_name_byte bs)

abbrev pub IsMark : ℕ → Type 0
IsMark b = (rest : List ℕ) → piece_of (b ∷ rest) ≡ Some (1, Some (Punct b))

-- these bytes are a token of this kind wherever no name goes on behind them
pub record IsLong (kind : TokenKind) (bs : List ℕ) : Type 0 where
  pub some : 0 < length bs
  pub piece : (rest : List ℕ) → stops is_name_byte rest ≡ true → piece_of (bs ++ rest) ≡ Some (length bs, Some kind)

-- each part is a token, and ends before the next
abbrev pub AreParts : List Part → Type 0
AreParts [] = Unit {0}
AreParts (Space ∷ ps) = AreParts ps
AreParts (Mark b ∷ ps) = IsMark b × AreParts ps
AreParts (Long kind bs ∷ ps) = IsLong kind bs × (stops is_name_byte (bytes_of ps) ≡ true) × AreParts ps

-- a text that is written in parts has the tokens of its parts
abbrev pub PartsAreLexemes : Type 0
PartsAreLexemes = (ps : List Part) → AreParts ps → lexemes_in (cut_of (bytes_of ps)) ≡ Some (lexemes_of ps)
