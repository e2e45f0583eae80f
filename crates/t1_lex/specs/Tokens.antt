-- The tokens of a text.
use Rattle.std.specs.Prelude.{ℕ, zero, suc, ◌≡◌, ◌≤◌, ◌<◌, ◌+◌, List, [], ◌∷◌, ◌++◌, take, length, Option, Some, None, Result, Ok, Err}
use Rattle.t1_lex.specs.Pieces.{Piece, piece_of}
use Rattle.t1_lex.specs.declared.token.TokenKind.{TokenKind}
use Rattle.t1_lex.specs.declared.token.TokenKind.TheVariants.{LineEnd}
use Rattle.t1_lex.specs.declared.token.Token.{Token}
use Rattle.t1_lex.specs.declared.token.LexError.{LexError}
use Rattle.t1_lex.specs.declared.token.LexError.TheVariants.{BadByte, OutOfMemory}

-- a text cut into pieces from its front on
pub data Cut : Type 0 where
  Whole : Cut
  Bad : Cut
  Then : Option TokenKind → List ℕ → Cut → Cut

-- the first piece, and the others
unfoldable pub cut_after : List ℕ → Option Piece → (ℕ → Cut) → Cut
cut_after bs None go = Bad
cut_after bs (Some (zero, kind)) go = Bad
cut_after bs (Some (suc n, kind)) go = Then kind (take (suc n) bs) (go n)

-- so many bytes belong to a piece that was cut off
unfoldable pub cut_from : ℕ → List ℕ → Cut
cut_from skip [] = Whole
cut_from (suc k) (b ∷ bs) = cut_from k bs
cut_from zero (b ∷ bs) = cut_after (b ∷ bs) (piece_of (b ∷ bs)) (λ k. cut_from k bs)

abbrev pub cut_of : List ℕ → Cut
cut_of bs = cut_from 0 bs

unfoldable pub line_after : Option TokenKind → ℕ → ℕ
line_after (Some LineEnd) line = line + 1
line_after _ line = line

unfoldable pub with_token : Option TokenKind → ℕ → ℕ → ℕ → Result (List Token) (ℕ × ℕ) → Result (List Token) (ℕ × ℕ)
with_token None start end line r = r
with_token (Some kind) start end line (Ok ts) = Ok (record { start = start; end = end; line = line; kind = kind } ∷ ts)
with_token (Some kind) start end line (Err e) = Err e

-- the tokens of a cut text, from a place and a line on; or the place and line of its bad byte
unfoldable pub placed : ℕ → ℕ → Cut → Result (List Token) (ℕ × ℕ)
placed at line Whole = Ok []
placed at line Bad = Err (at, line)
placed at line (Then kind bytes rest) = with_token kind at (at + length bytes) line (placed (at + length bytes) (line_after kind line) rest)

abbrev pub tokens_of : List ℕ → Result (List Token) (ℕ × ℕ)
tokens_of bs = placed 0 1 (cut_of bs)

-- tokens of one byte or more, one after another between two places
abbrev pub AreInOrder : ℕ → ℕ → List Token → Type 0
AreInOrder from end [] = from ≤ end
AreInOrder from end (t ∷ ts) = (from ≤ t.start) × (t.start < t.end) × AreInOrder t.end end ts

-- an answer is this reading, where there was memory
abbrev pub GivesTokens : {V : Type 0} → (V → List Token) → Result V LexError → Result (List Token) (ℕ × ℕ) → Type 0
GivesTokens view (Ok ts) read = read ≡ Ok (view ts)
GivesTokens view (Err (BadByte at line)) read = read ≡ Err (at, line)
GivesTokens view (Err OutOfMemory) read = Unit {0}

-- tokens before a reading
unfoldable pub after : List Token → Result (List Token) (ℕ × ℕ) → Result (List Token) (ℕ × ℕ)
after ts (Ok us) = Ok (ts ++ us)
after ts (Err e) = Err e

-- a token by its kind and its bytes
abbrev pub Lexeme : Type 0
Lexeme = TokenKind × List ℕ

unfoldable pub with_lexeme : Lexeme → Option (List Lexeme) → Option (List Lexeme)
with_lexeme w None = None
with_lexeme w (Some ws) = Some (w ∷ ws)

-- the tokens of a cut text, where it has no bad byte
unfoldable pub lexemes_in : Cut → Option (List Lexeme)
lexemes_in Whole = Some []
lexemes_in Bad = None
lexemes_in (Then None bytes rest) = lexemes_in rest
lexemes_in (Then (Some kind) bytes rest) = with_lexeme (kind, bytes) (lexemes_in rest)
