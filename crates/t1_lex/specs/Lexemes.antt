-- Tokens with their bytes.
use Rattle.std.specs.Prelude.{◌≡◌, Option, Some, None, Result, Ok, Err}
use Rattle.t1_lex.specs.declared.token.LexError.{LexError}
use Rattle.t1_lex.specs.declared.token.LexError.TheVariants.{BadByte, OutOfMemory}
use Rattle.std.specs.Prelude.{ℕ, ◌-◌, List, [], ◌∷◌, take, drop}
use Rattle.t1_lex.specs.Tokens.{Lexeme}
use Rattle.t1_lex.specs.declared.token.Token.{Token}

abbrev pub bytes_at : List ℕ → Token → List ℕ
bytes_at text t = take (t.end - t.start) (drop t.start text)

-- the kinds and bytes of tokens of a text
unfoldable pub lexemes : List ℕ → List Token → List Lexeme
lexemes text [] = []
lexemes text (t ∷ ts) = (t.kind, bytes_at text t) ∷ lexemes text ts

-- what is read is these kinds and bytes, and where a bad byte is, there are none
abbrev pub GivesLexemes : {V : Type 0} → (V → List Token) → List ℕ → Result V LexError → Option (List Lexeme) → Type 0
GivesLexemes view text (Ok ts) words = words ≡ Some (lexemes text (view ts))
GivesLexemes view text (Err (BadByte at line)) words = words ≡ None
GivesLexemes view text (Err OutOfMemory) words = Unit {0}
