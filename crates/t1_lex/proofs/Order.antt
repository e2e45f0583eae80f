-- Tokens stand one after another.
use Rattle.std.proofs.Common.{◌≡◌, ◌≤◌, ◌<◌, ℕ, zero, suc, ◌+◌, List, [], ◌∷◌, ◌++◌, length, arith, length-append, ap, subst, Option, Some, None, Result, Ok, Err}
use Rattle.t1_lex.specs.Pieces.{Piece, piece_of}
use Rattle.t1_lex.specs.Tokens.{Cut, cut_from, cut_after, cut_of, tokens_of, placed, with_token, line_after, AreInOrder}
use Rattle.t1_lex.specs.Tokens.Cut.{Whole, Bad, Then}
use Rattle.t1_lex.specs.declared.token.TokenKind.{TokenKind}
use Rattle.t1_lex.specs.declared.token.Token.{Token}
use Rattle.t1_lex.proofs.Spans.{flat, fronts}

-- each piece has a byte
abbrev IsSolid : Cut → Type 0
IsSolid Whole = Unit {0}
IsSolid Bad = Unit {0}
IsSolid (Then kind bytes rest) = (0 < length bytes) × IsSolid rest

solid_of : (b : ℕ) (bs : List ℕ) (p : Option Piece) → ((n : ℕ) → IsSolid (cut_from n bs)) → IsSolid (cut_after (b ∷ bs) p (λ k. cut_from k bs))
unfolding cut_after
solid_of b bs None h = tt
solid_of b bs (Some (zero, kind)) h = tt
solid_of b bs (Some (suc n, kind)) h = (omega arith, h n)

solid : (k : ℕ) (bs : List ℕ) → IsSolid (cut_from k bs)
unfolding cut_from
solid k [] = tt
solid (suc k) (b ∷ bs) = solid k bs
solid zero (b ∷ bs) = solid_of b bs (piece_of (b ∷ bs)) (λ n. solid n bs)

abbrev IsOrdered : ℕ → ℕ → Result (List Token) (ℕ × ℕ) → Type 0
IsOrdered from end (Ok ts) = AreInOrder from end ts
IsOrdered from end (Err e) = Unit {0}

from_earlier : (at later end : ℕ) (ts : List Token) → at ≤ later → AreInOrder later end ts → AreInOrder at end ts
from_earlier at later end [] h o = omega (arith, h, o)
from_earlier at later end (t ∷ ts) h o = (omega (arith, h, o.0), o.1, o.2)

ordered_then : (at end next line : ℕ) (k : Option TokenKind) (r : Result (List Token) (ℕ × ℕ)) → at < next → IsOrdered next end r → IsOrdered at end (with_token k at next line r)
unfolding with_token
ordered_then at end next line None (Ok ts) h o = from_earlier at next end ts (omega arith) o
ordered_then at end next line None (Err e) h o = tt
ordered_then at end next line (Some k) (Ok ts) h o = (omega arith, h, o)
ordered_then at end next line (Some k) (Err e) h o = tt

ordered : (c : Cut) (at line end : ℕ) → IsSolid c → at + length (flat c) ≤ end → IsOrdered at end (placed at line c)
unfolding placed flat
ordered Whole at line end s h = omega arith
ordered Bad at line end s h = tt
ordered (Then kind bytes rest) at line end s h =
    ordered_then at end (at + length bytes) line kind _ (omega (arith, s.0)) (ordered rest (at + length bytes) (line_after kind line) end s.1 (omega (arith, length-append bytes (flat rest))))

pub tokens_in_order : (text : List ℕ) (ts : List Token) → tokens_of text ≡ Ok ts → AreInOrder 0 (length text) ts
tokens_in_order text ts e =
    let f = fronts 0 text in
    let n : length text ≡ length (flat (cut_of text) ++ f.0) = ap length f.1 in
    subst (IsOrdered 0 (length text)) e (ordered (cut_of text) 0 1 (length text) (solid 0 text) (omega (arith, n, length-append (flat (cut_of text)) f.0)))
