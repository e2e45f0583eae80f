-- Spans name the bytes of their tokens.
use Rattle.std.proofs.Common.{◌≡◌, ℕ, zero, suc, ◌+◌, ◌-◌, List, [], ◌∷◌, ◌++◌, length, take, drop, refl, ap, sym, ◌∙◌, arith, append_assoc, length-append, subst, Option, Some, None, Result, Ok, Err}
use Rattle.std.proofs.lemmas.List.{take-append-drop}
use Rattle.t1_lex.specs.Pieces.{Piece, piece_of}
use Rattle.t1_lex.specs.Tokens.{Cut, Lexeme, cut_from, cut_after, cut_of, tokens_of, placed, with_token, with_lexeme, line_after, lexemes_in}
use Rattle.t1_lex.specs.Tokens.Cut.{Whole, Bad, Then}
use Rattle.t1_lex.specs.Lexemes.{lexemes}
use Rattle.t1_lex.specs.declared.token.TokenKind.{TokenKind}
use Rattle.t1_lex.specs.declared.token.Token.{Token}
use Rattle.t1_lex.proofs.Parts.{taken, dropped}

unfoldable pub flat : Cut → List ℕ
flat Whole = []
flat Bad = []
flat (Then kind bytes rest) = bytes ++ flat rest

-- what a piece and what follows it take of the bytes
abbrev pub IsFront : List ℕ → Cut → Type 0
IsFront bs c = (tail : List ℕ) × (bs ≡ flat c ++ tail)

-- a reading of tokens, as kinds and bytes
abbrev Agrees : List ℕ → Result (List Token) (ℕ × ℕ) → Option (List Lexeme) → Type 0
Agrees text (Ok ts) words = words ≡ Some (lexemes text ts)
Agrees text (Err e) words = words ≡ None

agrees_more : (text front bytes rest : List ℕ) (kind : TokenKind) (line : ℕ) (r : Result (List Token) (ℕ × ℕ)) (words : Option (List Lexeme))
    → text ≡ front ++ (bytes ++ rest) → Agrees text r words
    → Agrees text (with_token (Some kind) (length front) (length front + length bytes) line r) (with_lexeme (kind, bytes) words)
unfolding with_token with_lexeme lexemes
agrees_more text front bytes rest kind line (Ok ts) words e h =
    let d : drop (length front) text ≡ bytes ++ rest = ap (drop (length front)) e ∙ dropped front (bytes ++ rest) in
    let n : length front + length bytes - length front ≡ length bytes = omega arith in
    let b : take (length front + length bytes - length front) (drop (length front) text) ≡ bytes =
    ap (λ m. take m (drop (length front) text)) n ∙ ap (take (length bytes)) d ∙ taken bytes rest in
    ap (with_lexeme (kind, bytes)) h ∙ ap (λ w. Some ((kind, w) ∷ lexemes text ts)) (sym b)
agrees_more text front bytes rest kind line (Err x) words e h = ap (with_lexeme (kind, bytes)) h

agrees_then : (text front bytes rest tail : List ℕ) (k : Option TokenKind) (line : ℕ) (r : Result (List Token) (ℕ × ℕ)) (c : Cut)
    → text ≡ front ++ (bytes ++ rest) → Agrees text r (lexemes_in c)
    → Agrees text (with_token k (length front) (length front + length bytes) line r) (lexemes_in (Then k bytes c))
unfolding lexemes_in with_token
agrees_then text front bytes rest tail None line r c e h = h
agrees_then text front bytes rest tail (Some k) line r c e h = agrees_more text front bytes rest k line r (lexemes_in c) e h

agrees : (c : Cut) (text front tail : List ℕ) (line : ℕ) → text ≡ front ++ (flat c ++ tail) → Agrees text (placed (length front) line c) (lexemes_in c)
unfolding placed lexemes_in flat lexemes with_token
agrees Whole text front tail line e = refl
agrees Bad text front tail line e = refl
agrees (Then kind bytes rest) text front tail line e =
    let f : text ≡ (front ++ bytes) ++ (flat rest ++ tail) =
    e ∙ ap (λ l. front ++ l) (append_assoc bytes (flat rest) tail) ∙ sym (append_assoc front bytes (flat rest ++ tail)) in
    let h = agrees rest text (front ++ bytes) tail (line_after kind line) f in
    agrees_then text front bytes (flat rest ++ tail) tail kind line _ rest (e ∙ ap (λ l. front ++ l) (append_assoc bytes (flat rest) tail)) (rw (length-append front bytes) at h)

drop_none : (n : ℕ) → drop {A = ℕ} n [] ≡ []
drop_none zero = refl
drop_none (suc n) = refl

front_of : (b : ℕ) (bs : List ℕ) (p : Option Piece) → ((n : ℕ) → IsFront (drop n bs) (cut_from n bs)) → IsFront (b ∷ bs) (cut_after (b ∷ bs) p (λ k. cut_from k bs))
unfolding cut_after flat
front_of b bs None h = (b ∷ bs, refl)
front_of b bs (Some (zero, kind)) h = (b ∷ bs, refl)
front_of b bs (Some (suc n, kind)) h =
    ((h n).0, ap (λ l. b ∷ l) (sym (take-append-drop n bs) ∙ ap (λ l. take n bs ++ l) (h n).1 ∙ sym (append_assoc (take n bs) (flat (cut_from n bs)) (h n).0)))

pub fronts : (k : ℕ) (bs : List ℕ) → IsFront (drop k bs) (cut_from k bs)
unfolding cut_from cut_after flat
fronts k [] = ([], drop_none k)
fronts (suc k) (b ∷ bs) = fronts k bs
fronts zero (b ∷ bs) = front_of b bs (piece_of (b ∷ bs)) (λ n. fronts n bs)

lexemes_of_text : (text : List ℕ) → Agrees text (tokens_of text) (lexemes_in (cut_of text))
lexemes_of_text text = let f = fronts 0 text in agrees (cut_of text) text [] f.0 1 f.1

pub same_lexemes : (text : List ℕ) (ts : List Token) → tokens_of text ≡ Ok ts → lexemes_in (cut_of text) ≡ Some (lexemes text ts)
same_lexemes text ts e = subst (λ r. Agrees text r (lexemes_in (cut_of text))) e (lexemes_of_text text)

pub no_lexemes : (text : List ℕ) (x : ℕ × ℕ) → tokens_of text ≡ Err x → lexemes_in (cut_of text) ≡ None
no_lexemes text x e = subst (λ r. Agrees text r (lexemes_in (cut_of text))) e (lexemes_of_text text)
