-- How a text is cut.
use Rattle.std.proofs.Common.{◌≡◌, ◌≤◌, ◌<◌, ℕ, zero, suc, ◌+◌, List, [], ◌∷◌, length, take, drop, refl, ap, sym, ◌∙◌, arith, append-nil, Option, Some, None, Result, Ok, Err}
use Rattle.std.proofs.lemmas.List.{length-take, drop-drop}
use Rattle.t1_lex.specs.Pieces.{piece_of}
use Rattle.t1_lex.specs.Tokens.{cut_from, cut_after, placed, with_token, line_after, after}
use Rattle.t1_lex.specs.Tokens.Cut.{Bad, Then}
use Rattle.t1_lex.specs.declared.token.TokenKind.{TokenKind}
use Rattle.t1_lex.specs.declared.token.Token.{Token}

-- bytes that belong to a piece are passed over
pub cut_from-drop : (k : ℕ) (bs : List ℕ) → cut_from k bs ≡ cut_from 0 (drop k bs)
unfolding cut_from
cut_from-drop zero bs = refl
cut_from-drop (suc k) [] = refl
cut_from-drop (suc k) (b ∷ bs) = cut_from-drop k bs

pub cut_piece : (bs : List ℕ) (size : ℕ) (kind : Option TokenKind) → piece_of bs ≡ Some (size, kind) → 0 < size → 0 < length bs
    → cut_from 0 bs ≡ Then kind (take size bs) (cut_from 0 (drop size bs))
unfolding cut_from cut_after
cut_piece [] size kind e some h = absurd (omega arith)
cut_piece (b ∷ bs) zero kind e some h = absurd (omega arith)
cut_piece (b ∷ bs) (suc n) kind e some h =
    ap (λ p. cut_after (b ∷ bs) p (λ k. cut_from k bs)) e
    ∙ ap (Then kind (take (suc n) (b ∷ bs))) (cut_from-drop n bs)

pub placed_piece : (at line : ℕ) (bs : List ℕ) (size : ℕ) (kind : Option TokenKind) → piece_of bs ≡ Some (size, kind) → 0 < size → size ≤ length bs
    → placed at line (cut_from 0 bs) ≡ with_token kind at (at + size) line (placed (at + size) (line_after kind line) (cut_from 0 (drop size bs)))
unfolding placed
placed_piece at line bs size kind e some h =
    let n : length (take size bs) ≡ size = simp length-take (omega arith) in
    ap (placed at line) (cut_piece bs size kind e some (omega arith))
    ∙ ap (λ m. with_token kind at (at + m) line (placed (at + m) (line_after kind line) (cut_from 0 (drop size bs)))) n

pub cut_bad : (bs : List ℕ) → piece_of bs ≡ None → 0 < length bs → cut_from 0 bs ≡ Bad
unfolding cut_from cut_after
cut_bad [] e h = absurd (omega arith)
cut_bad (b ∷ bs) e h = ap (λ p. cut_after (b ∷ bs) p (λ k. cut_from k bs)) e

pub placed_bad : (at line : ℕ) (bs : List ℕ) → piece_of bs ≡ None → 0 < length bs → placed at line (cut_from 0 bs) ≡ Err (at, line)
unfolding placed
placed_bad at line bs e h = ap (placed at line) (cut_bad bs e h)

pub after_none : (r : Result (List Token) (ℕ × ℕ)) → after [] r ≡ r
unfolding after
after_none (Ok ts) = refl
after_none (Err e) = refl

dropped : (at size : ℕ) (text : List ℕ) → drop (at + size) text ≡ drop size (drop at text)
dropped at size text = sym (drop-drop size at text)

-- one more piece is read
pub reads_on : (before now : List Token) (all : Result (List Token) (ℕ × ℕ)) (at line next : ℕ) (text : List ℕ) (size : ℕ) (kind : Option TokenKind)
    → after before (placed at line (cut_from 0 (drop at text))) ≡ all
    → piece_of (drop at text) ≡ Some (size, kind) → 0 < size → size ≤ length (drop at text)
    → next ≡ line_after kind line
    → ((r : Result (List Token) (ℕ × ℕ)) → after now r ≡ after before (with_token kind at (at + size) line r))
    → after now (placed (at + size) next (cut_from 0 (drop (at + size) text))) ≡ all
reads_on before now all at line next text size kind e p some h n a =
    ap (λ m. after now (placed (at + size) m (cut_from 0 (drop (at + size) text)))) n
    ∙ ap (λ bs. after now (placed (at + size) (line_after kind line) (cut_from 0 bs))) (dropped at size text)
    ∙ a (placed (at + size) (line_after kind line) (cut_from 0 (drop size (drop at text))))
    ∙ ap (after before) (sym (placed_piece at line (drop at text) size kind p some h))
    ∙ e

pub reads_bad : (before : List Token) (all : Result (List Token) (ℕ × ℕ)) (at line : ℕ) (text : List ℕ)
    → after before (placed at line (cut_from 0 (drop at text))) ≡ all
    → piece_of (drop at text) ≡ None → 0 < length (drop at text) → all ≡ Err (at, line)
unfolding after
reads_bad before all at line text e p h = sym e ∙ ap (after before) (placed_bad at line (drop at text) p h)

pub reads_end : (before : List Token) (all : Result (List Token) (ℕ × ℕ)) (at line : ℕ) (text : List ℕ)
    → after before (placed at line (cut_from 0 (drop at text))) ≡ all → drop at text ≡ [] → all ≡ Ok before
unfolding after placed cut_from
reads_end before all at line text e p = sym e ∙ ap (λ bs. after before (placed at line (cut_from 0 bs))) p ∙ ap Ok (append-nil before)
