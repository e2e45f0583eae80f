-- The tokens of a text that is written part by part.
use Rattle.std.proofs.Common.{◌≡◌, ℕ, suc, ◌+◌, List, [], ◌∷◌, ◌++◌, length, take, drop, refl, ap, ◌∙◌, arith, length-append, Some, Bool, true, false, not, ◌&&◌, cond}
use Rattle.t1_lex.specs.Bytes.{is_digit, is_letter, starts_name, is_name_byte, is_blank}
use Rattle.t1_lex.specs.Pieces.{piece_of, run_of, named_piece}
use Rattle.t1_lex.specs.Tokens.{cut_from, cut_after, lexemes_in, with_lexeme}
use Rattle.t1_lex.specs.Tokens.Cut.{Then}
use Rattle.t1_lex.specs.Parts.{bytes_of, stops, all_bytes, is_name, IsLong, PartsAreLexemes}
use Rattle.t1_lex.specs.Parts.Part.{Space, Mark, Long}
use Rattle.t1_lex.specs.declared.token.TokenKind.{TokenKind}
use Rattle.t1_lex.specs.declared.token.TokenKind.TheVariants.{Name, Percent, Punct}
use Rattle.t1_lex.proofs.Cutting.{cut_piece}

pub and_true : (a b : Bool) → (a && b) ≡ true → (a ≡ true) × (b ≡ true)
and_true true b h = (refl, h)
and_true false b h = cc

pub not_true : (a : Bool) → not a ≡ true → a ≡ false
not_true true h = cc
not_true false h = refl

pub run_all : (test : ℕ → Bool) (bs rest : List ℕ) → all_bytes test bs ≡ true → stops test rest ≡ true → run_of test (bs ++ rest) ≡ length bs
unfolding run_of all_bytes stops
run_all test [] [] a s = refl
run_all test [] (r ∷ rs) a s = ap (λ t. cond t (run_of test rs + 1) 0) (not_true (test r) s)
run_all test (b ∷ bs) rest a s =
    let both = and_true (test b) (all_bytes test bs) a in
    ap (λ t. cond t (run_of test (bs ++ rest) + 1) 0) both.0 ∙ ap (λ n. n + 1) (run_all test bs rest both.1 s) ∙ add_one (length bs)
  where
    add_one : (n : ℕ) → n + 1 ≡ suc n
    add_one n = omega arith

pub taken : (bs rest : List ℕ) → take (length bs) (bs ++ rest) ≡ bs
taken [] rest = refl
taken (b ∷ bs) rest = ap (λ l. b ∷ l) (taken bs rest)

pub dropped : (bs rest : List ℕ) → drop (length bs) (bs ++ rest) ≡ rest
dropped [] rest = refl
dropped (b ∷ bs) rest = dropped bs rest

pub cut_long : (kind : TokenKind) (bs rest : List ℕ) → IsLong kind bs → stops is_name_byte rest ≡ true
    → cut_from 0 (bs ++ rest) ≡ Then (Some kind) bs (cut_from 0 rest)
cut_long kind bs rest long s =
    cut_piece (bs ++ rest) (length bs) (Some kind) (long.piece rest s) long.some (omega (arith, long.some, length-append bs rest))
    ∙ ap (λ l. Then (Some kind) l (cut_from 0 (drop (length bs) (bs ++ rest)))) (taken bs rest)
    ∙ ap (λ l. Then (Some kind) bs (cut_from 0 l)) (dropped bs rest)

pub parts_are_lexemes : PartsAreLexemes
unfolding cut_from cut_after lexemes_in with_lexeme piece_of is_digit is_letter starts_name is_blank
parts_are_lexemes [] h = refl
parts_are_lexemes (Space ∷ ps) h = parts_are_lexemes ps h
parts_are_lexemes (Mark b ∷ ps) h =
    ap (λ p. lexemes_in (cut_after (b ∷ bytes_of ps) p (λ k. cut_from k (bytes_of ps)))) (h.0 (bytes_of ps))
    ∙ ap (with_lexeme (Punct b, b ∷ [])) (parts_are_lexemes ps h.1)
parts_are_lexemes (Long kind bs ∷ ps) h =
    ap lexemes_in (cut_long kind bs (bytes_of ps) h.0 h.1)
    ∙ ap (with_lexeme (kind, bs)) (parts_are_lexemes ps h.2)

-- a name
pub name_long : (bs : List ℕ) → is_name bs ≡ true → IsLong Name bs
unfolding piece_of is_name
name_long [] e = cc
name_long (b ∷ bs) e =
    let p = and_true (not (is_digit b)) (starts_name b && all_bytes is_name_byte bs) e in
    let q = and_true (starts_name b) (all_bytes is_name_byte bs) p.1 in
    let d : is_digit b ≡ false = not_true (is_digit b) p.0 in
    record {
      some = omega arith;
      piece = λ rest s.
          let r : run_of is_name_byte (bs ++ rest) ≡ length bs = run_all is_name_byte bs rest q.1 s in
          rw (d, q.0, r) (ap (λ n. Some (n, Some Name)) (omega arith));
    }

-- a % and a name
pub percent_long : (bs : List ℕ) → is_name bs ≡ true → IsLong Percent (37 ∷ bs)
unfolding piece_of named_piece is_name is_digit is_letter starts_name is_blank
percent_long [] e = cc
percent_long (b ∷ bs) e =
    let p = and_true (not (is_digit b)) (starts_name b && all_bytes is_name_byte bs) e in
    let q = and_true (starts_name b) (all_bytes is_name_byte bs) p.1 in
    record {
      some = omega arith;
      piece = λ rest s.
          let r : run_of is_name_byte (bs ++ rest) ≡ length bs = run_all is_name_byte bs rest q.1 s in
          rw (q.0, r) (ap (λ n. Some (n, Some Percent)) (omega arith));
    }
