-- Numbers that are written in digits are read again.
use Rattle.std.proofs.Common.{◌≡◌, ◌≤◌, ◌<◌, ℕ, zero, suc, ◌+◌, ◌*◌, ◌^◌, ◌%◌, ◌/◌, List, [], ◌∷◌, ◌++◌, length, take, refl, ap, ◌∙◌, arith, length-append, Option, Some, None, Bool, true, false, not, ◌||◌, cond, ◌==◌}
use Rattle.std.proofs.lemmas.Bool.Decides.{nat_tests}
use Rattle.std.proofs.lemmas.Fmt.{decimal_by_steps, decimal_digit}
use Rattle.std.specs.Fmt.{decimal}
use Rattle.t1_lex.specs.Bytes.{is_digit, is_letter, starts_name, is_name_byte, is_word_byte, digit_value}
use Rattle.t1_lex.specs.Pieces.{piece_of, run_of, number_piece, numbered, number_of, after_zero, value_from}
use Rattle.t1_lex.specs.Parts.{stops, all_bytes, IsLong}
use Rattle.t1_lex.specs.declared.token.TokenKind.TheVariants.{Number}
use Rattle.t1_lex.proofs.Parts.{and_true, not_true, run_all, taken}

fewer : (l s d : Bool) → not ((l || s) || d) ≡ true → not (l || d) ≡ true
fewer true s d h = cc
fewer false true d h = cc
fewer false false d h = h

word_stops : (rest : List ℕ) → stops is_name_byte rest ≡ true → stops is_word_byte rest ≡ true
unfolding stops is_name_byte is_word_byte starts_name
word_stops [] h = refl
word_stops (b ∷ bs) h = fewer (is_letter b) _ (is_digit b) h

-- a number in any digits
pub number_long : (b : ℕ) (bs : List ℕ) (n : ℕ) → is_digit b ≡ true → all_bytes is_word_byte (b ∷ bs) ≡ true → number_of (b ∷ bs) ≡ Some n → IsLong (Number n) (b ∷ bs)
unfolding piece_of number_piece numbered
number_long b bs n d a e = record {
  some = omega arith;
  piece = λ rest s.
      let r : run_of is_word_byte (b ∷ (bs ++ rest)) ≡ suc (length bs) = run_all is_word_byte (b ∷ bs) rest a (word_stops rest s) in
      let t : take (suc (length bs)) (b ∷ (bs ++ rest)) ≡ b ∷ bs = taken (b ∷ bs) rest in
      rw d (
      ap (λ m. numbered m (number_of (take m (b ∷ (bs ++ rest))))) r
      ∙ ap (λ l. numbered (suc (length bs)) (number_of l)) t
      ∙ ap (numbered (suc (length bs))) e
      );
}

pub picked : (t : Bool) (x : Option ℕ) (r : ℕ) → cond t x None ≡ Some r → (t ≡ true) × (x ≡ Some r)
picked true x r h = (refl, h)
picked false x r h = cc

pub value_from-append : (base m r : ℕ) (ds es : List ℕ) → value_from base m ds ≡ Some r → value_from base m (ds ++ es) ≡ value_from base r es
unfolding value_from
value_from-append base m r [] es h = let e : m ≡ r = cc in ap (λ n. value_from base n es) e
value_from-append base m r (d ∷ ds) es h =
    let p = picked _ _ r h in
    ap (λ t. cond t (value_from base (m * base + digit_value d) (ds ++ es)) None) p.0
    ∙ value_from-append base (m * base + digit_value d) r ds es p.1

pub value_one : (base m d : ℕ) → digit_value d < base → m * base + digit_value d < 2 ^ 64 → value_from base m (d ∷ []) ≡ Some (m * base + digit_value d)
unfolding value_from
value_one base m d h k = grind (arith, nat_tests)

digit_of_value : (n : ℕ) → n < 10 → digit_value (48 + n) ≡ n
unfolding digit_value
digit_of_value n h = grind (arith, nat_tests)

digit_is : (n : ℕ) → n < 10 → is_digit (48 + n) ≡ true
unfolding is_digit
digit_is n h = grind (arith, nat_tests)

pub all_bytes-append : (test : ℕ → Bool) (xs ys : List ℕ) → all_bytes test xs ≡ true → all_bytes test ys ≡ true → all_bytes test (xs ++ ys) ≡ true
unfolding all_bytes
all_bytes-append test [] ys p q = q
all_bytes-append test (x ∷ xs) ys p q =
    let both = and_true (test x) (all_bytes test xs) p in
    rw (both.0) (all_bytes-append test xs ys both.1 q)

leads : List ℕ → Bool
leads [] = false
leads (d ∷ ds) = not (d == 48)

record IsDecimal (n : ℕ) (ds : List ℕ) : Type 0 where
  pub some : 0 < length ds
  pub digits : all_bytes is_digit ds ≡ true
  pub value : value_from 10 0 ds ≡ Some n
  pub lead : 0 < n → leads ds ≡ true

one : (n : ℕ) → n < 10 → IsDecimal n ((48 + n) ∷ [])
unfolding all_bytes leads
one n h = record {
  some = omega arith;
  digits = rw (digit_is n h) refl;
  value = value_one 10 0 (48 + n) (rw (digit_of_value n h) h) (rw (digit_of_value n h) (omega arith)) ∙ ap Some (rw (digit_of_value n h) (omega arith));
  lead = λ k. grind (arith, nat_tests);
}

leads-append : (ds es : List ℕ) → leads ds ≡ true → leads (ds ++ es) ≡ true
unfolding leads
leads-append [] es h = cc
leads-append (d ∷ ds) es h = h

more : (n : ℕ) (ds : List ℕ) → 10 ≤ n → (n / 10 < 2 ^ 64 → IsDecimal (n / 10) ds) → n < 2 ^ 64 → IsDecimal n (ds ++ ((48 + n % 10) ∷ []))
unfolding all_bytes
more n ds h f k =
    let p = f (omega arith) in
    let d : digit_value (48 + n % 10) ≡ n % 10 = digit_of_value (n % 10) (omega arith) in
    record {
      some = omega (arith, p.some, length-append ds ((48 + n % 10) ∷ []));
      digits = all_bytes-append is_digit ds ((48 + n % 10) ∷ []) p.digits (rw (digit_is (n % 10) (omega arith)) refl);
      value = value_from-append 10 0 (n / 10) ds ((48 + n % 10) ∷ []) p.value
          ∙ value_one 10 (n / 10) (48 + n % 10) (rw d (omega arith)) (rw d (omega arith))
          ∙ ap Some (rw d (omega arith));
      lead = λ _. leads-append ds ((48 + n % 10) ∷ []) (p.lead (omega arith));
    }

decimals : (n : ℕ) → n < 2 ^ 64 → n < 2 ^ 64 → IsDecimal n (decimal n)
decimals = decimal_by_steps (λ n ds. n < 2 ^ 64 → IsDecimal n ds) (λ n h _. one n h) more

digits_words : (ds : List ℕ) → all_bytes is_digit ds ≡ true → all_bytes is_word_byte ds ≡ true
unfolding all_bytes is_word_byte
digits_words [] h = refl
digits_words (d ∷ ds) h =
    let both = and_true (is_digit d) (all_bytes is_digit ds) h in
    rw (both.0, or_true (is_letter d)) (digits_words ds both.1)
  where
    or_true : (l : Bool) → (l || true) ≡ true
    or_true true = refl
    or_true false = refl

zero_long : IsLong (Number 0) (48 ∷ [])
unfolding all_bytes number_of after_zero is_word_byte is_digit is_letter
zero_long = number_long 48 [] 0 refl refl refl

from_decimal : (n : ℕ) (ds : List ℕ) → 0 < n → IsDecimal n ds → IsLong (Number n) ds
unfolding all_bytes number_of leads
from_decimal n [] h p = absurd (omega (arith, p.some))
from_decimal n (d ∷ ds) h p =
    let l : (d == 48) ≡ false = not_true (d == 48) (p.lead h) in
    number_long d ds n (and_true (is_digit d) (all_bytes is_digit ds) p.digits).0 (digits_words (d ∷ ds) p.digits) (rw l p.value)

-- a number in decimal digits is a token of its value
pub decimal_long : (n : ℕ) → n < 2 ^ 64 → IsLong (Number n) (decimal n)
decimal_long zero h = rw (decimal_digit 0 (omega arith)) zero_long
decimal_long (suc n) h = from_decimal (suc n) (decimal (suc n)) (omega arith) (decimals (suc n) h h)
