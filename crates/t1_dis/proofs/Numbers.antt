-- Numbers in hexadecimal digits are tokens.
use Rattle.std.proofs.Common.{◌≡◌, ◌≤◌, ◌<◌, ℕ, zero, suc, ◌+◌, ◌*◌, ◌^◌, ◌%◌, ◌/◌, List, ◌∷◌, refl, ap, ◌∙◌, arith, Some, true}
use Rattle.std.proofs.lemmas.Bool.Decides.{nat_tests}
use Rattle.std.proofs.lemmas.Nat.{mod-pow-add, pow-add, pow_pos}
use Rattle.std.proofs.Math.Nat.{mod-eq_of_lt}
use Rattle.t1_lex.specs.Bytes.{is_digit, is_letter, is_word_byte, digit_value}
use Rattle.t1_lex.specs.Pieces.{number_of, after_zero, value_from}
use Rattle.t1_lex.specs.Parts.{all_bytes, IsLong}
use Rattle.t1_lex.specs.declared.token.TokenKind.TheVariants.{Number}
use Rattle.t1_lex.proofs.Numbers.{number_long}
use Rattle.t1_dis.specs.Hex.{hex_of, digit_of}

hex_digit_value : (d : ℕ) → d < 16 → digit_value (digit_of d) ≡ d
unfolding digit_value
hex_digit_value d h = grind (arith, nat_tests)

hex_digit_word : (d : ℕ) → d < 16 → is_word_byte (digit_of d) ≡ true
unfolding is_word_byte is_letter is_digit
hex_digit_word d h = grind (arith, nat_tests)

hex_words : (k n : ℕ) → all_bytes is_word_byte (hex_of k n) ≡ true
unfolding all_bytes hex_of
hex_words zero n = refl
hex_words (suc k) n = rw (hex_digit_word (n / 2 ^ (4 * k) % 16) (omega arith)) (hex_words k n)

value_more : (base m d r : ℕ) (ds : List ℕ) → digit_value d < base → m * base + digit_value d < 2 ^ 64 → value_from base (m * base + digit_value d) ds ≡ Some r → value_from base m (d ∷ ds) ≡ Some r
unfolding value_from
value_more base m d r ds h k e = grind (arith, nat_tests)

regroup : (m d p r q t : ℕ) → q ≡ 16 * p → t ≡ d * p + r → (m * 16 + d) * p + r ≡ m * q + t
regroup m d p r q t a b = rw (a, b) (omega arith)

less : (x p r : ℕ) → 1 ≤ p → x * p + r < 2 ^ 64 → x < 2 ^ 64
less x zero r h k = absurd (omega arith)
less x (suc p) r h k = omega (arith, k)

pub value_hex : (k m n : ℕ) → m * 2 ^ (4 * k) + n % 2 ^ (4 * k) < 2 ^ 64 → value_from 16 m (hex_of k n) ≡ Some (m * 2 ^ (4 * k) + n % 2 ^ (4 * k))
unfolding value_from hex_of
value_hex zero m n h = ap Some (omega arith)
value_hex (suc k) m n h =
    let p : ℕ = 2 ^ (4 * k) in
    let d : ℕ = n / 2 ^ (4 * k) % 16 in
    let q : 2 ^ (4 * suc k) ≡ 16 * 2 ^ (4 * k) = ap (λ i. 2 ^ i) (omega arith) ∙ pow-add 2 4 (4 * k) in
    let t : n % 2 ^ (4 * suc k) ≡ n / 2 ^ (4 * k) % 16 * 2 ^ (4 * k) + n % 2 ^ (4 * k) = ap (λ i. n % 2 ^ i) (omega arith) ∙ mod-pow-add n 4 (4 * k) in
    let g : (m * 16 + n / 2 ^ (4 * k) % 16) * 2 ^ (4 * k) + n % 2 ^ (4 * k) ≡ m * 2 ^ (4 * suc k) + n % 2 ^ (4 * suc k)
    = regroup m (n / 2 ^ (4 * k) % 16) (2 ^ (4 * k)) (n % 2 ^ (4 * k)) (2 ^ (4 * suc k)) (n % 2 ^ (4 * suc k)) q t in
    let v : digit_value (digit_of (n / 2 ^ (4 * k) % 16)) ≡ n / 2 ^ (4 * k) % 16 = hex_digit_value (n / 2 ^ (4 * k) % 16) (omega arith) in
    let b : m * 16 + n / 2 ^ (4 * k) % 16 < 2 ^ 64 = less (m * 16 + n / 2 ^ (4 * k) % 16) (2 ^ (4 * k)) (n % 2 ^ (4 * k)) (pow_pos (4 * k)) (rw g h) in
    value_more 16 m (digit_of (n / 2 ^ (4 * k) % 16)) _ (hex_of k n) (rw v (omega arith)) (rw v b)
    (rw v (value_hex k (m * 16 + n / 2 ^ (4 * k) % 16) n (rw g h) ∙ ap Some g))

pub hex_long : (k n : ℕ) → n < 2 ^ (4 * suc k) → n < 2 ^ 64 → IsLong (Number n) (48 ∷ 120 ∷ hex_of (suc k) n)
unfolding is_digit all_bytes is_word_byte is_letter number_of after_zero hex_of
hex_long k n h g =
    let e : n % 2 ^ (4 * suc k) ≡ n = mod-eq_of_lt h in
    number_long 48 (120 ∷ hex_of (suc k) n) n refl (hex_words (suc k) n)
    (value_hex (suc k) 0 n (rw e (omega arith)) ∙ ap Some (rw e (omega arith)))
