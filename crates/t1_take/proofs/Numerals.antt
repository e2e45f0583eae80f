-- Decimal digits and their number.
use Rattle.std.proofs.Common.{◌≡◌, ℕ, ◌+◌, ◌*◌, ◌-◌, ◌^◌, ◌<◌, ◌≤◌, min, true, List, [], ◌∷◌, ◌++◌, length, take, drop, get_or, refl, sym, ap, ◌∙◌, inl, inr, ◌⊎◌, arith}
use Rattle.std.specs.Str.{all_ascii_digits}
use Rattle.std.specs.Char.{is_ascii_digit}
use Rattle.std.specs.Fmt.{decimal}
use Rattle.std.proofs.lemmas.Str.Parse.{IsNumeralModel, numerals_by_fold}
use Rattle.std.proofs.lemmas.Fmt.{decimal-digits_value}
use Rattle.std.proofs.lemmas.Bool.{and_parts, and_from}
use Rattle.std.proofs.lemmas.List.{take_more, get_or-drop, get_or-take, length-drop, length-take}
use Rattle.std.proofs.Common.{rules}
use Rattle.t1_take.specs.Digits.{read_on, AreDigits}

pub own : IsNumeralModel (λ ds. all_ascii_digits ds ≡ true) (read_on 0)
own = numerals_by_fold _ (search (rules)) read_on (search (rules))

pub digits_are_decimal : (ds : List ℕ) → all_ascii_digits ds ≡ true → 0 < length ds → (get_or ds 0 0 ≡ 48 → length ds ≡ 1) → read_on 0 ds < 2 ^ 64 → decimal (read_on 0 ds) ≡ ds
digits_are_decimal = decimal-digits_value own

read_last : (n d : ℕ) (ds : List ℕ) → read_on n (ds ++ d ∷ []) ≡ 10 * read_on n ds + (d - 48)
read_last n d [] = refl
read_last n d (c ∷ cs) = read_last (10 * n + (c - 48)) d cs

digits_last : (d : ℕ) (ds : List ℕ) → all_ascii_digits ds ≡ true → is_ascii_digit d ≡ true → all_ascii_digits (ds ++ d ∷ []) ≡ true
digits_last d [] a b = and_from _ true b refl
digits_last d (c ∷ cs) a b =
    let p = and_parts (is_ascii_digit c) (all_ascii_digits cs) a in
    and_from _ _ p.0 (digits_last d cs p.1 b)

pub digits_none : (text : List ℕ) (start : ℕ) → AreDigits text start start 0
digits_none text start =
    let z : start - start ≡ 0 = omega arith in
    record { digits = rw z refl; value_is = rw z (omega arith) }

pub digits_more : (text : List ℕ) (start at value next : ℕ) → start ≤ at → at < length text → AreDigits text start at value → is_ascii_digit (get_or text at 0) ≡ true
    → next ≡ min (min (value * 10) (2 ^ 64 - 1) + (get_or text at 0 - 48)) (2 ^ 64 - 1) → AreDigits text start (at + 1) next
digits_more text start at value next low within so digit next_is =
    let n : at + 1 - start ≡ at - start + 1 = omega (arith, low) in
    let at_is : start + (at - start) ≡ at = omega (arith, low) in
    let one : get_or (drop start text) (at - start) 0 ≡ get_or text at 0 = get_or-drop start text (at - start) 0 ∙ ap (λ k. get_or text k 0) at_is in
    let more : take (at + 1 - start) (drop start text) ≡ take (at - start) (drop start text) ++ get_or text at 0 ∷ [] =
    ap (λ k. take k (drop start text)) n
    ∙ (take_more (drop start text) (at - start) 0 (omega (arith, low, within, length-drop start text))
    ∙ ap (λ d. take (at - start) (drop start text) ++ d ∷ []) one) in
    let value_more = read_last 0 (get_or text at 0) (take (at - start) (drop start text)) in
    record {
      digits = rw more (digits_last (get_or text at 0) (take (at - start) (drop start text)) so.digits digit);
      value_is = rw more (omega (arith, next_is, so.value_is, value_more));
    }

-- what was taken, where it is a number
pub digits_read : (text : List ℕ) (start end value : ℕ) → start ≤ end → start < length text → AreDigits text start end value → value < 2 ^ 32 → start < end → ((get_or text start 0 ≡ 48 → ⊥) ⊎ (end - start ≡ 1))
    → decimal value ≡ take (end - start) (drop start text)
digits_read text start end value low within so small some lead =
    let ds : List ℕ = take (end - start) (drop start text) in
    let n : read_on 0 ds ≡ value = omega (arith, so.value_is, small) in
    let count : length ds ≡ min (end - start) (length text - start) = length-take (end - start) (drop start text) ∙ ap (min (end - start)) (length-drop start text) in
    let first : get_or ds 0 0 ≡ get_or text start 0 =
    get_or-take (end - start) (drop start text) 0 0 (omega (arith, some)) ∙ (get_or-drop start text 0 0 ∙ (let e : start + 0 ≡ start = omega arith in ap (λ k. get_or text k 0) e)) in
    ap decimal (sym n)
    ∙ digits_are_decimal ds so.digits (omega (arith, count, some, within))
    (λ z. elim lead [ inl other ↦ absurd (other (sym first ∙ z)) | inr one ↦ omega (arith, count, one, within) ])
    (omega (arith, n, small))
