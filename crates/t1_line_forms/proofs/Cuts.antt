-- Each field is cut off the front of a text in one way.
use Rattle.std.proofs.Common.{◌≡◌, ℕ, ◌+◌, ◌*◌, ◌-◌, ◌<◌, true, false, List, [], ◌∷◌, ◌++◌, length, get_or, take, drop, IsTrue, refl, sym, ap, subst, ◌∙◌}
use Rattle.std.specs.Char.{is_ascii_digit}
use Rattle.std.specs.Str.{all_ascii_digits}
use Rattle.std.proofs.lemmas.Bool.{and_parts, and_from}
use Rattle.std.proofs.lemmas.List.{take_more, take_at, drop_at, length-append}
use Rattle.t1_line_forms.specs.Digits.{EndsDecimal, number_on}

-- ---- decimal digits

digits_last : (ds : List ℕ) (d : ℕ) → IsTrue (all_ascii_digits ds) → is_ascii_digit d ≡ true → IsTrue (all_ascii_digits (ds ++ d ∷ []))
digits_last [] d p q = and_from _ true q refl
digits_last (c ∷ cs) d p q =
    let parts = and_parts (is_ascii_digit c) (all_ascii_digits cs) p in
    and_from _ _ parts.0 (digits_last cs d parts.1 q)

pub digits_more : (text : List ℕ) (i : ℕ) → i < length text → IsTrue (all_ascii_digits (take i text)) → is_ascii_digit (get_or text i 0) ≡ true → IsTrue (all_ascii_digits (take (i + 1) text))
digits_more text i l p d = rw (take_more text i 0 l) (digits_last (take i text) (get_or text i 0) p d)

pub one_cut : (a b x y : List ℕ) → IsTrue (all_ascii_digits a) → IsTrue (all_ascii_digits b) → EndsDecimal x → EndsDecimal y → a ++ x ≡ b ++ y → (a ≡ b) × (x ≡ y)
one_cut [] [] x y p q m n e = (refl, e)
one_cut [] (d ∷ b) x y p q m n e =
    let f : EndsDecimal (d ∷ (b ++ y)) = subst EndsDecimal e m in
    let bad : true ≡ false = sym (and_parts (is_ascii_digit d) (all_ascii_digits b) q).0 ∙ f in cc
one_cut (c ∷ a) [] x y p q m n e =
    let f : EndsDecimal (c ∷ (a ++ x)) = subst EndsDecimal (sym e) n in
    let bad : true ≡ false = sym (and_parts (is_ascii_digit c) (all_ascii_digits a) p).0 ∙ f in cc
one_cut (c ∷ a) (d ∷ b) x y p q m n e =
    let rest = one_cut a b x y (and_parts (is_ascii_digit c) (all_ascii_digits a) p).1 (and_parts (is_ascii_digit d) (all_ascii_digits b) q).1 m n (ap (λ (t : List ℕ). drop 1 t) e) in
    let head : c ≡ d = ap (λ (t : List ℕ). get_or t 0 0) e in
    (ap (λ (h : ℕ). h ∷ a) head ∙ ap (λ (t : List ℕ). d ∷ t) rest.0, rest.1)

pub number_last : (n : ℕ) (ds : List ℕ) (d : ℕ) → number_on n (ds ++ d ∷ []) ≡ 10 * number_on n ds + (d - 48)
number_last n [] d = refl
number_last n (c ∷ cs) d = number_last (10 * n + (c - 48)) cs d

-- ---- so many digits

pub front_is : (text piece rest : List ℕ) (count : ℕ) → text ≡ piece ++ rest → length piece ≡ count → take count text ≡ piece
front_is text piece rest count e n = ap (take count) e ∙ take_at piece rest count n

pub rest_is : (text piece rest : List ℕ) (count : ℕ) → text ≡ piece ++ rest → length piece ≡ count → drop count text ≡ rest
rest_is text piece rest count e n = ap (drop count) e ∙ drop_at piece rest count n

pub is_within : (text piece rest : List ℕ) → text ≡ piece ++ rest → length text ≡ length piece + length rest
is_within text piece rest e = ap length e ∙ length-append piece rest
