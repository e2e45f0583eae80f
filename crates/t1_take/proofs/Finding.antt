-- What stands in a text is taken: digits are cut in one way.
use Rattle.std.proofs.Common.{◌≡◌, ℕ, zero, suc, ◌+◌, ◌*◌, ◌-◌, ◌/◌, ◌%◌, ◌^◌, ◌<◌, ◌≤◌, ◌⊎◌, min, true, List, [], ◌∷◌, ◌++◌, length, take, drop, get_or, codes, Option, Some, None, refl, sym, ap, subst, ◌∙◌, append_assoc, inl, inr, arith}
use Rattle.std.specs.Str.{all_ascii_digits}
use Rattle.std.specs.Char.{is_ascii_digit}
use Rattle.std.specs.Fmt.{decimal}
use Rattle.std.proofs.lemmas.Bool.{and_parts, cases_lt, lt-ltb, le-ltb}
use Rattle.std.proofs.lemmas.Fmt.{digits_decimal, digits_value-decimal, decimal_nonempty, first_decimal, decimal_digit}
use Rattle.std.proofs.lemmas.List.{take-append-le, take_all, drop-drop, get_or-take, get_or-drop, length-drop, length-take, length-append}
use Rattle.std.proofs.Math.Seq.{drop-append_seam}
use Rattle.std.proofs.Math.Nat.{div-div-eq-div-mul, div-eq_of_lt}
use Rattle.std.proofs.lemmas.Nat.{pow-add}
use Rattle.t1_line_forms.specs.Digits.{EndsDecimal}
use Rattle.t1_line_forms.proofs.Cuts as cuts
use Rattle.t1_log.specs.Hex.{digit_of, hex_of}
use Rattle.t1_log.specs.Log.{way_field_of, evicted_field_of}
use Rattle.t1_take.specs.WellFormed.{IsGoodWay}
use Rattle.t1_take.specs.declared.cursor.Cursor.{Cursor}
use Rattle.t1_take.specs.Digits.{read_on, AreDigits}
use Rattle.t1_take.specs.Taken.{Reads, EndsDigits, Leaves, Finds}
use Rattle.t1_take.proofs.Taking.{reads_first}
use Rattle.t1_take.proofs.Numerals.{own}

-- ---- pieces

pub rest_at : (text : List ℕ) (at : ℕ) (piece rest : List ℕ) → drop at text ≡ piece ++ rest → drop (at + length piece) text ≡ rest
rest_at text at piece rest e = sym (drop-drop (length piece) at text) ∙ (ap (drop (length piece)) e ∙ drop-append_seam piece rest)

pub nothing_past : (text : List ℕ) (at : ℕ) (piece rest : List ℕ) → length text < at → 0 < length piece → drop at text ≡ piece ++ rest → ⊥
nothing_past text at piece rest past some e =
    let n : length (drop at text) ≡ length piece + length rest = ap length e ∙ length-append piece rest in
    let m = length-drop at text in
    omega (arith, n, m, past, some)

-- a piece of two, and what is left
pub next : (all p q rest : List ℕ) → all ≡ (p ++ q) ++ rest → all ≡ p ++ (q ++ rest)
next all p q rest e = e ∙ append_assoc p q rest

-- ---- decimal digits

-- the same of the forms of lines
ends_decimal : (x : List ℕ) → EndsDigits x → EndsDecimal x
ends_decimal [] m = m
ends_decimal (c ∷ x) m = m

pub one_cut : (a b x y : List ℕ) → all_ascii_digits a ≡ true → all_ascii_digits b ≡ true → EndsDigits x → EndsDigits y → a ++ x ≡ b ++ y → (a ≡ b) × (x ≡ y)
one_cut a b x y p q m n e = cuts.one_cut a b x y p q (ends_decimal x m) (ends_decimal y n) e

-- a number that stands there is what the digits are
pub record IsNumberAt (text : List ℕ) (start end value n : ℕ) (rest : List ℕ) : Type 0 where
  pub some : start < end
  pub within : start < length text
  pub lead : (get_or text start 0 ≡ 48 → ⊥) ⊎ (end - start ≡ 1)
  pub value_is : value ≡ n
  pub rest_is : drop end text ≡ rest

pub number_at : (text : List ℕ) (start end value n : ℕ) (rest : List ℕ) → start ≤ end → (start ≤ length text → end ≤ length text) → AreDigits text start end value → EndsDigits (drop end text)
    → n < 2 ^ 32 → EndsDigits rest → drop start text ≡ decimal n ++ rest → IsNumberAt text start end value n rest
number_at text start end value n rest low high digits ends small after e =
    let ds : List ℕ = take (end - start) (drop start text) in
    let end_is : start + (end - start) ≡ end = omega (arith, low) in
    let wide : n < 2 ^ 64 = omega (arith, small) in
    let cut : drop start text ≡ ds ++ drop end text = reads_first text start (end - start) ∙ ap (λ (k : ℕ). ds ++ drop k text) end_is in
    let one = one_cut ds (decimal n) (drop end text) rest digits.digits (digits_decimal own n wide) ends after (sym cut ∙ e) in
    let most : 0 < length (decimal n) = decimal_nonempty n wide in
    let count : length ds ≡ min (end - start) (length text - start) = length-take (end - start) (drop start text) ∙ ap (min (end - start)) (length-drop start text) in
    let same : length ds ≡ length (decimal n) = ap length one.0 in
    let within : start < length text = omega (arith, count, same, most) in
    let ended = high (omega (arith, within)) in
    let first : get_or ds 0 0 ≡ get_or text start 0 =
    get_or-take (end - start) (drop start text) 0 0 (omega (arith, count, same, most))
    ∙ (get_or-drop start text 0 0 ∙ (let z : start + 0 ≡ start = omega arith in ap (λ k. get_or text k 0) z)) in
    let value_there : read_on 0 ds ≡ n = ap (read_on 0) one.0 ∙ digits_value-decimal own n wide in
    record {
      some = omega (arith, count, same, most);
      within = within;
      lead = elim (cases_lt 0 n) [
        | inl big ↦ inl (λ z. let f = first_decimal n big wide in let g : get_or (decimal n) 0 0 ≡ 48 = ap (λ (t : List ℕ). get_or t 0 0) (sym one.0) ∙ (first ∙ z) in absurd (omega (arith, f, g)))
        | inr none ↦ (
            let zero_is : n ≡ 0 = omega (arith, none) in
            let width : length (decimal n) ≡ 1 = ap (λ (k : ℕ). length (decimal k)) zero_is ∙ ap length (decimal_digit 0 (omega arith)) in
            inr (omega (arith, count, same, width, ended, within))
            )
      ];
      value_is = omega (arith, digits.value_is, value_there, wide);
      rest_is = one.1;
    }

-- no decimal number begins with a dash
pub not_dash : (n : ℕ) (rest more : List ℕ) → n < 2 ^ 32 → decimal n ++ rest ≡ 45 ∷ more → ⊥
not_dash n rest more small e = by (decimal n) (digits_decimal own n (omega (arith, small))) (decimal_nonempty n (omega (arith, small))) e
  where
    by : (ds : List ℕ) → all_ascii_digits ds ≡ true → 0 < length ds → ds ++ rest ≡ 45 ∷ more → ⊥
    by [] a l f = omega (arith, l)
    by (d ∷ ds) a l f =
        let d_is : d ≡ 45 = ap (λ (t : List ℕ). get_or t 0 0) f in
        let bad : is_ascii_digit 45 ≡ true = subst (λ (k : ℕ). is_ascii_digit k ≡ true) d_is (and_parts (is_ascii_digit d) (all_ascii_digits ds) a).0 in
        cc

-- ---- hexadecimal digits

pub length-hex_of : (k value : ℕ) → length (hex_of k value) ≡ k
unfolding hex_of
length-hex_of zero value = refl
length-hex_of (suc k) value = ap (λ (n : ℕ). suc n) (length-hex_of k value)

pub digit_at : (k value i : ℕ) → i < k → (d : ℕ) × (d < 16) × (get_or (hex_of k value) i 0 ≡ digit_of d)
unfolding hex_of
digit_at zero value i l = absurd (omega (arith, l))
digit_at (suc k) value zero l = (value / 2 ^ (4 * k) % 16, omega arith, refl)
digit_at (suc k) value (suc i) l = digit_at k value i (omega (arith, l))

digit_below : (d : ℕ) → d < 10 → digit_of d ≡ 48 + d
digit_below d l = rw (lt-ltb d 10 l) refl

digit_above : (d : ℕ) → 10 ≤ d → digit_of d ≡ 87 + d
digit_above d l = rw (le-ltb d 10 l) refl

digit_same : (d e : ℕ) → d < 16 → e < 16 → digit_of d ≡ digit_of e → d ≡ e
digit_same d e l m f =
    elim (cases_lt d 10) [
      | inl p ↦ elim (cases_lt e 10) [
        | inl q ↦ omega (arith, digit_below d p, digit_below e q, f)
        | inr q ↦ absurd (omega (arith, digit_below d p, digit_above e q, f, p))
      ]
      | inr p ↦ elim (cases_lt e 10) [
        | inl q ↦ absurd (omega (arith, digit_above d p, digit_below e q, f, q))
        | inr q ↦ omega (arith, digit_above d p, digit_above e q, f)
      ]
    ]

pub digit_no_dash : (d : ℕ) → digit_of d ≡ 45 → ⊥
digit_no_dash d e = elim (cases_lt d 10) [ inl p ↦ omega (arith, digit_below d p, e) | inr p ↦ omega (arith, digit_above d p, e) ]

-- the digits and what is above them say a number
same_above : (k v w : ℕ) → v / 2 ^ (4 * k) ≡ w / 2 ^ (4 * k) → hex_of k v ≡ hex_of k w → v ≡ w
unfolding hex_of
same_above zero v w h e = omega (arith, h)
same_above (suc k) v w h e =
    let head = digit_same (v / 2 ^ (4 * k) % 16) (w / 2 ^ (4 * k) % 16) (omega arith) (omega arith) (ap (λ (t : List ℕ). get_or t 0 0) e) in
    let wide : 2 ^ (4 * suc k) ≡ 2 ^ (4 * k) * 16 = ap (λ (n : ℕ). 2 ^ n) (omega arith) ∙ pow-add 2 (4 * k) 4 in
    let cut : (n : ℕ) → n / 2 ^ (4 * k) / 16 ≡ n / 2 ^ (4 * suc k) = λ n. div-div-eq-div-mul n (2 ^ (4 * k)) 16 ∙ ap (λ (m : ℕ). n / m) (sym wide) in
    let high = cut v ∙ (h ∙ sym (cut w)) in
    same_above k v w (omega (arith, head, high)) (ap (λ (t : List ℕ). drop 1 t) e)

pub hex_same : (k v w : ℕ) → v < 2 ^ (4 * k) → w < 2 ^ (4 * k) → hex_of k v ≡ hex_of k w → v ≡ w
hex_same k v w l m e = same_above k v w (div-eq_of_lt l ∙ sym (div-eq_of_lt m)) e

pub hex_front : (text : List ℕ) (at k value : ℕ) (rest : List ℕ) → drop at text ≡ hex_of k value ++ rest → take k (drop at text) ≡ hex_of k value
hex_front text at k value rest e =
    let n = length-hex_of k value in
    ap (take k) e ∙ (take-append-le k (hex_of k value) rest (omega (arith, n)) ∙ take_all k (hex_of k value) (omega (arith, n)))

pub hex_rest : (text : List ℕ) (at k value : ℕ) (rest : List ℕ) → drop at text ≡ hex_of k value ++ rest → drop (at + k) text ≡ rest
hex_rest text at k value rest e = ap (λ (n : ℕ). drop (at + n) text) (sym (length-hex_of k value)) ∙ rest_at text at (hex_of k value) rest e

pub hex_short : (text : List ℕ) (at k value : ℕ) (rest : List ℕ) → drop at text ≡ hex_of k value ++ rest → k ≤ length text - at
hex_short text at k value rest e =
    let n : length (drop at text) ≡ length (hex_of k value) + length rest = ap length e ∙ length-append (hex_of k value) rest in
    omega (arith, n, length-drop at text, length-hex_of k value)

pub hex_none : (text : List ℕ) (at k i value : ℕ) → i < k → ((d : ℕ) → d < 16 → get_or text (at + i) 0 ≡ digit_of d → ⊥) → take k (drop at text) ≡ hex_of k value → ⊥
hex_none text at k i value l none e =
    let d = digit_at k value i l in
    none d.0 d.1 (sym (get_or-take k (drop at text) i 0 l ∙ get_or-drop at text i 0) ∙ (ap (λ (t : List ℕ). get_or t i 0) e ∙ d.2))

-- a number in digits begins with no dash
pub hex_no_dash : (k value : ℕ) (rest more : List ℕ) → 0 < k → hex_of k value ++ rest ≡ 45 ∷ more → ⊥
unfolding hex_of
hex_no_dash zero value rest more l e = omega (arith, l)
hex_no_dash (suc k) value rest more l e = digit_no_dash (value / 2 ^ (4 * k) % 16) (ap (λ (t : List ℕ). get_or t 0 0) e)

pub digit_high : (d : ℕ) → 48 ≤ digit_of d
digit_high d = elim (cases_lt d 10) [ inl p ↦ omega (arith, digit_below d p) | inr p ↦ omega (arith, digit_above d p) ]

-- nor with a line feed
pub hex_no_feed : (text : List ℕ) (at k value : ℕ) (rest : List ℕ) → 0 < k → drop at text ≡ hex_of k value ++ rest → get_or text at 0 ≡ 10 → ⊥
unfolding hex_of
hex_no_feed text at zero value rest l e f = omega (arith, l)
hex_no_feed text at (suc k) value rest l e f = (
    let z : get_or (drop at text) 0 0 ≡ get_or text at 0 = get_or-drop at text 0 0 ∙ (let n : at + 0 ≡ at = omega arith in ap (λ j. get_or text j 0) n) in
    let d : get_or (drop at text) 0 0 ≡ digit_of (value / 2 ^ (4 * k) % 16) = ap (λ (t : List ℕ). get_or t 0 0) e in
    let h = digit_high (value / 2 ^ (4 * k) % 16) in
    omega (arith, z, d, h, f)
    )

-- ---- dashes

-- a dash was taken
pub evicted_dash : (text : List ℕ) (old new : Cursor) (evicted : Option ℕ) (rest : List ℕ) → Reads text old.at new.at (codes "-") → Finds text old new (codes "-")
    → drop old.at text ≡ evicted_field_of evicted ++ rest → ◌≡◌ {A = Option ℕ} None evicted × Leaves text old new rest
evicted_dash text old new None rest r f e = (refl, f rest e)
evicted_dash text old new (Some addr) rest r f e = absurd (hex_no_dash 10 addr rest (drop new.at text) (omega arith) (sym e ∙ r))

pub way_dash : (text : List ℕ) (old new : Cursor) (way : Option ℕ) (rest : List ℕ) → Reads text old.at new.at (codes "-") → Finds text old new (codes "-") → IsGoodWay way
    → drop old.at text ≡ way_field_of way ++ rest → ◌≡◌ {A = Option ℕ} None way × Leaves text old new rest
way_dash text old new None rest r f g e = (refl, f rest e)
way_dash text old new (Some way) rest r f g e = absurd (not_dash way rest (drop new.at text) (omega (arith, g)) (sym e ∙ r))
