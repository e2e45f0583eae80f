-- Fields are cut from a text in one way.
use Rattle.std.proofs.Common.{◌≡◌, ℕ, ◌*◌, ◌^◌, ◌<◌, ◌≤◌, true, false, Bool, if◌then◌else◌, List, ◌++◌, length, take, drop, get_or, codes, decimal, refl, sym, ap, subst, ◌∙◌, append_assoc, arith}
use Rattle.std.proofs.lemmas.Fmt.{digits_decimal, digits_value-decimal}
use Rattle.std.proofs.lemmas.List.{take-append-le, take_all}
use Rattle.std.proofs.Math.Seq.{drop-append_seam}
use Rattle.t1_log.specs.Hex.{hex_of}
use Rattle.t1_take.specs.Digits.{read_on}
use Rattle.t1_take.specs.Items.{IsValueOf}
use Rattle.t1_take.specs.Taken.{EndsDigits}
use Rattle.t1_take.proofs.Finding.{one_cut, hex_same, hex_no_dash, length-hex_of}
use Rattle.t1_take.proofs.Numerals.{own}

-- ---- what stands in both

-- one front and what follows it
pub same_front : (w x y : List ℕ) → w ++ x ≡ w ++ y → x ≡ y
same_front w x y e = sym (drop-append_seam w x) ∙ (ap (drop (length w)) e ∙ drop-append_seam w y)

-- one front of a piece, and the rest of it
pub past : (w p q x y : List ℕ) → (w ++ p) ++ x ≡ (w ++ q) ++ y → p ++ x ≡ q ++ y
past w p q x y e = same_front w (p ++ x) (q ++ y) (sym (append_assoc w p x) ∙ (e ∙ append_assoc w q y))

-- fronts of one length
pub front_cut : (a b x y : List ℕ) → length a ≡ length b → a ++ x ≡ b ++ y → (a ≡ b) × (x ≡ y)
front_cut a b x y n e =
    let front : (c r : List ℕ) → take (length c) (c ++ r) ≡ c = λ c r. take-append-le (length c) c r (omega arith) ∙ take_all (length c) c (omega arith) in (
      sym (front a x) ∙ (ap (take (length a)) e ∙ (ap (λ (k : ℕ). take k (b ++ y)) n ∙ front b y)),
      sym (drop-append_seam a x) ∙ (ap (drop (length a)) e ∙ (ap (λ (k : ℕ). drop k (b ++ y)) n ∙ drop-append_seam b y)),
    )

-- the byte at a place
pub letter : {xs ys : List ℕ} (n : ℕ) → xs ≡ ys → get_or xs n 0 ≡ get_or ys n 0
letter n e = ap (λ (t : List ℕ). get_or t n 0) e

-- ---- numbers

-- a decimal number, behind which no digit stands
pub decimal_cut : (n m : ℕ) (x y : List ℕ) → n < 2 ^ 64 → m < 2 ^ 64 → EndsDigits x → EndsDigits y → decimal n ++ x ≡ decimal m ++ y → (n ≡ m) × (x ≡ y)
decimal_cut n m x y l k p q e =
    let cut = one_cut (decimal n) (decimal m) x y (digits_decimal own n l) (digits_decimal own m k) p q e in
    (sym (digits_value-decimal own n l) ∙ (ap (read_on 0) cut.0 ∙ digits_value-decimal own m k), cut.1)

pub number_cut : (n m : ℕ) (p q x y : List ℕ) → n < 2 ^ 64 → m < 2 ^ 64 → EndsDigits (p ++ x) → EndsDigits (q ++ y) → (decimal n ++ p) ++ x ≡ (decimal m ++ q) ++ y → (n ≡ m) × (p ++ x ≡ q ++ y)
number_cut n m p q x y l k f g e = decimal_cut n m (p ++ x) (q ++ y) l k f g (sym (append_assoc (decimal n) p x) ∙ (e ∙ append_assoc (decimal m) q y))

-- a hexadecimal number of so many digits
pub hex_cut : (k v w : ℕ) (x y : List ℕ) → v < 2 ^ (4 * k) → w < 2 ^ (4 * k) → hex_of k v ++ x ≡ hex_of k w ++ y → (v ≡ w) × (x ≡ y)
hex_cut k v w x y l m e =
    let cut = front_cut (hex_of k v) (hex_of k w) x y (length-hex_of k v ∙ sym (length-hex_of k w)) e in
    (hex_same k v w l m cut.0, cut.1)

pub digits_cut : (k v w : ℕ) (p q x y : List ℕ) → v < 2 ^ (4 * k) → w < 2 ^ (4 * k) → (hex_of k v ++ p) ++ x ≡ (hex_of k w ++ q) ++ y → (v ≡ w) × (p ++ x ≡ q ++ y)
digits_cut k v w p q x y l m e = hex_cut k v w (p ++ x) (q ++ y) l m (sym (append_assoc (hex_of k v) p x) ∙ (e ∙ append_assoc (hex_of k w) q y))

-- ---- values

-- a value in so many digits, or a dash
abbrev pub value_of : Bool → ℕ → ℕ → List ℕ
value_of has size value = if has then hex_of (2 * size) value else codes "-"

pub record SameValues (one other : Bool) (v w : ℕ) (x y : List ℕ) : Type 0 where
  pub has : one ≡ other
  pub value : v ≡ w
  pub rest : x ≡ y

-- a dash is no digit, and stands for 0
value_cut : (one other : Bool) (size v w : ℕ) (x y : List ℕ) → 1 ≤ size → IsValueOf one size v → IsValueOf other size w → value_of one size v ++ x ≡ value_of other size w ++ y → SameValues one other v w x y
value_cut true true size v w x y l f g e = (let cut = hex_cut (2 * size) v w x y f g e in record { has = refl; value = cut.0; rest = cut.1 })
value_cut false false size v w x y l f g e = record { has = refl; value = f ∙ sym g; rest = ap (drop 1) e }
value_cut true false size v w x y l f g e = absurd (hex_no_dash (2 * size) v x y (omega (arith, l)) e)
value_cut false true size v w x y l f g e = absurd (hex_no_dash (2 * size) w y x (omega (arith, l)) (sym e))

-- of accesses of one size
pub values_cut : (one other : Bool) (size length v w : ℕ) (x y : List ℕ) → size ≡ length → 1 ≤ size → IsValueOf one size v → IsValueOf other length w → value_of one size v ++ x ≡ value_of other length w ++ y
    → SameValues one other v w x y
values_cut one other size length v w x y same l f =
    subst (λ (k : ℕ). IsValueOf other k w → value_of one size v ++ x ≡ value_of other k w ++ y → SameValues one other v w x y) same (value_cut one other size v w x y l f)
