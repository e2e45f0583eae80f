-- A line that has a form has no line feed.
use Rattle.std.proofs.Common.{◌≡◌, ℕ, zero, suc, ◌+◌, ◌/◌, ◌%◌, ◌<◌, ◌&&◌, inl, inr, true, false, eqb, if◌then◌else◌, Bool, List, [], ◌∷◌, ◌++◌, codes, decimal, refl, sym, ap, ◌∙◌, arith}
use Rattle.std.specs.Char.{is_ascii_digit}
use Rattle.std.specs.Fmt.{digit_glyph, digits_onto, digits}
use Rattle.std.specs.List.{list_all}
use Rattle.std.proofs.lemmas.Bool.{cases_Bool, and_from, and_parts, eqb-true, lt-ltb}
use Rattle.std.proofs.lemmas.List.Folds.{list_all-append}
use Rattle.t1_line_forms.specs.declared.line.Line.{Line}
use Rattle.t1_line_forms.specs.declared.line.Line.TheVariants.{Config, Entry, Block, Item, End, Commit, Order, Console, Last}
use Rattle.t1_line_forms.specs.declared.field.Tail.{Tail}
use Rattle.t1_line_forms.specs.declared.field.Tail.TheVariants.{Nothing, Place, Kills, Bytes}
use Rattle.t1_line_forms.specs.Digits.{is_hex_digit}
use Rattle.t1_line_forms.specs.Fields.{Field, Word, Number, Hex, Size, Value, Cache, IsField, Leads, size_after}
use Rattle.t1_line_forms.specs.Forms.{Form, IsOneOf, IsTail, AreKills, kill_fields, forms_of, head_of, HasForm}

-- ---- texts

abbrev pub is_other : ℕ → Bool
is_other byte = if eqb byte 10 then false else true

-- no byte is a line feed
abbrev pub is_one_line : List ℕ → Bool
is_one_line text = list_all is_other text

both : (xs ys : List ℕ) → is_one_line xs ≡ true → is_one_line ys ≡ true → is_one_line (xs ++ ys) ≡ true
both xs ys e f = list_all-append is_other xs ys ∙ and_from _ _ e f

-- bytes that pass a test that a line feed does not
passed : (p : ℕ → Bool) (xs : List ℕ) → p 10 ≡ false → list_all p xs ≡ true → is_one_line xs ≡ true
passed p [] other all = refl
passed p (x ∷ xs) other all =
    let parts = and_parts (p x) (list_all p xs) all in
    elim (cases_Bool (eqb x 10)) [
      | inl e ↦ absurd (let bad : true ≡ false = sym parts.0 ∙ (ap p (eqb-true x 10 e) ∙ other) in cc)
      | inr e ↦ rw e (passed p xs other parts.1)
    ]

-- ---- decimal numbers, however long

glyph : (d : ℕ) (acc : List ℕ) → d < 10 → is_one_line acc ≡ true → is_one_line (digit_glyph false d ∷ acc) ≡ true
glyph d acc l e =
    let is : digit_glyph false d ≡ 48 + d = rw (lt-ltb d 10 l) refl in
    rw is (elim (cases_Bool (eqb (48 + d) 10)) [
      | inl f ↦ absurd (let bad = eqb-true (48 + d) 10 f in omega (arith, bad))
      | inr f ↦ rw f e
    ])

onto : (k n : ℕ) (acc : List ℕ) → is_one_line acc ≡ true → is_one_line (digits_onto k 10 false n acc) ≡ true
onto zero n acc e = e
onto (suc k) n acc e =
    let last = glyph (n % 10) acc (omega arith) e in
    elim (cases_Bool (eqb (n / 10) 0)) [
      | inl f ↦ rw f last
      | inr f ↦ rw f (onto k (n / 10) (digit_glyph false (n % 10) ∷ acc) last)
    ]

number : (n : ℕ) → is_one_line (decimal n) ≡ true
unfolding digits
number n = onto 64 n [] refl

-- ---- fields

-- the words of these fields have no line feed
abbrev are_plain : List Field → Bool
are_plain [] = true
are_plain (Word word ∷ fields) = is_one_line word && are_plain fields
are_plain (_ ∷ fields) = are_plain fields

one_field : (size piece : List ℕ) (field : Field) (fields : List Field) → are_plain (field ∷ fields) ≡ true → IsField size field piece → is_one_line piece ≡ true
one_field size piece (Word word) fields plain f = ap is_one_line f ∙ (and_parts (is_one_line word) (are_plain fields) plain).0
one_field size piece Number fields plain f = passed is_ascii_digit piece refl f.are_digits
one_field size piece (Hex count) fields plain f = passed is_hex_digit piece refl f.are_digits
one_field size piece Size fields plain f = passed is_ascii_digit piece refl f.are_digits
one_field size piece Value fields plain f = passed is_hex_digit piece refl f.are_digits
one_field size piece Cache fields plain (inl e) = ap is_one_line e
one_field size piece Cache fields plain (inr e) = ap is_one_line e

later_plain : (field : Field) (fields : List Field) → are_plain (field ∷ fields) ≡ true → are_plain fields ≡ true
later_plain (Word word) fields plain = (and_parts (is_one_line word) (are_plain fields) plain).1
later_plain Number fields plain = plain
later_plain (Hex count) fields plain = plain
later_plain Size fields plain = plain
later_plain Value fields plain = plain
later_plain Cache fields plain = plain

all_fields : (size text rest : List ℕ) (fields : List Field) → are_plain fields ≡ true → Leads size fields text rest → is_one_line rest ≡ true → is_one_line text ≡ true
all_fields size text rest [] plain leads none = ap is_one_line leads ∙ none
all_fields size text rest (field ∷ fields) plain leads none =
    let piece : List ℕ = leads.0 in
    let more : List ℕ = leads.1 in
    ap is_one_line leads.2.0
    ∙ both piece more (one_field size piece field fields plain leads.2.1) (all_fields (size_after size field piece) more rest fields (later_plain field fields plain) leads.3 none)

-- ---- how a line ends

kills : (most : ℕ) (text : List ℕ) → AreKills most text → is_one_line text ≡ true
unfolding AreKills
kills zero text k = ap is_one_line k
kills (suc most) text (inl none) = ap is_one_line none
kills (suc most) text (inr k) = all_fields [] text k.0 kill_fields refl k.1 (kills most k.0 k.2)

ending : (tail : Tail) (text : List ℕ) → IsTail tail text → is_one_line text ≡ true
ending Nothing text t = ap is_one_line t
ending Place text (inl f) = all_fields [] text [] (Word (codes " F ") ∷ Number ∷ []) refl f refl
ending Place text (inr (inl f)) = all_fields [] text [] (Word (codes " H ") ∷ Number ∷ []) refl f refl
ending Place text (inr (inr f)) = all_fields [] text [] (Word (codes " M ") ∷ Number ∷ Word (codes " ") ∷ Number ∷ []) refl f refl
ending Kills text t = kills 64 text t
ending Bytes text t = passed is_hex_digit text refl t.2.are_digits

-- ---- lines

abbrev all_plain : List Form → Bool
all_plain [] = true
all_plain (form ∷ forms) = are_plain form.fields && all_plain forms

one_form : (forms : List Form) (text : List ℕ) → all_plain forms ≡ true → IsOneOf forms text → is_one_line text ≡ true
one_form [] text plain f = absurd f
one_form (form ∷ forms) text plain (inl f) = all_fields [] text f.rest form.fields (and_parts (are_plain form.fields) (all_plain forms) plain).0 f.leads (ending form.tail f.rest f.ends)
one_form (form ∷ forms) text plain (inr f) = one_form forms text (and_parts (are_plain form.fields) (all_plain forms) plain).1 f

forms_plain : (kind : Line) → all_plain (forms_of kind) ≡ true
forms_plain Config = refl
forms_plain Entry = refl
forms_plain Block = refl
forms_plain (Item strand number) = refl
forms_plain (End strand) = refl
forms_plain (Commit index) = refl
forms_plain Order = refl
forms_plain Console = refl
forms_plain Last = refl

place : (n : ℕ) → is_one_line (decimal n ++ codes " ") ≡ true
place n = both (decimal n) (codes " ") (number n) refl

head : (kind : Line) → is_one_line (head_of kind) ≡ true
head Config = refl
head Entry = refl
head Block = refl
head (Item strand number) = both (decimal strand ++ codes " ") (decimal number ++ codes " ") (place strand) (place number)
head (End strand) = place strand
head (Commit index) = place index
head Order = refl
head Console = refl
head Last = refl

pub one_line : (kind : Line) (line : List ℕ) → HasForm kind line → is_one_line line ≡ true
one_line kind line form = ap is_one_line form.begins ∙ both (head_of kind) form.rest (head kind) (one_form (forms_of kind) form.rest (forms_plain kind) form.goes_on)
