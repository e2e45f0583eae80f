-- The fields of printed items.
use Rattle.std.proofs.Common.{◌≡◌, ℕ, ◌*◌, ◌≤◌, inl, inr, true, false, List, [], ◌∷◌, ◌++◌, codes, refl, sym, ap, subst, ◌∙◌, append_assoc, append-nil, arith}
use Rattle.std.specs.Fmt.{decimal}
use Rattle.t1_event.specs.Kinds.{is_read, is_changing, is_access, IsAccess}
use Rattle.t1_event.specs.Printable.{HasText}
use Rattle.t1_event.specs.Times.{IsPlaced}
use Rattle.t1_event.specs.declared.item.Item.{Item}
use Rattle.t1_event.specs.declared.item.ItemKind.{ItemKind}
use Rattle.t1_event.specs.declared.item.ItemKind.TheVariants.{Fetch, Load, Store, Atomic, Membar, Flush}
use Rattle.t1_event.specs.declared.item.How.{How}
use Rattle.t1_event.specs.declared.item.How.TheVariants as how
use Rattle.t1_log.specs.Hex.{hex_of}
use Rattle.t1_log.specs.Lines.{got_of, put_of, access_fields_of, fields_of_kind}
use Rattle.t1_log.specs.Log.{place_fields_of}
use Rattle.t1_line_forms.specs.Digits.{EndsDecimal}
use Rattle.t1_line_forms.specs.Fields.{Field, Word, Number, Hex, Size, Value, Leads}
use Rattle.t1_line_forms.specs.Forms.{IsForm, IsOneOf, IsPlace, item_forms}
use Rattle.t1_line_forms.specs.Words.{IsWord, ArePlaceWords}
use Rattle.t1_line_forms.specs.declared.field.Tail.TheVariants.{Place}
use Rattle.t1_line_forms.proofs.Numerals.{decimal_is, hex_is, value_is}

-- ---- where an access stands

number_ends : (n : ℕ) → IsWord n → Leads [] (Number ∷ []) (decimal n) []
number_ends n wide = (decimal n, [], (sym (append-nil (decimal n)), decimal_is n wide, tt), refl)

place_is : (place : How) → IsPlaced place → ArePlaceWords place → IsPlace (place_fields_of place)
unfolding place_fields_of
place_is how.Unplaced placed words = absurd placed
place_is (how.Forward time) placed words = inl (codes " F ", decimal time, (refl, refl, tt), number_ends time words)
place_is (how.Hit time) placed words = inr (inl (codes " H ", decimal time, (refl, refl, tt), number_ends time words))
place_is (how.Commit index seen) placed words =
    inr (inr (
      codes " M ",
      decimal index ++ (codes " " ++ decimal seen),
      (refl, refl, tt),
      (
        decimal index,
        codes " " ++ decimal seen,
        (refl, decimal_is index words.0, refl),
        (codes " ", decimal seen, (refl, refl, tt), number_ends seen words.1),
      ),
    ))

no_place : (place : How) → place ≡ how.Unplaced → place_fields_of place ≡ []
unfolding place_fields_of
no_place place e = ap place_fields_of e

-- ---- accesses

-- address and size, and then what the form has behind them
access : (name between : List ℕ) (more : List Field) (addr size : ℕ) (rest place : List ℕ) → IsWord size → EndsDecimal (between ++ rest) → Leads (decimal size) more rest place → IsPlace place
    → IsForm (record { fields = Word name ∷ Hex 10 ∷ Word (codes " ") ∷ Size ∷ Word between ∷ more; tail = Place }) (name ++ (hex_of 10 addr ++ (codes " " ++ (decimal size ++ (between ++ rest)))))
access name between more addr size rest place wide ends l is = record {
  rest = place;
  leads = (
    name,
    hex_of 10 addr ++ (codes " " ++ (decimal size ++ (between ++ rest))),
    (refl, refl, tt),
    (
      hex_of 10 addr,
      codes " " ++ (decimal size ++ (between ++ rest)),
      (refl, hex_is 10 addr (omega arith), tt),
      (
        codes " ",
        decimal size ++ (between ++ rest),
        (refl, refl, tt),
        (
          decimal size,
          between ++ rest,
          (refl, decimal_is size wide, ends),
          (between, rest, (refl, refl, tt), l),
        ),
      ),
    ),
  );
  ends = is;
}

got_is : (item : Item) → is_read item.kind ≡ true → got_of item ≡ hex_of (2 * item.size) item.got
unfolding got_of
got_is item e = rw e refl

no_got : (item : Item) → is_read item.kind ≡ false → got_of item ≡ codes "-"
unfolding got_of
no_got item e = rw e refl

put_is : (item : Item) → is_changing item.kind ≡ true → put_of item ≡ hex_of (2 * item.size) item.put
unfolding put_of
put_is item e = rw e refl

no_put : (item : Item) → is_changing item.kind ≡ false → put_of item ≡ codes "-"
unfolding put_of
no_put item e = rw e refl

-- the text of an access, its values known
access_text : (name : List ℕ) (item : Item) (got put place : List ℕ) → got_of item ≡ got → put_of item ≡ put
    → (name ++ access_fields_of item) ++ place ≡ name ++ (hex_of 10 item.addr ++ (codes " " ++ (decimal item.size ++ (codes " " ++ (got ++ (codes " " ++ (put ++ place)))))))
unfolding access_fields_of
access_text name item got put place g p = rw (g, p) (simp append_assoc)

-- a value got, and a dash or a value put
module _ (item : Item) (place : List ℕ) (some : 1 ≤ item.size) (wide : IsWord item.size) where
  got_and_dash : Leads (decimal item.size) (Value ∷ Word (codes " -") ∷ []) (hex_of (2 * item.size) item.got ++ (codes " -" ++ place)) place
  got_and_dash = (hex_of (2 * item.size) item.got, codes " -" ++ place, (refl, value_is item.size item.got some wide, tt), (codes " -", place, (refl, refl, tt), refl))

  got_and_put : Leads (decimal item.size) (Value ∷ Word (codes " ") ∷ Value ∷ []) (hex_of (2 * item.size) item.got ++ (codes " " ++ (hex_of (2 * item.size) item.put ++ place))) place
  got_and_put = (
    hex_of (2 * item.size) item.got,
    codes " " ++ (hex_of (2 * item.size) item.put ++ place),
    (refl, value_is item.size item.got some wide, tt),
    (
      codes " ",
      hex_of (2 * item.size) item.put ++ place,
      (refl, refl, tt),
      (hex_of (2 * item.size) item.put, place, (refl, value_is item.size item.put some wide, tt), refl),
    ),
  )

  put_alone : Leads (decimal item.size) (Value ∷ []) (hex_of (2 * item.size) item.put ++ place) place
  put_alone = (hex_of (2 * item.size) item.put, place, (refl, value_is item.size item.put some wide, tt), refl)

pub item_goes_on : (kind : ItemKind) (item : Item) → item.kind ≡ kind → HasText item → ArePlaceWords item.how → IsOneOf item_forms (fields_of_kind kind item ++ place_fields_of item.how)
unfolding fields_of_kind
item_goes_on Fetch item e text words =
    let is_one : IsAccess item.kind = ap is_access e in
    let wide : IsWord item.size = (let few = text.size is_one in omega (arith, few)) in
    let place : List ℕ = place_fields_of item.how in
    subst (IsOneOf item_forms) (sym (access_text (codes "fetch ") item _ _ place (got_is item (ap is_read e)) (no_put item (ap is_changing e))))
    (inl (access (codes "fetch ") (codes " ") _ item.addr item.size _ place wide refl (got_and_dash item place (text.some is_one) wide) (place_is item.how (text.placed is_one) words)))
item_goes_on Load item e text words =
    let is_one : IsAccess item.kind = ap is_access e in
    let wide : IsWord item.size = (let few = text.size is_one in omega (arith, few)) in
    let place : List ℕ = place_fields_of item.how in
    subst (IsOneOf item_forms) (sym (access_text (codes "load ") item _ _ place (got_is item (ap is_read e)) (no_put item (ap is_changing e))))
    (inr (inl (access (codes "load ") (codes " ") _ item.addr item.size _ place wide refl (got_and_dash item place (text.some is_one) wide) (place_is item.how (text.placed is_one) words))))
item_goes_on Store item e text words =
    let is_one : IsAccess item.kind = ap is_access e in
    let wide : IsWord item.size = (let few = text.size is_one in omega (arith, few)) in
    let place : List ℕ = place_fields_of item.how in
    subst (IsOneOf item_forms) (sym (access_text (codes "store ") item _ _ place (no_got item (ap is_read e)) (put_is item (ap is_changing e))))
    (inr (inr (inl (access (codes "store ") (codes " - ") _ item.addr item.size _ place wide refl (put_alone item place (text.some is_one) wide) (place_is item.how (text.placed is_one) words)))))
item_goes_on (Atomic true) item e text words =
    let is_one : IsAccess item.kind = ap is_access e in
    let wide : IsWord item.size = (let few = text.size is_one in omega (arith, few)) in
    let place : List ℕ = place_fields_of item.how in
    subst (IsOneOf item_forms) (sym (access_text (codes "atomic ") item _ _ place (got_is item (ap is_read e)) (put_is item (ap is_changing e))))
    (inr (inr (inr (inl (access (codes "atomic ") (codes " ") _ item.addr item.size _ place wide refl (got_and_put item place (text.some is_one) wide) (place_is item.how (text.placed is_one) words))))))
item_goes_on (Atomic false) item e text words =
    let is_one : IsAccess item.kind = ap is_access e in
    let wide : IsWord item.size = (let few = text.size is_one in omega (arith, few)) in
    let place : List ℕ = place_fields_of item.how in
    subst (IsOneOf item_forms) (sym (access_text (codes "atomic ") item _ _ place (got_is item (ap is_read e)) (no_put item (ap is_changing e))))
    (inr (inr (inr (inr (inl (access (codes "atomic ") (codes " ") _ item.addr item.size _ place wide refl (got_and_dash item place (text.some is_one) wide) (place_is item.how (text.placed is_one) words)))))))
item_goes_on Membar item e text words =
    let none = no_place item.how (text.unplaced (λ a. (let bad : true ≡ false = sym a ∙ ap is_access e in cc))) in
    inr (inr (inr (inr (inr (inl (record {
      rest = [];
      leads = (codes "membar ", hex_of 2 item.size ++ place_fields_of item.how, (refl, refl, tt), (hex_of 2 item.size, place_fields_of item.how, (refl, hex_is 2 item.size (omega arith), tt), none));
      ends = refl;
    }))))))
item_goes_on Flush item e text words =
    let none = no_place item.how (text.unplaced (λ a. (let bad : true ≡ false = sym a ∙ ap is_access e in cc))) in
    inr (inr (inr (inr (inr (inr (inl (record {
      rest = [];
      leads = (codes "flush", place_fields_of item.how, (refl, refl, tt), none);
      ends = refl;
    })))))))
