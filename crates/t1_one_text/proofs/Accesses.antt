-- The fields of accesses are cut in one way.
use Rattle.std.proofs.Common.{◌≡◌, ℕ, ◌^◌, ◌≤◌, true, List, ◌++◌, drop, codes, refl, sym, ap, ◌∙◌, append_assoc, arith}
use Rattle.t1_event.specs.declared.item.Item.{Item}
use Rattle.t1_event.specs.declared.item.How.{How}
use Rattle.t1_event.specs.declared.item.How.TheVariants as how
use Rattle.t1_event.specs.Kinds.{is_read, is_changing, IsAccess}
use Rattle.t1_log.specs.Lines.{got_of, put_of, access_fields_of}
use Rattle.t1_log.specs.Log.{place_fields_of}
use Rattle.t1_take.specs.Fields.{access_line_of}
use Rattle.t1_take.specs.Items.{IsPlaceOf, IsGoodItem}
use Rattle.t1_take.proofs.ItemsFound.{IsAccessFound, access_fields}
use Rattle.t1_one_text.proofs.Fields.{letter, decimal_cut, number_cut, digits_cut, value_of, SameValues, values_cut}

-- ---- places

places_cut : (h k : How) (x y : List ℕ) → IsPlaceOf true h → IsPlaceOf true k → place_fields_of h ++ (codes "\n" ++ x) ≡ place_fields_of k ++ (codes "\n" ++ y) → (h ≡ k) × (x ≡ y)
unfolding place_fields_of
places_cut how.Unplaced k x y p q e = absurd p
places_cut (how.Forward t) how.Unplaced x y p q e = absurd q
places_cut (how.Hit t) how.Unplaced x y p q e = absurd q
places_cut (how.Commit index seen) how.Unplaced x y p q e = absurd q
places_cut (how.Forward t) (how.Forward u) x y p q e = (let cut = decimal_cut t u _ _ (omega (arith, p)) (omega (arith, q)) refl refl (ap (drop 3) e) in (ap how.Forward cut.0, ap (drop 1) cut.1))
places_cut (how.Hit t) (how.Hit u) x y p q e = (let cut = decimal_cut t u _ _ (omega (arith, p)) (omega (arith, q)) refl refl (ap (drop 3) e) in (ap how.Hit cut.0, ap (drop 1) cut.1))
places_cut (how.Commit i s) (how.Commit j t) x y p q e =
    let index = number_cut i j _ _ _ _ (omega (arith, p.0)) (omega (arith, q.0)) refl refl (ap (drop 3) e) in
    let seen = decimal_cut s t _ _ (omega (arith, p.1)) (omega (arith, q.1)) refl refl (ap (drop 1) index.1) in
    (λ n. how.Commit (index.0 n) (seen.0 n), ap (drop 1) seen.1)
places_cut (how.Forward t) (how.Hit u) x y p q e = absurd (let l : 70 ≡ 72 = letter 1 e in omega (arith, l))
places_cut (how.Forward t) (how.Commit j s) x y p q e = absurd (let l : 70 ≡ 77 = letter 1 e in omega (arith, l))
places_cut (how.Hit t) (how.Forward u) x y p q e = absurd (let l : 72 ≡ 70 = letter 1 e in omega (arith, l))
places_cut (how.Hit t) (how.Commit j s) x y p q e = absurd (let l : 72 ≡ 77 = letter 1 e in omega (arith, l))
places_cut (how.Commit i s) (how.Forward u) x y p q e = absurd (let l : 77 ≡ 70 = letter 1 e in omega (arith, l))
places_cut (how.Commit i s) (how.Hit u) x y p q e = absurd (let l : 77 ≡ 72 = letter 1 e in omega (arith, l))

-- ---- accesses

pub record SameAccess (a b : Item) (x y : List ℕ) : Type 0 where
  pub addr : a.addr ≡ b.addr
  pub size : a.size ≡ b.size
  pub got : a.got ≡ b.got
  pub put : SameValues (is_changing a.kind) (is_changing b.kind) a.put b.put x y

access_cut : (a b : Item) (x y : List ℕ) → IsAccessFound (is_read a.kind) (is_changing a.kind) a → IsAccessFound (is_read b.kind) (is_changing b.kind) b
    → access_fields_of a ++ x ≡ access_fields_of b ++ y → SameAccess a b x y
unfolding access_fields_of got_of put_of
access_cut a b x y f g e =
    let few = f.few in
    let less = g.few in
    let addr = digits_cut 10 a.addr b.addr _ _ _ _ f.fields.addr g.fields.addr e in
    let size = number_cut a.size b.size _ _ _ _ (omega (arith, few)) (omega (arith, less)) refl refl (ap (drop 1) addr.1) in
    let got = values_cut (is_read a.kind) (is_read b.kind) a.size b.size a.got b.got _ _ size.0 f.some (f.fields.got few) (g.fields.got less)
    (sym (append_assoc (value_of (is_read a.kind) a.size a.got) (codes " " ++ value_of (is_changing a.kind) a.size a.put) x)
    ∙ (ap (drop 1) size.1 ∙ append_assoc (value_of (is_read b.kind) b.size b.got) (codes " " ++ value_of (is_changing b.kind) b.size b.put) y)) in
    record {
      addr = addr.0;
      size = size.0;
      got = got.value;
      put = values_cut (is_changing a.kind) (is_changing b.kind) a.size b.size a.put b.put x y size.0 f.some (f.fields.put few) (g.fields.put less) (ap (drop 1) got.rest);
    }

-- accesses whose kinds are one, where they both write or not
pub access_same : (ram : ℕ) (a b : Item) (x y : List ℕ) → ram ≤ 2 ^ 40 → IsGoodItem ram a → IsGoodItem ram b → IsAccess a.kind → IsAccess b.kind → (is_changing a.kind ≡ is_changing b.kind → a.kind ≡ b.kind)
    → access_line_of a ++ x ≡ access_line_of b ++ y → (a ≡ b) × (x ≡ y)
access_same ram a b x y small f g p q kind e =
    let found = access_fields ram a (is_read a.kind) (is_changing a.kind) small f p refl refl in
    let other = access_fields ram b (is_read b.kind) (is_changing b.kind) small g q refl refl in
    let same = access_cut a b ((place_fields_of a.how ++ codes "\n") ++ x) ((place_fields_of b.how ++ codes "\n") ++ y) found other
    (sym (append_assoc (access_fields_of a) (place_fields_of a.how ++ codes "\n") x) ∙ (e ∙ append_assoc (access_fields_of b) (place_fields_of b.how ++ codes "\n") y)) in
    let place = places_cut a.how b.how x y found.fields.place other.fields.place
    (sym (append_assoc (place_fields_of a.how) (codes "\n") x) ∙ (same.put.rest ∙ append_assoc (place_fields_of b.how) (codes "\n") y)) in
    let k = kind same.put.has in
    (λ i. record { kind = k i; addr = same.addr i; size = same.size i; got = same.got i; put = same.put.value i; how = place.0 i }, place.1)
