-- Two lists that ascend strictly and hold the same are one.
use Rattle.std.proofs.Common.{◌≡◌, ℕ, zero, suc, ◌<◌, List, [], ◌∷◌, Some, refl, sym, ap, ◌∙◌, arith}
use Rattle.std.specs.List.{slice_get}
use Rattle.std.proofs.lemmas.Option.{none-some, same_Some}
use Rattle.t1_event.specs.declared.item.Item.{Item}
use Rattle.t1_event.specs.declared.report.Place.{Place}
use Rattle.t1_event.specs.Order.{Act, place_of}
use Rattle.t1_event.specs.Keys.{IsKeyBelow, IsOrderByKeys}
use Rattle.t1_order.proofs.Places.{key_like, never_below_itself, not_both_below, AreAmong}

-- the places of acts, of which the first has the lesser key
record IsBelow (traces : List (List Item)) (p q : Place) : Type 0 where
  first : Act traces
  second : Act traces
  first_is : place_of first ≡ p
  second_is : place_of second ≡ q
  below : IsKeyBelow first second

never : (traces : List (List Item)) (p q : Place) → IsBelow traces p q → p ≡ q → ⊥
never traces p q b same =
    never_below_itself b.first (key_like b.first b.second b.first b.first b.below refl (b.second_is ∙ sym same ∙ sym b.first_is))

not_both : (traces : List (List Item)) (p q : Place) → IsBelow traces p q → IsBelow traces q p → ⊥
not_both traces p q b d =
    not_both_below b.first b.second b.below (key_like d.first d.second b.second b.first d.below (d.first_is ∙ sym b.second_is) (d.second_is ∙ sym b.first_is))

abbrev Ascends : List (List Item) → List Place → Type 0
Ascends traces xs = (j k : ℕ) (p q : Place) → j < k → slice_get xs j ≡ Some p → slice_get xs k ≡ Some q → IsBelow traces p q

later : (traces : List (List Item)) (x : Place) (xs : List Place) → Ascends traces (x ∷ xs) → Ascends traces xs
later traces x xs a = λ j k p q below d e. a (suc j) (suc k) p q (omega arith) d e

-- the first of two such lists is one place
same_first : (traces : List (List Item)) (x y : Place) (xs ys : List Place) → Ascends traces (x ∷ xs) → Ascends traces (y ∷ ys)
    → AreAmong (x ∷ xs) (y ∷ ys) → AreAmong (y ∷ ys) (x ∷ xs) → x ≡ y
same_first traces x y xs ys a b there back = by (there 0 x refl).0 (there 0 x refl).1 (back 0 y refl).0 (back 0 y refl).1
  where
    by : (j : ℕ) → slice_get (y ∷ ys) j ≡ Some x → (k : ℕ) → slice_get (x ∷ xs) k ≡ Some y → x ≡ y
    by zero d k e = sym (same_Some y x d)
    by (suc j) d zero e = same_Some x y e
    by (suc j) d (suc k) e = absurd (not_both traces x y (a 0 (suc k) x y (omega arith) refl e) (b 0 (suc j) y x (omega arith) refl d))

-- what is behind the first of the one is behind the first of the other
among_later : (traces : List (List Item)) (x y : Place) (xs ys : List Place) → Ascends traces (x ∷ xs) → x ≡ y → AreAmong (x ∷ xs) (y ∷ ys) → AreAmong xs ys
among_later traces x y xs ys a same there = λ k p e. by k p e (there (suc k) p e).0 (there (suc k) p e).1
  where
    by : (k : ℕ) (p : Place) → slice_get xs k ≡ Some p → (j : ℕ) → slice_get (y ∷ ys) j ≡ Some p → (i : ℕ) × (slice_get ys i ≡ Some p)
    by k p e zero d = absurd (never traces x p (a 0 (suc k) x p (omega arith) refl e) (same ∙ same_Some y p d))
    by k p e (suc j) d = (j, d)

one_list : (traces : List (List Item)) (xs ys : List Place) → Ascends traces xs → Ascends traces ys → AreAmong xs ys → AreAmong ys xs → xs ≡ ys
one_list traces [] [] a b there back = refl
one_list traces [] (y ∷ ys) a b there back = absurd (none-some y (back 0 y refl).1)
one_list traces (x ∷ xs) [] a b there back = absurd (none-some x (there 0 x refl).1)
one_list traces (x ∷ xs) (y ∷ ys) a b there back =
    let first = same_first traces x y xs ys a b there back in
    let rest = one_list traces xs ys (later traces x xs a) (later traces y ys b) (among_later traces x y xs ys a first there) (among_later traces y x ys xs b (sym first) back) in
    ap (λ z. z ∷ xs) first ∙ ap (λ zs. y ∷ zs) rest

ascends : (traces : List (List Item)) (order : List Place) → IsOrderByKeys traces order → Ascends traces order
ascends traces order o = λ j k p q below d e.
    let x = o.listing.only j p d in
    let y = o.listing.only k q e in
    record {
      first = x.0;
      second = y.0;
      first_is = x.2;
      second_is = y.2;
      below = o.ascends j k x.0 y.0 below (d ∙ ap Some (sym x.2)) (e ∙ ap Some (sym y.2));
    }

among : (traces : List (List Item)) (order other : List Place) → IsOrderByKeys traces order → IsOrderByKeys traces other → AreAmong order other
among traces order other o r = λ k p e.
    let x = o.listing.only k p e in
    let l = r.listing.all x.0 x.1 in
    (l.0, l.1 ∙ ap Some x.2)

pub orders_are_one : (traces : List (List Item)) (order other : List Place) → IsOrderByKeys traces order → IsOrderByKeys traces other → order ≡ other
orders_are_one traces order other o r =
    one_list traces order other (ascends traces order o) (ascends traces other r) (among traces order other o r) (among traces other order r o)
