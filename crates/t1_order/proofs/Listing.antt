-- What is listed so far: it ascends by keys, and is below all that is left.
use Rattle.std.proofs.Common.{◌≡◌, ℕ, ◌+◌, ◌<◌, ◌≤◌, List, [], ◌∷◌, ◌++◌, length, Some, refl, sym, ap, ◌∙◌, inl, inr, arith, append_assoc, length-append}
use Rattle.std.specs.List.{slice_get}
use Rattle.std.proofs.lemmas.Bool.{cases_lt}
use Rattle.std.proofs.lemmas.List.{append-nil}
use Rattle.std.proofs.lemmas.Option.{none-some}
use Rattle.t1_event.specs.declared.item.Item.{Item}
use Rattle.t1_event.specs.declared.report.Place.{Place}
use Rattle.t1_event.specs.Kinds.{IsAccess}
use Rattle.t1_event.specs.Order.{Act, place_of}
use Rattle.t1_event.specs.Keys.{IsKeyBelow, IsOrderByKeys}
use Rattle.t1_order.specs.declared.merge.Rest.{Rest}
use Rattle.t1_order.specs.Orderable.{accesses_in, GrowsByOrder}
use Rattle.t1_order.specs.Merge.{IsListed, IsNoneListed, AreAllListed, IsNextPlace}
use Rattle.t1_order.proofs.Places.{key_like, never_below_itself, pushed, stays, last_is, StandOnce, few_places}

pub record IsSoFar (traces : List (List Item)) (rest : Rest) (order : List Place) : Type 0 where
  pub all : (x : Act traces) → IsAccess x.item.kind → IsListed rest x → (k : ℕ) × (slice_get order k ≡ Some (place_of x))
  pub only : (k : ℕ) (p : Place) → slice_get order k ≡ Some p → (x : Act traces) × IsAccess x.item.kind × IsListed rest x × (place_of x ≡ p)
  pub ascends : (j k : ℕ) (x y : Act traces) → j < k → slice_get order j ≡ Some (place_of x) → slice_get order k ≡ Some (place_of y) → IsKeyBelow x y
  pub below : (x y : Act traces) → IsAccess x.item.kind → IsAccess y.item.kind → IsListed rest x → (IsListed rest y → ⊥) → IsKeyBelow x y

pub nothing_so_far : (traces : List (List Item)) (rest : Rest) → IsNoneListed traces rest → IsSoFar traces rest []
nothing_so_far traces rest none = record {
  all = λ x access listed. absurd (none x access listed);
  only = λ k p e. absurd (none-some p e);
  ascends = λ j k x y below d e. absurd (none-some (place_of x) d);
  below = λ x y a b listed left. absurd (none x a listed);
}

-- the next place is appended
pub one_more : (traces : List (List Item)) (before after : Rest) (order : List Place) (place : Place) → IsSoFar traces before order
    → IsNextPlace traces before after place → IsSoFar traces after (order ++ place ∷ [])
one_more traces before after order place s n = record {
  all = λ x access listed. elim ((n.listed x access).0 listed) [
    | inl old ↦ let l = s.all x access old in (l.0, stays order place l.0 (place_of x) l.1)
    | inr same ↦ (length order, last_is order place ∙ ap Some (sym (same ∙ n.place_is)))
  ];
  only = λ k p e. elim (pushed order place k p e) [
    | inl old ↦ let o = s.only k p old.1 in (o.0, o.1, (n.listed o.0 o.1).1 (inl o.2), o.3)
    | inr new ↦ (n.act, n.access, (n.listed n.act n.access).1 (inr refl), n.place_is ∙ new.1)
  ];
  ascends = λ j k x y low d e. elim (pushed order place k (place_of y) e) [
    | inl old ↦ elim (pushed order place j (place_of x) d) [
      | inl older ↦ s.ascends j k x y low older.1 old.1
      | inr last ↦ absurd (omega (arith, low, old.0, last.0))
    ]
    | inr new ↦ elim (pushed order place j (place_of x) d) [
      | inl older ↦
          let o = s.only j (place_of x) older.1 in
          key_like o.0 n.act x y (s.below o.0 n.act o.1 n.access o.2 n.was_left) o.3 (n.place_is ∙ new.1)
      | inr last ↦ absurd (omega (arith, low, new.0, last.0))
    ]
  ];
  below = λ x y a b listed left.
      let was_left : IsListed before y → ⊥ = λ l. left ((n.listed y b).1 (inl l)) in
      elim ((n.listed x a).0 listed) [
        | inl old ↦ s.below x y a b old was_left
        | inr same ↦ elim (n.least y b was_left) [
          | inl this ↦ absurd (left ((n.listed y b).1 (inr this)))
          | inr above ↦ key_like n.act y x y above (sym same) refl
        ]
      ];
}

once : (traces : List (List Item)) (rest : Rest) (order : List Place) → IsSoFar traces rest order → StandOnce order
once traces rest order s = λ j k p d e.
    let x = (s.only j p d).0 in
    let d' = d ∙ ap Some (sym (s.only j p d).3) in
    let e' = e ∙ ap Some (sym (s.only j p d).3) in
    elim (cases_lt j k) [
      | inl low ↦ absurd (never_below_itself x (s.ascends j k x x low d' e'))
      | inr high ↦ elim (cases_lt k j) [ inl low ↦ absurd (never_below_itself x (s.ascends k j x x low e' d')) | inr same ↦ omega (arith, high, same) ]
    ]

-- there are no more places than accesses
pub few_so_far : (traces : List (List Item)) (rest : Rest) (order : List Place) → IsSoFar traces rest order → length order ≤ accesses_in traces
few_so_far traces rest order s = few_places traces order (once traces rest order s) (λ k p e. let o = s.only k p e in (o.0, o.1, o.3))

-- once all is listed
pub all_so_far : (traces : List (List Item)) (rest : Rest) (order : List Place) → AreAllListed traces rest → IsSoFar traces rest order → IsOrderByKeys traces order
all_so_far traces rest order all s = record {
  listing = record {
    all = λ x access. s.all x access (all x access);
    only = λ k p e. let o = s.only k p e in (o.0, o.1, o.3);
    once = once traces rest order s;
  };
  ascends = s.ascends;
}

-- the list that the merge appends to: what stood before, and the order so far
pub record IsOrderSoFar (traces : List (List Item)) (rest : Rest) (before out : List Place) : Type 0 where
  pub order : List Place
  pub grows : out ≡ before ++ order
  pub so_far : IsSoFar traces rest order

pub starts : (traces : List (List Item)) (rest : Rest) (before : List Place) → IsNoneListed traces rest → IsOrderSoFar traces rest before before
starts traces rest before none = record { order = []; grows = sym (append-nil before); so_far = nothing_so_far traces rest none }

pub goes_on : (traces : List (List Item)) (rest after : Rest) (before out : List Place) (place : Place) → IsOrderSoFar traces rest before out
    → IsNextPlace traces rest after place → IsOrderSoFar traces after before (out ++ place ∷ [])
goes_on traces rest after before out place s n = record {
  order = s.order ++ place ∷ [];
  grows = ap (λ xs. xs ++ place ∷ []) s.grows ∙ append_assoc before s.order (place ∷ []);
  so_far = one_more traces rest after s.order place s.so_far n;
}

-- there is room for the next place, where there is for all accesses
pub has_room : (traces : List (List Item)) (rest after : Rest) (before out : List Place) (place : Place) (room : ℕ) → IsOrderSoFar traces rest before out
    → IsNextPlace traces rest after place → length before + accesses_in traces ≤ room → length out < room
has_room traces rest after before out place room s n fits =
    let few = few_so_far traces after (s.order ++ place ∷ []) (one_more traces rest after s.order place s.so_far n) in
    let more = length-append s.order (place ∷ []) in
    let all : length out ≡ length before + length s.order = ap length s.grows ∙ length-append before s.order in
    omega (arith, few, more, all, fits)

pub ends : (traces : List (List Item)) (rest : Rest) (before out : List Place) → IsOrderSoFar traces rest before out → AreAllListed traces rest
    → GrowsByOrder traces before out
ends traces rest before out s all = record { order = s.order; grows = s.grows; by_keys = all_so_far traces rest s.order all s.so_far }
