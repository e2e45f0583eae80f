-- The order by keys: what stands before what.
use Rattle.std.proofs.Common.{◌≡◌, ℕ, ◌≤◌, inl, inr, List, Some, ap, sym, ◌∙◌, arith}
use Rattle.std.specs.List.{slice_get}
use Rattle.std.proofs.lemmas.Bool.{cases_order}
use Rattle.t1_event.specs.declared.item.Item.{Item}
use Rattle.t1_event.specs.declared.item.How.{How}
use Rattle.t1_event.specs.declared.item.How.TheVariants as how
use Rattle.t1_event.specs.declared.report.Place.{Place}
use Rattle.t1_event.specs.Kinds.{IsAccess}
use Rattle.t1_event.specs.Order.{Act, place_of, Earlier, Before}
use Rattle.t1_event.specs.Times.{at_of, done_of}
use Rattle.t1_event.specs.Keys.{major, IsKeyBelow, IsOrderByKeys}

-- the two stand at one place, so they are one item
pub same_item : {traces : List (List Item)} (x y : Act traces) → x.strand ≡ y.strand → x.number ≡ y.number → x.item ≡ y.item
same_item x y p q =
    let e : Some x.item ≡ Some y.item = cc (x.stands, y.stands) in cc

pub not_below_self : {traces : List (List Item)} (x y : Act traces) → x.strand ≡ y.strand → x.number ≡ y.number → IsKeyBelow x y → ⊥
not_below_self x y p q k =
    let m : major x.item.how ≡ major y.item.how = ap (λ (i : Item). major i.how) (same_item x y p q) in
    omega (arith, m, p, q, k)

pub not_both_below : {traces : List (List Item)} (x y : Act traces) → IsKeyBelow x y → IsKeyBelow y x → ⊥
not_both_below x y k l = omega arith

pub before_from_key : {traces : List (List Item)} (order : List Place) → IsOrderByKeys traces order
    → (x y : Act traces) → IsAccess x.item.kind → IsAccess y.item.kind → IsKeyBelow x y → Before order x y
before_from_key order o x y ax ay k =
    let fx = o.listing.all x ax in
    let fy = o.listing.all y ay in
    elim (cases_order fx.0 fy.0) [
      | inl e ↦
          let same : Some (place_of x) ≡ Some (place_of y) = sym fx.1 ∙ (ap (λ (n : ℕ). slice_get order n) e ∙ fy.1) in
          let places : place_of x ≡ place_of y = cc in
          absurd (not_below_self x y (ap (λ (p : Place). p.strand) places) (ap (λ (p : Place). p.item) places) k)
      | inr (inl l) ↦ record { first = fx.0; second = fy.0; ascends = l; at_first = fx.1; at_second = fy.1 }
      | inr (inr l) ↦ absurd (not_both_below x y k (o.ascends fy.0 fx.0 y x l fy.1 fx.1))
    ]

pub key_from_before : {traces : List (List Item)} (order : List Place) → IsOrderByKeys traces order
    → (x y : Act traces) → Before order x y → IsKeyBelow x y
key_from_before order o x y b = o.ascends b.first b.second x y b.ascends b.at_first b.at_second

-- ---- times

-- what is done by the time of a later access of its strand stands before it
abbrev pub SeenBeforeIndex : How → Type 0
SeenBeforeIndex (how.Commit n s) = s ≤ n
SeenBeforeIndex how.Unplaced = ⊥
SeenBeforeIndex (how.Forward t) = Unit {0}
SeenBeforeIndex (how.Hit t) = Unit {0}

pub major_from_done : (h k : How) → SeenBeforeIndex h → SeenBeforeIndex k → done_of h ≤ at_of k → major h ≤ major k
major_from_done how.Unplaced k a b l = absurd a
major_from_done (how.Forward t) how.Unplaced a b l = absurd b
major_from_done (how.Forward t) (how.Forward u) a b l = omega arith
major_from_done (how.Forward t) (how.Hit u) a b l = omega arith
major_from_done (how.Forward t) (how.Commit n s) a b l = omega arith
major_from_done (how.Hit t) how.Unplaced a b l = absurd b
major_from_done (how.Hit t) (how.Forward u) a b l = omega arith
major_from_done (how.Hit t) (how.Hit u) a b l = omega arith
major_from_done (how.Hit t) (how.Commit n s) a b l = omega arith
major_from_done (how.Commit m r) how.Unplaced a b l = absurd b
major_from_done (how.Commit m r) (how.Forward u) a b l = omega arith
major_from_done (how.Commit m r) (how.Hit u) a b l = omega arith
major_from_done (how.Commit m r) (how.Commit n s) a b l = omega arith

pub key_from_done : {traces : List (List Item)} (x y : Act traces) → Earlier x y
    → SeenBeforeIndex x.item.how → SeenBeforeIndex y.item.how → done_of x.item.how ≤ at_of y.item.how → IsKeyBelow x y
key_from_done x y e sx sy l =
    let m : major x.item.how ≤ major y.item.how = major_from_done x.item.how y.item.how sx sy l in
    elim (cases_order (major x.item.how) (major y.item.how)) [
      | inl e' ↦ inr (e', inr (e.strand, e.number))
      | inr (inl l') ↦ inl l'
      | inr (inr l') ↦ absurd (omega arith)
    ]
