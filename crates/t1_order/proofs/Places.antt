-- Places of accesses: a place names one access, and a list of places that differ is no longer than the
-- accesses are many.
use Rattle.std.proofs.Common.{◌≡◌, ◌≢◌, ℕ, zero, suc, ◌+◌, ◌<◌, ◌≤◌, ◌⊎◌, Bool, true, false, cond, List, [], ◌∷◌, ◌++◌, length, get_or, Some, refl, sym, ap, ◌∙◌, subst, inl, inr, arith, length-append}
use Rattle.std.specs.List.{slice_get, count_by}
use Rattle.std.proofs.lemmas.Option.{none-some, same_Some, slice_get_within}
use Rattle.std.proofs.lemmas.List.Sums.{sum_by-cons}
use Rattle.t1_event.specs.declared.item.Item.{Item}
use Rattle.t1_event.specs.declared.report.Place.{Place}
use Rattle.t1_event.specs.Kinds.{is_access, IsAccess}
use Rattle.t1_event.specs.Order.{Act, place_of}
use Rattle.t1_event.specs.Keys.{major, IsKeyBelow}
use Rattle.t1_event.specs.ProgramOrder.{accesses_from}
use Rattle.t1_event.proofs.Accesses.{place_at, index_of}
use Rattle.t1_order.specs.Orderable.{accesses_in}

-- ---- acts of one place

pub same_item : {traces : List (List Item)} (x y : Act traces) → place_of x ≡ place_of y → x.item ≡ y.item
same_item {traces} x y e =
    let strand : x.strand ≡ y.strand = ap (λ (p : Place). p.strand) e in
    let number : x.number ≡ y.number = ap (λ (p : Place). p.item) e in
    same_Some x.item y.item (sym x.stands ∙ ap (λ s. slice_get (get_or traces s []) x.number) strand ∙ ap (λ n. slice_get (get_or traces y.strand []) n) number ∙ y.stands)

pub same_place : {traces : List (List Item)} (x y : Act traces) → x.strand ≡ y.strand → x.number ≡ y.number → place_of x ≡ place_of y
same_place x y strand number = ap (λ s. place_at s x.number) strand ∙ ap (λ n. place_at y.strand n) number

pub key_like : {traces : List (List Item)} (x y u v : Act traces) → IsKeyBelow x y → place_of x ≡ place_of u → place_of y ≡ place_of v → IsKeyBelow u v
key_like x y u v below first second =
    let a : major x.item.how ≡ major u.item.how = ap (λ (i : Item). major i.how) (same_item x u first) in
    let b : major y.item.how ≡ major v.item.how = ap (λ (i : Item). major i.how) (same_item y v second) in
    let s : x.strand ≡ u.strand = ap (λ (p : Place). p.strand) first in
    let t : y.strand ≡ v.strand = ap (λ (p : Place). p.strand) second in
    let m : x.number ≡ u.number = ap (λ (p : Place). p.item) first in
    let n : y.number ≡ v.number = ap (λ (p : Place). p.item) second in
    elim below [
      | inl major ↦ inl (omega (arith, major, a, b))
      | inr same ↦ inr (
        omega (arith, same.0, a, b),
        elim same.1 [ inl strand ↦ inl (omega (arith, strand, s, t)) | inr number ↦ inr (omega (arith, number.0, s, t), omega (arith, number.1, m, n)) ],
      )
    ]

pub never_below_itself : {traces : List (List Item)} (x : Act traces) → IsKeyBelow x x → ⊥
never_below_itself x below =
    elim below [
      | inl major ↦ omega (arith, major)
      | inr same ↦ elim same.1 [ inl strand ↦ omega (arith, strand) | inr number ↦ omega (arith, number.1) ]
    ]

pub not_both_below : {traces : List (List Item)} (x y : Act traces) → IsKeyBelow x y → IsKeyBelow y x → ⊥
not_both_below x y below above =
    elim below [
      | inl a ↦ elim above [ inl b ↦ omega (arith, a, b) | inr b ↦ omega (arith, a, b.0) ]
      | inr a ↦ elim above [
        | inl b ↦ omega (arith, a.0, b)
        | inr b ↦ elim a.1 [
          | inl s ↦ elim b.1 [ inl t ↦ omega (arith, s, t) | inr t ↦ omega (arith, s, t.0) ]
          | inr s ↦ elim b.1 [ inl t ↦ omega (arith, s.0, t) | inr t ↦ omega (arith, s.1, t.1) ]
        ]
      ]
    ]

-- ---- one place more

pub pushed : (xs : List Place) (p : Place) (k : ℕ) (q : Place) → slice_get (xs ++ p ∷ []) k ≡ Some q
    → ((k < length xs) × (slice_get xs k ≡ Some q)) ⊎ ((k ≡ length xs) × (p ≡ q))
pushed [] p zero q e = inr (refl, same_Some p q e)
pushed [] p (suc k) q e = absurd (none-some q e)
pushed (x ∷ xs) p zero q e = inl (omega arith, e)
pushed (x ∷ xs) p (suc k) q e = elim (pushed xs p k q e) [ inl l ↦ inl (omega (arith, l.0), l.1) | inr r ↦ inr (omega (arith, r.0), r.1) ]

pub stays : (xs : List Place) (p : Place) (k : ℕ) (q : Place) → slice_get xs k ≡ Some q → slice_get (xs ++ p ∷ []) k ≡ Some q
stays [] p k q e = absurd (none-some q e)
stays (x ∷ xs) p zero q e = e
stays (x ∷ xs) p (suc k) q e = stays xs p k q e

pub last_is : (xs : List Place) (p : Place) → slice_get (xs ++ p ∷ []) (length xs) ≡ Some p
last_is [] p = refl
last_is (x ∷ xs) p = last_is xs p

-- ---- places that differ are no more than the places that there are

without : ℕ → List Place → List Place
without j [] = []
without zero (y ∷ ys) = ys
without (suc j) (y ∷ ys) = y ∷ without j ys

length_without : (j : ℕ) (ys : List Place) → j < length ys → length (without j ys) + 1 ≡ length ys
unfolding without
length_without j [] small = absurd (omega arith)
length_without zero (y ∷ ys) small = omega arith
length_without (suc j) (y ∷ ys) small = let e = length_without j ys (omega arith) in omega (arith, e)

left_without : (j : ℕ) (ys : List Place) (i : ℕ) (p : Place) → i ≢ j → slice_get ys i ≡ Some p → (k : ℕ) × (slice_get (without j ys) k ≡ Some p)
unfolding without
left_without j [] i p other e = absurd (none-some p e)
left_without zero (y ∷ ys) zero p other e = absurd (other refl)
left_without zero (y ∷ ys) (suc i) p other e = (i, e)
left_without (suc j) (y ∷ ys) zero p other e = (0, e)
left_without (suc j) (y ∷ ys) (suc i) p other e =
    let l = left_without j ys i p (λ same. other (ap suc same)) e in
    (suc l.0, l.1)

abbrev pub StandOnce : List Place → Type 0
StandOnce xs = (j k : ℕ) (p : Place) → slice_get xs j ≡ Some p → slice_get xs k ≡ Some p → j ≡ k

abbrev pub AreAmong : List Place → List Place → Type 0
AreAmong xs ys = (k : ℕ) (p : Place) → slice_get xs k ≡ Some p → (j : ℕ) × (slice_get ys j ≡ Some p)

no_more_than : (xs ys : List Place) → StandOnce xs → AreAmong xs ys → length xs ≤ length ys
no_more_than [] ys once among = omega arith
no_more_than (x ∷ xs) ys once among =
    let at = among 0 x refl in
    let short = length_without at.0 ys (slice_get_within ys at.0 x at.1) in
    let few = no_more_than xs (without at.0 ys) (λ j k p d e. let same = once (suc j) (suc k) p d e in omega (arith, same)) (λ k p e.
    let l = among (suc k) p e in
    left_without at.0 ys l.0 p (λ same.
    let first : x ≡ p = same_Some x p (sym at.1 ∙ ap (λ n. slice_get ys n) (sym same) ∙ l.1) in
    let zero_is = once 0 (suc k) p (ap Some first) e in
    omega (arith, zero_is)) l.1) in
    omega (arith, short, few)

-- ---- the places of all accesses, of strands from a number on

all_places : ℕ → List (List Item) → List Place
all_places strand [] = []
all_places strand (items ∷ traces) = accesses_from strand 0 items ++ all_places (strand + 1) traces

length_accesses : (strand number : ℕ) (items : List Item) → length (accesses_from strand number items) ≡ count_by (λ (item : Item). is_access item.kind) items
unfolding accesses_from
length_accesses strand number [] = refl
length_accesses strand number (item ∷ items) =
    by (is_access item.kind)
    ∙ (ap (λ n. cond (is_access item.kind) 1 0 + n) (length_accesses strand (number + 1) items)
    ∙ sym (sum_by-cons (λ (i : Item). cond (is_access i.kind) 1 0) item items))
  where
    by : (b : Bool) → length (cond b (place_at strand number ∷ []) [] ++ accesses_from strand (number + 1) items) ≡ cond b 1 0 + length (accesses_from strand (number + 1) items)
    by true = omega arith
    by false = omega arith

length_all : (strand : ℕ) (traces : List (List Item)) → length (all_places strand traces) ≡ accesses_in traces
unfolding all_places
length_all strand [] = refl
length_all strand (items ∷ traces) =
    length-append (accesses_from strand 0 items) (all_places (strand + 1) traces)
    ∙ (ap (λ n. n + length (all_places (strand + 1) traces)) (length_accesses strand 0 items)
    ∙ (ap (λ n. count_by (λ (item : Item). is_access item.kind) items + n) (length_all (strand + 1) traces)
    ∙ sym (sum_by-cons (λ items. count_by (λ (item : Item). is_access item.kind) items) items traces)))

in_front : (xs ys : List Place) (k : ℕ) (p : Place) → slice_get xs k ≡ Some p → slice_get (xs ++ ys) k ≡ Some p
in_front [] ys k p e = absurd (none-some p e)
in_front (x ∷ xs) ys zero p e = e
in_front (x ∷ xs) ys (suc k) p e = in_front xs ys k p e

behind : (xs ys : List Place) (k : ℕ) (p : Place) → slice_get ys k ≡ Some p → (j : ℕ) × (slice_get (xs ++ ys) j ≡ Some p)
behind [] ys k p e = (k, e)
behind (x ∷ xs) ys k p e = let l = behind xs ys k p e in (suc l.0, l.1)

in_all : (first : ℕ) (traces : List (List Item)) (strand number : ℕ) (item : Item) → slice_get (get_or traces strand []) number ≡ Some item
    → IsAccess item.kind → (k : ℕ) × (slice_get (all_places first traces) k ≡ Some (place_at (first + strand) number))
unfolding all_places
in_all first [] strand number item e access = absurd (none-some item e)
in_all first (items ∷ traces) zero number item e access =
    let l = index_of first 0 items number item e access in
    let n : first ≡ first + 0 = omega arith in
    let m : 0 + number ≡ number = omega arith in
    (l.0, in_front (accesses_from first 0 items) (all_places (first + 1) traces) l.0 (place_at (first + 0) number) (l.1 ∙ ap (λ s. Some (place_at s (0 + number))) n ∙ ap (λ k. Some (place_at (first + 0) k)) m))
in_all first (items ∷ traces) (suc strand) number item e access =
    let l = in_all (first + 1) traces strand number item e access in
    let n : first + 1 + strand ≡ first + suc strand = omega arith in
    behind (accesses_from first 0 items) (all_places (first + 1) traces) l.0 (place_at (first + suc strand) number) (l.1 ∙ ap (λ s. Some (place_at s number)) n)

-- places of accesses that differ are no more than the accesses
pub few_places : (traces : List (List Item)) (order : List Place) → StandOnce order
    → ((k : ℕ) (p : Place) → slice_get order k ≡ Some p → (x : Act traces) × IsAccess x.item.kind × (place_of x ≡ p))
    → length order ≤ accesses_in traces
few_places traces order once only =
    subst (λ n. length order ≤ n) (length_all 0 traces) (no_more_than order (all_places 0 traces) once (λ k p e.
    let o = only k p e in
    let x = o.0 in
    let l = in_all 0 traces x.strand x.number x.item x.stands o.1 in
    let n : 0 + x.strand ≡ x.strand = omega arith in
    (l.0, l.1 ∙ ap (λ s. Some (place_at s x.number)) n ∙ ap Some o.2)))
