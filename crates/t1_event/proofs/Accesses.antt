-- What `accesses_from` lists: each access of a strand once, in program order.
use Rattle.std.proofs.Common.{◌≡◌, ℕ, zero, suc, ◌+◌, ◌<◌, true, false, cond, List, [], ◌∷◌, ◌++◌, Some, refl, sym, ap, ◌∙◌, subst, inl, inr, arith}
use Rattle.std.proofs.lemmas.Bool.{cases_Bool}
use Rattle.std.proofs.lemmas.Option.{none-some, same_Some}
use Rattle.std.specs.List.{slice_get}
use Rattle.t1_event.specs.declared.item.Item.{Item}
use Rattle.t1_event.specs.declared.report.Place.{Place}
use Rattle.t1_event.specs.Kinds.{is_access, IsAccess}
use Rattle.t1_event.specs.ProgramOrder.{accesses_from}

abbrev pub place_at : ℕ → ℕ → Place
place_at strand number = record { strand = strand; item = number }

-- with an access in front, and with a barrier in front
with_access : (strand number : ℕ) (item : Item) (items : List Item) → is_access item.kind ≡ true
    → accesses_from strand number (item ∷ items) ≡ place_at strand number ∷ accesses_from strand (number + 1) items
unfolding accesses_from
with_access strand number item items e = ap (λ b. cond b (place_at strand number ∷ []) [] ++ accesses_from strand (number + 1) items) e

with_barrier : (strand number : ℕ) (item : Item) (items : List Item) → is_access item.kind ≡ false
    → accesses_from strand number (item ∷ items) ≡ accesses_from strand (number + 1) items
unfolding accesses_from
with_barrier strand number item items e = ap (λ b. cond b (place_at strand number ∷ []) [] ++ accesses_from strand (number + 1) items) e

-- an access of these items, and its place where they are numbered from a number on
pub record Entry (strand number : ℕ) (items : List Item) (p : Place) : Type 0 where
  pub index : ℕ
  pub item : Item
  pub stands : slice_get items index ≡ Some item
  pub access : IsAccess item.kind
  pub place : p ≡ place_at strand (number + index)

entry_later : (strand number : ℕ) (item : Item) (items : List Item) (p : Place) → Entry strand (number + 1) items p → Entry strand number (item ∷ items) p
entry_later strand number item items p l = record {
  index = suc l.index;
  item = l.item;
  stands = l.stands;
  access = l.access;
  place = let e : number + 1 + l.index ≡ number + suc l.index = omega arith in l.place ∙ ap (place_at strand) e;
}

entry_first : (strand number : ℕ) (item : Item) (items : List Item) (p : Place) (rest : List Place) → IsAccess item.kind
    → ((k : ℕ) → slice_get rest k ≡ Some p → Entry strand (number + 1) items p)
    → (k : ℕ) → slice_get (place_at strand number ∷ rest) k ≡ Some p → Entry strand number (item ∷ items) p
entry_first strand number item items p rest access later zero e = record {
  index = 0;
  item = item;
  stands = refl;
  access = access;
  place = let n : number ≡ number + 0 = omega arith in sym (same_Some (place_at strand number) p e) ∙ ap (place_at strand) n;
}
entry_first strand number item items p rest access later (suc k) e = entry_later strand number item items p (later k e)

-- each entry is the place of an access
pub entry_at : (strand number : ℕ) (items : List Item) (k : ℕ) (p : Place) → slice_get (accesses_from strand number items) k ≡ Some p → Entry strand number items p
unfolding accesses_from
entry_at strand number [] k p e = absurd (none-some p e)
entry_at strand number (item ∷ items) k p e =
    elim (cases_Bool (is_access item.kind)) [
      | inl access ↦
          let e' : slice_get (place_at strand number ∷ accesses_from strand (number + 1) items) k ≡ Some p =
          ap (λ ps. slice_get ps k) (sym (with_access strand number item items access)) ∙ e in
          entry_first strand number item items p (accesses_from strand (number + 1) items) access (λ j d. entry_at strand (number + 1) items j p d) k e'
      | inr barrier ↦
          let e' : slice_get (accesses_from strand (number + 1) items) k ≡ Some p = ap (λ ps. slice_get ps k) (sym (with_barrier strand number item items barrier)) ∙ e in
          entry_later strand number item items p (entry_at strand (number + 1) items k p e')
    ]

-- each access has an index in the list
pub index_of : (strand number : ℕ) (items : List Item) (index : ℕ) (item : Item) → slice_get items index ≡ Some item → IsAccess item.kind
    → (k : ℕ) × (slice_get (accesses_from strand number items) k ≡ Some (place_at strand (number + index)))
unfolding accesses_from
index_of strand number [] index x e access = absurd (none-some x e)
index_of strand number (item ∷ items) zero x e access =
    let same : is_access item.kind ≡ true = ap (λ (i : Item). is_access i.kind) (same_Some item x e) ∙ access in
    let n : number ≡ number + 0 = omega arith in
    (0, ap (λ ps. slice_get ps 0) (with_access strand number item items same) ∙ ap (λ m. Some (place_at strand m)) n)
index_of strand number (item ∷ items) (suc index) x e access =
    let later = index_of strand (number + 1) items index x e access in
    let n : number + 1 + index ≡ number + suc index = omega arith in
    let at : slice_get (accesses_from strand (number + 1) items) later.0 ≡ Some (place_at strand (number + suc index)) = later.1 ∙ ap (λ m. Some (place_at strand m)) n in
    elim (cases_Bool (is_access item.kind)) [
      | inl access' ↦ (suc later.0, ap (λ ps. slice_get ps (suc later.0)) (with_access strand number item items access') ∙ at)
      | inr barrier ↦ (later.0, ap (λ ps. slice_get ps later.0) (with_barrier strand number item items barrier) ∙ at)
    ]

-- the entries ascend by item
abbrev Ascends : List Place → Type 0
Ascends order = (j k : ℕ) (p q : Place) → j < k → slice_get order j ≡ Some p → slice_get order k ≡ Some q → p.item < q.item

from_below : (strand number : ℕ) (items : List Item) (k : ℕ) (q : Place) → slice_get (accesses_from strand (number + 1) items) k ≡ Some q → number < q.item
from_below strand number items k q e =
    let l = entry_at strand (number + 1) items k q e in
    let at : q.item ≡ number + 1 + l.index = ap (λ (p : Place). p.item) l.place in
    omega arith

ascends_with : (strand number : ℕ) (items : List Item) → Ascends (accesses_from strand (number + 1) items)
    → Ascends (place_at strand number ∷ accesses_from strand (number + 1) items)
ascends_with strand number items later j zero p q l d e = absurd (omega arith)
ascends_with strand number items later zero (suc k) p q l d e =
    let at : number ≡ p.item = ap (λ (x : Place). x.item) (same_Some (place_at strand number) p d) in
    omega (arith, from_below strand number items k q e)
ascends_with strand number items later (suc j) (suc k) p q l d e = later j k p q (omega arith) d e

pub entries_ascend : (strand number : ℕ) (items : List Item) → Ascends (accesses_from strand number items)
unfolding accesses_from
entries_ascend strand number [] = λ j k p q below d e. absurd (none-some p d)
entries_ascend strand number (item ∷ items) =
    elim (cases_Bool (is_access item.kind)) [
      | inl access' ↦ subst Ascends (sym (with_access strand number item items access')) (ascends_with strand number items (entries_ascend strand (number + 1) items))
      | inr barrier ↦ subst Ascends (sym (with_barrier strand number item items barrier)) (entries_ascend strand (number + 1) items)
    ]
