-- The examples are allowed.
use Rattle.std.proofs.Common.{ℕ, ◌≡◌, Bool, false, [], ◌∷◌, refl, sym, subst, inl, inr, arith}
use Rattle.t1_num.specs.declared.chip.ChipKind.TheVariants.{T1, T2}
use Rattle.t1_event.specs.declared.item.Item.{Item}
use Rattle.t1_event.specs.Items.{fetch_item, store_item}
use Rattle.t1_joint.specs.Lists.{IsIn}
use Rattle.t1_joint.specs.Waits.{HasItem}
use Rattle.t1_strand_order.specs.Tracks.{begun}
use Rattle.t1_strand_order.specs.Allowed.{AreAllowed}
use Rattle.t1_strand_order.specs.Laws.{one_destination, HistoriesAre}
use Rattle.t1_strand_order.specs.Example.{example, two_stores}
use Rattle.t1_strand_order.proofs.Items.{one_item, not_true}

example_is_allowed : (apart : ℕ → ℕ → Bool) → AreAllowed apart (begun 0) example
example_is_allowed apart = (
  record { kind = refl; how = refl; room = omega arith; free = refl },
  (
    record { out = []; number = 0; behind = []; are = refl; sent = refl; together = λ i x y h. absurd h },
    (
      record { read = refl; empty = inl not_true },
      (
        record { number = 0; waiting = []; seen = 0; sent = []; waits = refl; times = refl; late = omega arith },
        (record { asked = record { item = fetch_item 0 0; seen = 0 }; is = refl; kind = refl; addr = refl; size = refl; how = refl; late = omega arith }, tt),
      ),
    ),
  ),
)

-- the first store is out, and the second goes where it goes
together : (i : ℕ) (x y : Item) → IsIn i (0 ∷ []) → HasItem (store_item 64 8 5 ∷ store_item 72 8 6 ∷ []) i x → HasItem (store_item 64 8 5 ∷ store_item 72 8 6 ∷ []) 1 y
    → one_destination T1 x.addr y.addr ≡ false
together i x y (inl e) has_x has_y =
    let x_is : store_item 64 8 5 ≡ x = one_item (store_item 64 8 5 ∷ store_item 72 8 6 ∷ []) i (store_item 64 8 5) x (subst (λ (n : ℕ). HasItem (store_item 64 8 5 ∷ store_item 72 8 6 ∷ []) n (store_item 64 8 5)) (sym e) refl) has_x in
    let y_is : store_item 72 8 6 ≡ y = one_item (store_item 64 8 5 ∷ store_item 72 8 6 ∷ []) 1 (store_item 72 8 6) y refl has_y in
    subst (λ (v : Item). one_destination T1 v.addr y.addr ≡ false) x_is (subst (λ (v : Item). one_destination T1 64 v.addr ≡ false) y_is refl)
together i x y (inr h) has_x has_y = absurd h

two_stores_are_allowed : AreAllowed (one_destination T1) (begun 0) two_stores
two_stores_are_allowed = (
  record { kind = refl; how = refl; room = omega arith; free = refl },
  (
    record { kind = refl; how = refl; room = omega arith; free = refl },
    (
      record { out = []; number = 0; behind = 1 ∷ []; are = refl; sent = refl; together = λ i x y h. absurd h },
      (
        record { out = 0 ∷ []; number = 1; behind = []; are = refl; sent = refl; together = together },
        (
          record { number = 0; waiting = 1 ∷ []; seen = 0; sent = 0 ∷ []; waits = refl; times = refl; late = omega arith },
          (record { number = 1; waiting = []; seen = 0; sent = []; waits = refl; times = refl; late = omega arith }, tt),
        ),
      ),
    ),
  ),
)

pub histories_are : HistoriesAre
histories_are = (example_is_allowed, two_stores_are_allowed)
