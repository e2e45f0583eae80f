-- What an item asks of the positions of later ones, and of what earlier ones ask.
use Rattle.std.specs.Prelude.{ℕ, zero, suc, ◌≡◌, ◌<◌, ◌-◌, ◌^◌, ◌==◌, max, not, bit_and, List, Bool, true, false, if◌then◌else◌}
use Rattle.std.proofs.Common.{get_or}
use Rattle.t1_event.specs.declared.item.Item.{Item}
use Rattle.t1_event.specs.declared.item.ItemKind.{ItemKind}
use Rattle.t1_event.specs.declared.item.ItemKind.TheVariants.{Fetch, Load, Store, Atomic, Membar, Flush}
use Rattle.t1_event.specs.Kinds.{is_read, is_write, is_access}
use Rattle.t1_check.specs.declared.rules.Rule.{Rule}
use Rattle.t1_check.specs.declared.rules.Rule.TheVariants.{LoadOp, StoreStore, Barrier}
use Rattle.t1_check.specs.Positions.{item_of}

abbrev pub is_fetch : ItemKind → Bool
is_fetch Fetch = true
is_fetch Load = false
is_fetch Store = false
is_fetch (Atomic wrote) = false
is_fetch Membar = false
is_fetch Flush = false

-- by the kind and the mask
abbrev pub is_barrier : ItemKind → ℕ → Bool
is_barrier Flush mask = true
is_barrier Membar mask = not (bit_and mask 0x62 == 0)
is_barrier Fetch mask = false
is_barrier Load mask = false
is_barrier Store mask = false
is_barrier (Atomic wrote) mask = false

-- the position below which no later item that the rule speaks of may stand: the item's own, or for a
-- barrier the greatest of an earlier write
abbrev pub bound_of : Rule → ℕ → Item → ℕ → ℕ
bound_of LoadOp high item position = if is_read item.kind then position else 0
bound_of StoreStore high item position = if is_write item.kind then position else 0
bound_of Barrier high item position = if is_barrier item.kind item.size then high else 0

-- the position of an item of which the rule speaks
abbrev pub goal_of : Rule → Item → ℕ → ℕ
goal_of LoadOp item position = if is_access item.kind then position else 2 ^ 64 - 1
goal_of StoreStore item position = if is_write item.kind then position else 2 ^ 64 - 1
goal_of Barrier item position = if is_read item.kind then position else 2 ^ 64 - 1

abbrev pub high_after : ℕ → Item → ℕ → ℕ
high_after high item position = if is_write item.kind then max high position else high

-- the greatest position of a write among the first items
abbrev pub high_at : List Item → List ℕ → ℕ → ℕ
high_at items row zero = 0
high_at items row (suc n) = high_after (high_at items row n) (item_of items n) (get_or row n 0)

abbrev pub AreBounds : Rule → List Item → List ℕ → List ℕ → ℕ → Type 0
AreBounds rule items row bounds n = (i : ℕ) → i < n → get_or bounds i 0 ≡ bound_of rule (high_at items row i) (item_of items i) (get_or row i 0)

abbrev pub AreGoals : Rule → List Item → List ℕ → List ℕ → ℕ → Type 0
AreGoals rule items row goals n = (i : ℕ) → i < n → get_or goals i 0 ≡ goal_of rule (item_of items i) (get_or row i 0)
