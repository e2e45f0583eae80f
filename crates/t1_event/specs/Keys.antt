-- The memory order of a run, ascending by keys: commit n has the key (n, 1), and an access that hit or
-- was forwarded at time t has (t, 0, strand, item).
use Rattle.std.specs.Prelude.{ℕ, ◌≡◌, ◌+◌, ◌*◌, ◌<◌, ◌⊎◌, List, Some}
use Rattle.std.specs.List.{slice_get}
use Rattle.t1_event.specs.declared.item.Item.{Item}
use Rattle.t1_event.specs.declared.item.How.{How}
use Rattle.t1_event.specs.declared.item.How.TheVariants.{Unplaced, Forward, Hit, Commit}
use Rattle.t1_event.specs.declared.report.Place.{Place}
use Rattle.t1_event.specs.Order.{Act, place_of, IsListing}

-- the first two numbers of a key as one: 2 n + 1 of commit n, 2 t of time t
abbrev pub major : How → ℕ
major Unplaced = 0
major (Forward time) = 2 * time
major (Hit time) = 2 * time
major (Commit index seen) = 2 * index + 1

abbrev pub IsKeyBelow : {traces : List (List Item)} → Act traces → Act traces → Type 0
IsKeyBelow x y =
    (major x.item.how < major y.item.how)
    ⊎ ((major x.item.how ≡ major y.item.how) × ((x.strand < y.strand) ⊎ ((x.strand ≡ y.strand) × (x.number < y.number))))

-- a memory order that ascends by keys
pub record IsOrderByKeys (traces : List (List Item)) (order : List Place) : Type 0 where
  pub listing : IsListing traces order
  pub ascends : (j k : ℕ) (x y : Act traces) → j < k → slice_get order j ≡ Some (place_of x) → slice_get order k ≡ Some (place_of y) → IsKeyBelow x y
