-- Where an order is no listing.
use Rattle.std.specs.Prelude.{ℕ, ◌≡◌, ◌<◌, ◌⊎◌, List, Some}
use Rattle.std.specs.List.{slice_get}
use Rattle.t1_event.specs.declared.item.Item.{Item}
use Rattle.t1_event.specs.declared.report.Place.{Place}
use Rattle.t1_event.specs.Kinds.{IsAccess}
use Rattle.t1_event.specs.Order.{Act, place_of}

-- places ascend by strand and then by number
abbrev pub IsPlaceBelow : Place → Place → Type 0
IsPlaceBelow p q = (p.strand < q.strand) ⊎ ((p.strand ≡ q.strand) × (p.item < q.item))

abbrev pub NamesAccess : List (List Item) → Place → Type 0
NamesAccess traces p = (x : Act traces) × IsAccess x.item.kind × (place_of x ≡ p)

-- a line of the order names no access, or repeats a place
pub record IsBadLine (traces : List (List Item)) (order : List Place) (line : ℕ) : Type 0 where
  pub place : Place
  pub is : slice_get order line ≡ Some place
  pub bad : (NamesAccess traces place → ⊥) ⊎ ((earlier : ℕ) × (earlier < line) × (slice_get order earlier ≡ Some place))

-- the place on the first bad line
pub record IsFirstBadLine (traces : List (List Item)) (order : List Place) (p : Place) : Type 0 where
  pub line : ℕ
  pub bad : IsBadLine traces order line
  pub is : bad.place ≡ p
  pub first : (earlier : ℕ) → earlier < line → IsBadLine traces order earlier → ⊥

-- an access that the order does not name
pub record IsMissing {traces : List (List Item)} (order : List Place) (x : Act traces) : Type 0 where
  pub access : IsAccess x.item.kind
  pub nowhere : (line : ℕ) → slice_get order line ≡ Some (place_of x) → ⊥

-- the place of the least access that is missing
pub record IsLeastMissing (traces : List (List Item)) (order : List Place) (p : Place) : Type 0 where
  pub act : Act traces
  pub is : place_of act ≡ p
  pub missing : IsMissing order act
  pub least : (x : Act traces) → IsPlaceBelow (place_of x) p → IsMissing order x → ⊥

-- the first bad line, or else the least access that is missing
abbrev pub IsUnlisted : List (List Item) → List Place → Place → Type 0
IsUnlisted traces order p =
    IsFirstBadLine traces order p
    ⊎ (((line : ℕ) → IsBadLine traces order line → ⊥) × IsLeastMissing traces order p)
