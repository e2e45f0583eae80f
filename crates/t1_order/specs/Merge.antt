-- A merge of the strands and the log: what is listed so far, and what comes next.
use Rattle.std.specs.Prelude.{ℕ, ◌≡◌, ◌+◌, ◌<◌, ◌⊎◌, ◌↔◌, List, [], length, Option, Some, None, slice_index, slice_index_or, slice_set}
use Rattle.t1_event.specs.declared.item.Item.{Item}
use Rattle.t1_event.specs.declared.item.How.{How}
use Rattle.t1_event.specs.declared.item.How.TheVariants.{Unplaced, Forward, Hit, Commit}
use Rattle.t1_event.specs.declared.report.Place.{Place}
use Rattle.t1_event.specs.Kinds.{IsAccess}
use Rattle.t1_event.specs.Order.{Act, place_of}
use Rattle.t1_event.specs.Keys.{IsKeyBelow}
use Rattle.t1_order.specs.declared.heads.Head.{Head}
use Rattle.t1_order.specs.declared.merge.Rest.{Rest}
use Rattle.t1_order.specs.Next.{IsNext, NoneBetween}

-- listed: commits below the first that is left, and of a strand what is below its first that is left
abbrev pub IsListedAt : Rest → ℕ → ℕ → How → Type 0
IsListedAt rest strand number Unplaced = ⊥
IsListedAt rest strand number (Forward time) = number < slice_index rest.numbers strand
IsListedAt rest strand number (Hit time) = number < slice_index rest.numbers strand
IsListedAt rest strand number (Commit index seen) = index < rest.commits

abbrev pub IsListed : {traces : List (List Item)} → Rest → Act traces → Type 0
IsListed rest x = IsListedAt rest x.strand x.number x.item.how

-- of each strand the number and the time of the first that is left
pub record IsRest (traces : List (List Item)) (rest : Rest) : Type 0 where
  pub strands : (length rest.numbers ≡ 64) × (length rest.times ≡ 64)
  pub next : (strand : ℕ) → IsNext (slice_index_or traces strand []) (slice_index rest.numbers strand) (slice_index_or rest.times strand None)

abbrev pub IsNoneListed : List (List Item) → Rest → Type 0
IsNoneListed traces rest = (x : Act traces) → IsAccess x.item.kind → IsListed rest x → ⊥

abbrev pub AreAllListed : List (List Item) → Rest → Type 0
AreAllListed traces rest = (x : Act traces) → IsAccess x.item.kind → IsListed rest x

-- there is a commit of this index, and it comes before the head
abbrev pub CommitComes : ℕ → ℕ → Option Head → Type 0
CommitComes index count None = index < count
CommitComes index count (Some head) = (index < count) × (index < head.time)

-- the first that is left of a head's strand is listed, and the next of the strand found
pub record IsPassed (traces : List (List Item)) (before after : Rest) (head : Head) (place : Place) : Type 0 where
  pub number : ℕ
  pub time : Option ℕ
  pub place_is : place ≡ record { strand = head.strand; item = slice_index before.numbers head.strand }
  pub numbers : after.numbers ≡ slice_set before.numbers head.strand number
  pub times : after.times ≡ slice_set before.times head.strand time
  pub commits : after.commits ≡ before.commits
  pub above : slice_index before.numbers head.strand < number
  pub next : IsNext (slice_index_or traces head.strand []) number time
  pub first : NoneBetween (slice_index_or traces head.strand []) (slice_index before.numbers head.strand + 1) number

-- the place of the access with the least key of those that were not listed; it is listed now
pub record IsNextPlace (traces : List (List Item)) (before after : Rest) (place : Place) : Type 0 where
  pub act : Act traces
  pub place_is : place_of act ≡ place
  pub access : IsAccess act.item.kind
  pub was_left : IsListed before act → ⊥
  pub least : (x : Act traces) → IsAccess x.item.kind → (IsListed before x → ⊥) → (place_of x ≡ place_of act) ⊎ IsKeyBelow act x
  pub listed : (x : Act traces) → IsAccess x.item.kind → IsListed after x ↔ (IsListed before x ⊎ (place_of x ≡ place_of act))
