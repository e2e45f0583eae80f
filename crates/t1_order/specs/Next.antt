-- The accesses of a strand that no commit is of.
use Rattle.std.specs.Prelude.{ℕ, ◌≡◌, ◌<◌, ◌≤◌, if◌then◌else◌, List, length, Option, Some, None}
use Rattle.std.specs.List.{slice_get}
use Rattle.t1_event.specs.declared.item.Item.{Item}
use Rattle.t1_event.specs.declared.item.How.{How}
use Rattle.t1_event.specs.declared.item.How.TheVariants.{Unplaced, Forward, Hit, Commit}
use Rattle.t1_event.specs.Kinds.{is_access}

abbrev pub hit_time : How → Option ℕ
hit_time Unplaced = None
hit_time (Forward time) = Some time
hit_time (Hit time) = Some time
hit_time (Commit index seen) = None

-- the time of an access that hit or was forwarded; none of any other item
abbrev pub time_of : Item → Option ℕ
time_of item = if is_access item.kind then hit_time item.how else None

-- such an access, at this number
pub record IsTimed (items : List Item) (number time : ℕ) : Type 0 where
  pub item : Item
  pub stands : slice_get items number ≡ Some item
  pub timed : time_of item ≡ Some time

-- where there is no time, there is no item from the number on
abbrev pub IsNext : List Item → ℕ → Option ℕ → Type 0
IsNext items number None = length items ≤ number
IsNext items number (Some time) = IsTimed items number time

-- no such access from a number up to another
abbrev pub NoneBetween : List Item → ℕ → ℕ → Type 0
NoneBetween items from to = (number : ℕ) (item : Item) → from ≤ number → number < to → slice_get items number ≡ Some item → time_of item ≡ None
