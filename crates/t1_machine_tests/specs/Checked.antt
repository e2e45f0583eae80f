-- What makes traces and a log orderable, item by item and commit by commit.
use Rattle.std.specs.Prelude.{ℕ, ◌≡◌, ◌<◌, ◌≤◌, ◌^◌, List, [], length, Some, slice_index_or}
use Rattle.std.specs.List.{slice_get}
use Rattle.t1_event.specs.declared.item.Item.{Item}
use Rattle.t1_event.specs.declared.item.How.TheVariants as how
use Rattle.t1_event.specs.declared.commit.Commit.{Commit}
use Rattle.t1_event.specs.Kinds.{IsAccess}
use Rattle.t1_event.specs.Times.{IsPlaced}
use Rattle.t1_order.specs.Next.{time_of}

-- an item has a place where it is an access, and the log names it where it is a commit
pub record IsPlacedBy (log : List Commit) (strand number : ℕ) (item : Item) : Type 0 where
  pub placed : IsAccess item.kind → IsPlaced item.how
  pub named : (n seen : ℕ) → IsAccess item.kind → item.how ≡ how.Commit n seen
      → (commit : Commit) × (slice_get log n ≡ Some commit) × (commit.strand ≡ strand) × (commit.item ≡ number) × (commit.seen ≡ seen)

-- the times of a strand's first items are at most a time, and never fall
pub record AreTimesUpTo (items : List Item) (count last : ℕ) : Type 0 where
  pub most : (k : ℕ) (item : Item) (time : ℕ) → k < count → slice_get items k ≡ Some item → time_of item ≡ Some time → time ≤ last
  pub ascend : (j k : ℕ) (a b : Item) (earlier later : ℕ) → j < k → k < count → slice_get items j ≡ Some a → slice_get items k ≡ Some b
      → time_of a ≡ Some earlier → time_of b ≡ Some later → earlier ≤ later

-- a strand: few items, each in its place, with times that never fall
pub record IsStrand (log : List Commit) (strand : ℕ) (items : List Item) : Type 0 where
  pub short : length items ≤ 2 ^ 32
  pub placed : (number : ℕ) (item : Item) → slice_get items number ≡ Some item → IsPlacedBy log strand number item
  pub times : (j k : ℕ) (a b : Item) (earlier later : ℕ) → j < k → slice_get items j ≡ Some a → slice_get items k ≡ Some b
      → time_of a ≡ Some earlier → time_of b ≡ Some later → earlier ≤ later

-- a commit names an access that is placed as it
pub record IsCommitIn (traces : List (List Item)) (n : ℕ) (commit : Commit) : Type 0 where
  pub named : Item
  pub stands : slice_get (slice_index_or traces commit.strand []) commit.item ≡ Some named
  pub access : IsAccess named.kind
  pub how_is : named.how ≡ how.Commit n commit.seen

abbrev pub AreStrands : List (List Item) → List Commit → Type 0
AreStrands traces log = (strand : ℕ) → strand < length traces → IsStrand log strand (slice_index_or traces strand [])

abbrev pub AreCommits : List (List Item) → List Commit → Type 0
AreCommits traces log = (n : ℕ) (commit : Commit) → slice_get log n ≡ Some commit → IsCommitIn traces n commit

-- the last time is that of this item, where it has one, and did not fall
pub record GoesOn (last : ℕ) (item : Item) (next : ℕ) : Type 0 where
  pub up : last ≤ next
  pub time : (time : ℕ) → time_of item ≡ Some time → time ≡ next
