-- Traces and a log that have one memory order by keys.
use Rattle.std.specs.Prelude.{ℕ, ◌≡◌, ◌≤◌, ◌^◌, ◌++◌, List, [], length, Some, slice_index_or}
use Rattle.std.specs.List.{slice_get, sum_by, count_by}
use Rattle.t1_event.specs.declared.item.Item.{Item}
use Rattle.t1_event.specs.declared.item.How.TheVariants as how
use Rattle.t1_event.specs.declared.commit.Commit.{Commit}
use Rattle.t1_event.specs.declared.report.Place.{Place}
use Rattle.t1_event.specs.Kinds.{is_access, IsAccess}
use Rattle.t1_event.specs.Times.{IsPlaced}
use Rattle.t1_event.specs.Order.{Act, Earlier}
use Rattle.t1_event.specs.Keys.{IsOrderByKeys}
use Rattle.t1_joint.specs.JointHistory.{Names}
use Rattle.t1_order.specs.Next.{time_of}

-- each access has a place, and those that are placed as commits are those that the log names
pub record AreNamed (traces : List (List Item)) (log : List Commit) : Type 0 where
  pub placed : (x : Act traces) → IsAccess x.item.kind → IsPlaced x.item.how
  pub named : (x : Act traces) (n seen : ℕ) → IsAccess x.item.kind → x.item.how ≡ how.Commit n seen
      → (commit : Commit) × (slice_get log n ≡ Some commit) × Names commit n x
  pub names : (n : ℕ) (commit : Commit) → slice_get log n ≡ Some commit → (x : Act traces) × IsAccess x.item.kind × Names commit n x

-- along a strand the times of the accesses that hit or were forwarded never fall
abbrev pub TimesNeverFall : List (List Item) → Type 0
TimesNeverFall traces =
    (x y : Act traces) (earlier later : ℕ) → Earlier x y → time_of x.item ≡ Some earlier → time_of y.item ≡ Some later → earlier ≤ later

abbrev pub AreShort : List (List Item) → Type 0
AreShort traces = (strand : ℕ) → length (slice_index_or traces strand []) ≤ 2 ^ 32

-- few and short traces, with a log that names their commits, and times that never fall
pub record AreOrderable (traces : List (List Item)) (log : List Commit) : Type 0 where
  pub few : length traces ≤ 64
  pub short : AreShort traces
  pub named : AreNamed traces log
  pub times : TimesNeverFall traces

-- how many accesses there are
abbrev pub accesses_in : List (List Item) → ℕ
accesses_in traces = sum_by (λ items. count_by (λ (item : Item). is_access item.kind) items) traces

-- the list has grown by a memory order that ascends by keys
pub record GrowsByOrder (traces : List (List Item)) (before after : List Place) : Type 0 where
  pub order : List Place
  pub grows : after ≡ before ++ order
  pub by_keys : IsOrderByKeys traces order
