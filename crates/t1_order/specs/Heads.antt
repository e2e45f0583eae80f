-- The strand that comes next, by the times of the strands.
use Rattle.std.specs.Prelude.{ℕ, ◌≡◌, ◌*◌, ◌+◌, ◌<◌, ◌≤◌, ◌⊎◌, ◌==◌, ◌&&◌, ◌||◌, nat_lt, Bool, true, false, if◌then◌else◌, List, length, map, drop, Option, Some, None, slice_index_or}
use Rattle.t1_order.specs.declared.heads.Head.{Head}

-- by time, and at one time by strand; no head comes before one
abbrev pub is_before : Option Head → Option Head → Bool
is_before None y = false
is_before (Some x) None = true
is_before (Some x) (Some y) = nat_lt x.time y.time || ((x.time == y.time) && nat_lt x.strand y.strand)

abbrev pub lesser : Option Head → Option Head → Option Head
lesser x y = if is_before y x then y else x

-- 128 nodes, of which each inner one has the lesser of the two above it
pub record IsTree (nodes : List (Option Head)) : Type 0 where
  pub all : length nodes ≡ 128
  pub inner : (node : ℕ) → 0 < node → node < 64
      → slice_index_or nodes node None ≡ lesser (slice_index_or nodes (2 * node) None) (slice_index_or nodes (2 * node + 1) None)

-- the leaf of a strand has a head of that strand, or none
abbrev pub AreLeaves : List (Option Head) → Type 0
AreLeaves nodes = (strand : ℕ) (head : Head) → slice_index_or nodes (64 + strand) None ≡ Some head → head.strand ≡ strand

abbrev pub head_time : Option Head → Option ℕ
head_time None = None
head_time (Some head) = Some head.time

abbrev pub head_at : ℕ → Option ℕ → Option Head
head_at strand None = None
head_at strand (Some time) = Some (record { time = time; strand = strand })

-- the times of the leaves
abbrev pub times_of : List (Option Head) → List (Option ℕ)
times_of nodes = map head_time (drop 64 nodes)

-- a head of a strand that none is before
pub record IsLeast (times : List (Option ℕ)) (head : Head) : Type 0 where
  pub strand : head.strand < 64
  pub time : slice_index_or times head.strand None ≡ Some head.time
  pub least : (strand time : ℕ) → slice_index_or times strand None ≡ Some time
      → (head.time < time) ⊎ ((head.time ≡ time) × (head.strand ≤ strand))

abbrev pub IsFirst : List (Option ℕ) → Option Head → Type 0
IsFirst times None = (strand : ℕ) → slice_index_or times strand None ≡ None
IsFirst times (Some head) = IsLeast times head
