-- Ops and their items, and the commits that stand before an item in the order by keys.
use Rattle.std.proofs.Common.{◌≡◌, ℕ, ◌+◌, ◌*◌, ◌<◌, ◌≤◌, true, false, Option, refl, ap, arith}
use Rattle.t1_event.specs.declared.item.Item.{Item}
use Rattle.t1_event.specs.declared.item.ItemKind.{ItemKind}
use Rattle.t1_event.specs.declared.item.ItemKind.TheVariants as kind
use Rattle.t1_event.specs.declared.item.How.{How}
use Rattle.t1_event.specs.declared.item.How.TheVariants as how
use Rattle.t1_event.specs.Kinds.{IsWrite, IsChanging}
use Rattle.t1_event.specs.Items.{Covers, byte_put}
use Rattle.t1_event.specs.Order.{Act}
use Rattle.t1_event.specs.Times.{at_of, IsCommit}
use Rattle.t1_event.specs.Keys.{major}
use Rattle.t1_event.specs.Records.{op_of}
use Rattle.t1_event.specs.Places.{Run, AtomicPlaced, Row}
use Rattle.t1_tso.proofs.Order.{SeenBeforeIndex}
use Rattle.t1_tso.proofs.Memory.{OpCovers, op_byte}

-- ---- an op and its item

pub change_covers : (x : Item) (way : Option ℕ) (k : ItemKind) (a : ℕ) → IsChanging k → Covers x a → OpCovers (op_of x way k) a
change_covers x way kind.Store a c p = p
change_covers x way (kind.Atomic true) a c p = p
change_covers x way (kind.Atomic false) a c p = cc
change_covers x way kind.Fetch a c p = cc
change_covers x way kind.Load a c p = cc
change_covers x way kind.Membar a c p = cc
change_covers x way kind.Flush a c p = cc

pub covers_change : (x : Item) (way : Option ℕ) (k : ItemKind) (a : ℕ) → OpCovers (op_of x way k) a → IsChanging k × Covers x a × (op_byte (op_of x way k) a ≡ byte_put x a)
covers_change x way kind.Store a p = (refl, p, refl)
covers_change x way (kind.Atomic true) a p = (refl, p, refl)
covers_change x way (kind.Atomic false) a p = absurd p
covers_change x way kind.Fetch a p = absurd p
covers_change x way kind.Load a p = absurd p
covers_change x way kind.Membar a p = absurd p
covers_change x way kind.Flush a p = absurd p

pub change_write : (k : ItemKind) → IsChanging k → IsWrite k
change_write kind.Store c = refl
change_write (kind.Atomic w) c = refl
change_write kind.Fetch c = cc
change_write kind.Load c = cc
change_write kind.Membar c = cc
change_write kind.Flush c = cc

pub as_commit : (w : How) → IsCommit w → (n : ℕ) × (s : ℕ) × (w ≡ how.Commit n s)
as_commit (how.Commit n s) p = (n, s, refl)
as_commit how.Unplaced p = absurd p
as_commit (how.Forward t) p = absurd p
as_commit (how.Hit t) p = absurd p

pub atomic_commit : (h : Run) (x : Act h.traces) (w : How) → AtomicPlaced h x w → IsCommit w
atomic_commit h x (how.Commit n s) p = tt
atomic_commit h x how.Unplaced p = absurd p
atomic_commit h x (how.Forward t) p = absurd p
atomic_commit h x (how.Hit t) p = absurd p

pub write_commits : (h : Run) (x : Act h.traces) (k : ItemKind) → IsWrite k → Row h x k → IsCommit x.item.how
write_commits h x kind.Store w p = p
write_commits h x (kind.Atomic b) w p = atomic_commit h x x.item.how p.1
write_commits h x kind.Fetch w p = cc
write_commits h x kind.Load w p = cc
write_commits h x kind.Membar w p = cc
write_commits h x kind.Flush w p = cc

-- the commits below it stand before the item
abbrev pub limit : How → ℕ
limit how.Unplaced = 0
limit (how.Forward t) = t
limit (how.Hit t) = t
limit (how.Commit n s) = n

pub limit_major : (w : How) (n : ℕ) → n < limit w → 2 * n + 1 < major w
limit_major how.Unplaced n l = absurd (omega arith)
limit_major (how.Forward t) n l = omega arith
limit_major (how.Hit t) n l = omega arith
limit_major (how.Commit m s) n l = omega arith

pub major_limit : (w : How) (n : ℕ) → 2 * n + 1 < major w → n < limit w
major_limit how.Unplaced n l = absurd (omega arith)
major_limit (how.Forward t) n l = omega arith
major_limit (how.Hit t) n l = omega arith
major_limit (how.Commit m s) n l = omega arith

-- only a commit has a commit's key
pub same_major : (w : How) (n : ℕ) → 2 * n + 1 ≡ major w → (s : ℕ) × (w ≡ how.Commit n s)
same_major how.Unplaced n e = absurd (omega arith)
same_major (how.Forward t) n e = absurd (omega arith)
same_major (how.Hit t) n e = absurd (omega arith)
same_major (how.Commit m s) n e = let same : m ≡ n = omega arith in (s, ap (λ (k : ℕ). how.Commit k s) same)

pub at_limit : (w : How) → SeenBeforeIndex w → at_of w ≤ limit w
at_limit how.Unplaced p = absurd p
at_limit (how.Forward t) p = omega arith
at_limit (how.Hit t) p = omega arith
at_limit (how.Commit n s) p = p
