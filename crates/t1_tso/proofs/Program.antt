-- Program order in the memory order: LoadOp, StoreStore and Barrier of a joint history.
use Rattle.std.proofs.Common.{◌≡◌, ℕ, ◌<◌, ◌≤◌, ◌⊎◌, inl, inr, List, refl, sym, ◌∙◌, arith}
use Rattle.t1_event.specs.declared.item.ItemKind.{ItemKind}
use Rattle.t1_event.specs.declared.item.ItemKind.TheVariants as kind
use Rattle.t1_event.specs.declared.item.How.{How}
use Rattle.t1_event.specs.declared.item.How.TheVariants as how
use Rattle.t1_event.specs.declared.report.Place.{Place}
use Rattle.t1_event.specs.Kinds.{IsWrite, IsAccess}
use Rattle.t1_event.specs.Order.{Act, Earlier, LoadOp, StoreStore, Barrier}
use Rattle.t1_event.specs.Times.{at_of, done_of, index_of, IsPlaced, IsCommit}
use Rattle.t1_event.specs.Keys.{major, IsKeyBelow, IsOrderByKeys}
use Rattle.t1_event.specs.Places.{Run, FetchPlaced, LoadPlaced, AtomicPlaced, Row}
use Rattle.t1_joint.specs.Waits.{IsDoneBy}
use Rattle.t1_tso.proofs.Joint.{Joint, read_access, write_access, write_cases}
use Rattle.t1_tso.proofs.Order.{SeenBeforeIndex, key_from_done, before_from_key}

commit_placed : (w : How) → IsCommit w → IsPlaced w
commit_placed (how.Commit n s) p = tt
commit_placed how.Unplaced p = absurd p
commit_placed (how.Forward t) p = absurd p
commit_placed (how.Hit t) p = absurd p

load_placed : (h : Run) (x : Act h.traces) (w : How) → LoadPlaced h x w → IsPlaced w
load_placed h x how.Unplaced p = absurd p
load_placed h x (how.Forward t) p = tt
load_placed h x (how.Hit t) p = tt
load_placed h x (how.Commit n s) p = tt

fetch_placed : (h : Run) (x : Act h.traces) (w : How) → FetchPlaced h x w → IsPlaced w
fetch_placed h x how.Unplaced p = absurd p
fetch_placed h x (how.Forward t) p = tt
fetch_placed h x (how.Hit t) p = tt
fetch_placed h x (how.Commit n s) p = tt

atomic_placed : (h : Run) (x : Act h.traces) (w : How) → AtomicPlaced h x w → IsPlaced w
atomic_placed h x how.Unplaced p = absurd p
atomic_placed h x (how.Forward t) p = tt
atomic_placed h x (how.Hit t) p = tt
atomic_placed h x (how.Commit n s) p = tt

pub is_placed : (h : Run) (x : Act h.traces) (k : ItemKind) → IsAccess k → Row h x k → IsPlaced x.item.how
is_placed h x kind.Fetch a p = fetch_placed h x x.item.how p.1
is_placed h x kind.Load a p = load_placed h x x.item.how p
is_placed h x kind.Store a p = commit_placed x.item.how p
is_placed h x (kind.Atomic wrote) a p = atomic_placed h x x.item.how p.1
is_placed h x kind.Membar a p = cc
is_placed h x kind.Flush a p = cc

seen_by : (w : How) → IsPlaced w → ((n s : ℕ) → w ≡ how.Commit n s → s ≤ n) → SeenBeforeIndex w
seen_by how.Unplaced p f = absurd p
seen_by (how.Forward t) p f = tt
seen_by (how.Hit t) p f = tt
seen_by (how.Commit n s) p f = f n s refl

module _ (h : Run) (j : Joint h) where
  -- `seen` is at most the index
  pub seen_before : (x : Act h.traces) → IsAccess x.item.kind → SeenBeforeIndex x.item.how
  seen_before x a =
      seen_by x.item.how (is_placed h x x.item.kind a (j.rows x a)) (λ n s e.
      let c = j.naming.named x n s e in
      let same : s ≡ c.0.seen = let both : how.Commit n s ≡ how.Commit n c.0.seen = sym e ∙ c.2.how_is in cc in
      let l : c.0.seen ≤ n = j.seen n c.0 c.1 in
      omega (arith, same, l))

  pub load_op : (order : List Place) → IsOrderByKeys h.traces order → LoadOp h.traces order
  load_op order o x y e rx ay =
      let ax = read_access x.item.kind rx in
      before_from_key order o x y ax ay (key_from_done x y e (seen_before x ax) (seen_before y ay) (j.program.read x y e rx ay))

  -- of two stores the later has the higher index
  index_key : (k l : How) → IsDoneBy (index_of l) k → major k < major l ⊎ (major k ≡ major l)
  index_key how.Unplaced l d = absurd d
  index_key (how.Forward t) how.Unplaced d = grind arith
  index_key (how.Forward t) (how.Forward u) d = grind arith
  index_key (how.Forward t) (how.Hit u) d = grind arith
  index_key (how.Forward t) (how.Commit n u) d = grind arith
  index_key (how.Hit t) how.Unplaced d = grind arith
  index_key (how.Hit t) (how.Forward u) d = grind arith
  index_key (how.Hit t) (how.Hit u) d = grind arith
  index_key (how.Hit t) (how.Commit n u) d = grind arith
  index_key (how.Commit m r) how.Unplaced d = grind arith
  index_key (how.Commit m r) (how.Forward u) d = grind arith
  index_key (how.Commit m r) (how.Hit u) d = grind arith
  index_key (how.Commit m r) (how.Commit n u) d = grind arith

  store_key : (x y : Act h.traces) → Earlier x y → x.item.kind ≡ kind.Store → y.item.kind ≡ kind.Store → IsKeyBelow x y
  store_key x y e sx sy =
      elim (index_key x.item.how y.item.how (j.program.stores x y e sx sy).index) [
        | inl l ↦ inl l
        | inr q ↦ inr (q, inr (e.strand, e.number))
      ]

  -- an earlier write has the lower key
  pub write_key : (x y : Act h.traces) → Earlier x y → IsWrite x.item.kind → IsWrite y.item.kind → IsKeyBelow x y
  write_key x y e wx wy =
      let sx = seen_before x (write_access x.item.kind wx) in
      let sy = seen_before y (write_access y.item.kind wy) in
      elim (write_cases x.item.kind wx) [
        | inl s ↦ elim (write_cases y.item.kind wy) [
          | inl t ↦ store_key x y e s t
          | inr r ↦ key_from_done x y e sx sy (j.program.atomic x y e s r wy)
        ]
        | inr r ↦ key_from_done x y e sx sy (j.program.read x y e r (write_access y.item.kind wy))
      ]

  pub store_store : (order : List Place) → IsOrderByKeys h.traces order → StoreStore h.traces order
  store_store order o x y e wx wy =
      before_from_key order o x y (write_access x.item.kind wx) (write_access y.item.kind wy) (write_key x y e wx wy)

  earlier_trans : (x b y : Act h.traces) → Earlier x b → Earlier b y → Earlier x y
  earlier_trans x b y d e = record { strand = d.strand ∙ e.strand; number = omega arith }

  pub barrier : (order : List Place) → IsOrderByKeys h.traces order → Barrier h.traces order
  barrier order o x b y d e wx ib ry =
      let e' = earlier_trans x b y d e in
      let ax = write_access x.item.kind wx in
      let ay = read_access y.item.kind ry in
      let done : done_of x.item.how ≤ at_of y.item.how = elim (write_cases x.item.kind wx) [
        | inl s ↦ j.program.barrier x b y d e s ib ay
        | inr r ↦ j.program.read x y e' r ay
      ] in
      before_from_key order o x y ax ay (key_from_done x y e' (seen_before x ax) (seen_before y ay) done)
