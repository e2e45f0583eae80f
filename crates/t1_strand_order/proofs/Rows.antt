-- Places that were right stay right.
use Rattle.std.proofs.Common.{◌≡◌, ℕ, ◌<◌, List, Option, refl, sym, ◌∙◌, subst, inl, inr, arith}
use Rattle.t1_shape.specs.Shapes.{Shape}
use Rattle.t1_shape.specs.Slots.{Line}
use Rattle.t1_packet.specs.declared.cache.Cache.{Cache}
use Rattle.t1_packet.specs.declared.cache.Cache.TheVariants.{Dcache, Icache}
use Rattle.t1_event.specs.declared.item.Item.{Item}
use Rattle.t1_event.specs.declared.item.ItemKind.{ItemKind}
use Rattle.t1_event.specs.declared.item.ItemKind.TheVariants as kind
use Rattle.t1_event.specs.declared.item.How.{How}
use Rattle.t1_event.specs.declared.item.How.TheVariants.{Unplaced, Forward, Hit, Commit}
use Rattle.t1_event.specs.Items.{Covers, byte_put, IsIo}
use Rattle.t1_event.specs.Times.{at_of}
use Rattle.t1_event.specs.Places.{Overlaps, GotLine, IsMissing}
use Rattle.t1_joint.specs.Rows.{Caches, NoneHeldIn, NoneOverlapsIn, IsForwardedIn, FetchRow, LoadRow, AtomicRow, RowIn}
use Rattle.t1_strand_order.specs.Allowed.{IsLike}
use Rattle.t1_strand_order.specs.Places.{IsSame, SameAreHeld}

-- ---- stores that are the same but for their places

overlaps_same : (x y z : Item) → IsSame x y → Overlaps y z → Overlaps x z
overlaps_same x y z s o =
    let a = s.addr in let b = s.size in let c = o.0 in let d = o.1 in (omega (arith, a, b, c), omega (arith, a, b, d))

covers_same : (x y : Item) (a : ℕ) → IsSame x y → Covers x a → Covers y a
covers_same x y a s c = let p = s.addr in let q = s.size in let l = c.0 in let h = c.1 in (omega (arith, p, q, l), omega (arith, p, q, h))

put_same : (x y : Item) (a : ℕ) → IsSame x y → byte_put x a ≡ byte_put y a
put_same x y a s = let p = s.addr in let q = s.size in let v = s.put in rw (p, q, v) refl

module _ (old new : List Item) (j t : ℕ) (same : SameAreHeld old new j t) where
  none_moves : NoneHeldIn old j t → NoneHeldIn new j t
  none_moves n i y h = let x = same.back i y h in n i x.0 x.1

  overlaps_moves : (z : Item) → NoneOverlapsIn old j t z → NoneOverlapsIn new j t z
  overlaps_moves z n i y h o = let x = same.back i y h in n i x.0 x.1 (overlaps_same x.0 y z x.2 o)

  forwarded_moves : (z : Item) → IsForwardedIn old j t z → IsForwardedIn new j t z
  forwarded_moves z f =
      let y = same.there f.number f.from f.held in
      record {
        number = f.number;
        from = y.0;
        held = y.1;
        last = λ i w h o. (let x = same.back i w h in f.last i x.0 x.1 (overlaps_same x.0 w z x.2 o));
        covers = λ a c. covers_same f.from y.0 a y.2 (f.covers a c);
        bytes = λ a c. f.bytes a c ∙ put_same f.from y.0 a y.2;
      }

-- ---- rows, where the caches of the time are the same

module _ (shape : Shape) (ram : ℕ) (caches later : Caches) (old new : List Item) (j : ℕ) where
  missing_moves : (c : Cache) (t : ℕ) (x : Item) → later t ≡ caches t → IsMissing shape c (caches t c) x → IsMissing shape c (later t c) x
  missing_moves c t x e f = subst (λ (g : Cache → List (Option Line)). IsMissing shape c (g c) x) (sym e) f

  line_moves : (c : Cache) (t : ℕ) (x : Item) → later t ≡ caches t → GotLine shape c (caches t c) x → GotLine shape c (later t c) x
  line_moves c t x e f = subst (λ (g : Cache → List (Option Line)). GotLine shape c (g c) x) (sym e) f

  fetch_moves : (x : Item) (how : How) → later (at_of how) ≡ caches (at_of how) → FetchRow shape caches x how → FetchRow shape later x how
  fetch_moves x Unplaced e f = f
  fetch_moves x (Forward t) e f = f
  fetch_moves x (Hit t) e f = line_moves Icache t x e f
  fetch_moves x (Commit n s) e f = missing_moves Icache s x e f

  load_moves : (x : Item) (how : How) → SameAreHeld old new j (at_of how) → later (at_of how) ≡ caches (at_of how)
      → LoadRow shape ram caches old j x how → LoadRow shape ram later new j x how
  load_moves x Unplaced same e f = f
  load_moves x (Forward t) same e f = (f.0, forwarded_moves old new j t same x f.1)
  load_moves x (Hit t) same e f = (f.0, overlaps_moves old new j t same x f.1, line_moves Dcache t x e f.2)
  load_moves x (Commit n s) same e (inl f) = inl (f.0, overlaps_moves old new j s same x f.1, missing_moves Dcache s x e f.2)
  load_moves x (Commit n s) same e (inr f) = inr (f.0, none_moves old new j s same f.1)

  atomic_moves : (how : How) → SameAreHeld old new j (at_of how) → AtomicRow old j how → AtomicRow new j how
  atomic_moves Unplaced same f = f
  atomic_moves (Forward t) same f = f
  atomic_moves (Hit t) same f = f
  atomic_moves (Commit n s) same f = none_moves old new j s same f

  kind_moves : (x : Item) (k : ItemKind) → SameAreHeld old new j (at_of x.how) → later (at_of x.how) ≡ caches (at_of x.how)
      → RowIn shape ram caches old j x k → RowIn shape ram later new j x k
  kind_moves x kind.Fetch same e f = (f.0, fetch_moves x x.how e f.1)
  kind_moves x kind.Load same e f = load_moves x x.how same e f
  kind_moves x kind.Store same e f = f
  kind_moves x (kind.Atomic wrote) same e f = (f.0, atomic_moves x.how same f.1)
  kind_moves x kind.Membar same e f = f
  kind_moves x kind.Flush same e f = f

  pub row_moves : (x : Item) → SameAreHeld old new j (at_of x.how) → later (at_of x.how) ≡ caches (at_of x.how)
      → RowIn shape ram caches old j x x.kind → RowIn shape ram later new j x x.kind
  row_moves x same e f = kind_moves x x.kind same e f

-- ---- the row of what is out is that of its answer

module _ (shape : Shape) (ram : ℕ) (caches : Caches) (items : List Item) (j n seen : ℕ) where
  load_answered : (x y : Item) → x.addr ≡ y.addr → x.size ≡ y.size → LoadRow shape ram caches items j y (Commit 0 seen) → LoadRow shape ram caches items j x (Commit n seen)
  load_answered x y a z (inl f) = inl (
    subst (λ (v : ℕ). v < ram) (sym a) f.0,
    λ i store h o. f.1 i store h (let c = o.0 in let d = o.1 in (omega (arith, a, z, c), omega (arith, a, z, d))),
    subst (λ (v : ℕ). IsMissing shape Dcache (caches seen Dcache) (record y { addr = v })) (sym a) f.2,
  )
  load_answered x y a z (inr f) = inr (subst (λ (v : ℕ). IsIo v) (sym a) f.0, f.1)

  abbrev asked_at : Item → Item
  asked_at y = record y { how = Commit 0 seen }

  kind_answered : (x y : Item) (k asked : ItemKind) → x.addr ≡ y.addr → x.size ≡ y.size → x.how ≡ Commit n seen → IsLike k asked
      → RowIn shape ram caches items j (asked_at y) asked → RowIn shape ram caches items j x k
  kind_answered x y kind.Fetch asked a z how like f =
      let g : RowIn shape ram caches items j (asked_at y) kind.Fetch = subst (λ (v : ItemKind). RowIn shape ram caches items j (asked_at y) v) like f in
      let m : FetchRow shape caches x (Commit n seen) = subst (λ (v : ℕ). IsMissing shape Icache (caches seen Icache) (record y { addr = v })) (sym a) g.1 in
      (subst (λ (v : ℕ). v < ram) (sym a) g.0, subst (λ (w : How). FetchRow shape caches x w) (sym how) m)
  kind_answered x y kind.Load asked a z how like f =
      let g : RowIn shape ram caches items j (asked_at y) kind.Load = subst (λ (v : ItemKind). RowIn shape ram caches items j (asked_at y) v) like f in
      subst (λ (w : How). LoadRow shape ram caches items j x w) (sym how) (load_answered x (asked_at y) a z g)
  kind_answered x y (kind.Atomic wrote) (kind.Atomic writes) a z how like f =
      (subst (λ (v : ℕ). v < ram) (sym a) f.0, subst (λ (w : How). AtomicRow items j w) (sym how) f.1)
  kind_answered x y (kind.Atomic wrote) kind.Fetch a z how like f = absurd like
  kind_answered x y (kind.Atomic wrote) kind.Load a z how like f = absurd like
  kind_answered x y (kind.Atomic wrote) kind.Store a z how like f = absurd like
  kind_answered x y (kind.Atomic wrote) kind.Membar a z how like f = absurd like
  kind_answered x y (kind.Atomic wrote) kind.Flush a z how like f = absurd like
  kind_answered x y kind.Store asked a z how like f = absurd like
  kind_answered x y kind.Membar asked a z how like f = absurd like
  kind_answered x y kind.Flush asked a z how like f = absurd like

  pub row_answered : (x y : Item) → x.addr ≡ y.addr → x.size ≡ y.size → x.how ≡ Commit n seen → IsLike x.kind y.kind
      → RowIn shape ram caches items j (asked_at y) y.kind → RowIn shape ram caches items j x x.kind
  row_answered x y a z how like f = kind_answered x y x.kind y.kind a z how like f
