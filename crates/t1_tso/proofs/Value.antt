-- The value axiom of a joint history whose L1 lines hold memory.
use Rattle.std.proofs.Common.{◌≡◌, ℕ, ◌+◌, ◌*◌, ◌%◌, ◌<◌, ◌≤◌, ◌⊎◌, inl, inr, List, [], length, get_or, Option, Some, None, refl, ap, sym, ◌∙◌, subst, arith}
use Rattle.std.specs.List.{slice_get}
use Rattle.std.proofs.lemmas.Bool.{cases_lt, cases_eq, cases_order}
use Rattle.std.proofs.lemmas.List.{get_or_past}
use Rattle.std.proofs.lemmas.Nat.{div_below}
use Rattle.t1_shape.specs.Slots.{Line}
use Rattle.t1_packet.specs.declared.cache.Cache.{Cache}
use Rattle.t1_packet.specs.declared.cache.Cache.TheVariants.{Dcache, Icache}
use Rattle.t1_packet.specs.declared.op.Op.{Op}
use Rattle.t1_packet.specs.Caches.{layout, width, line_of}
use Rattle.t1_event.specs.declared.item.Item.{Item}
use Rattle.t1_event.specs.declared.item.ItemKind.{ItemKind}
use Rattle.t1_event.specs.declared.item.ItemKind.TheVariants as kind
use Rattle.t1_event.specs.declared.item.How.{How}
use Rattle.t1_event.specs.declared.item.How.TheVariants as how
use Rattle.t1_event.specs.declared.report.Place.{Place}
use Rattle.t1_event.specs.declared.commit.Commit.{Commit}
use Rattle.t1_event.specs.Kinds.{IsRead, IsAccess, IsChanging}
use Rattle.t1_event.specs.Items.{Covers, byte_got, byte_put, IsIo}
use Rattle.t1_event.specs.Order.{Act, place_of, Earlier, Before, IsCandidate, IsLastWrite, ObeysTso}
use Rattle.t1_event.specs.Times.{at_of, done_of}
use Rattle.t1_event.specs.Keys.{major, IsOrderByKeys}
use Rattle.t1_event.specs.Log.{memory_at}
use Rattle.t1_event.specs.Records.{op_of}
use Rattle.t1_event.specs.Posts.{memory_line}
use Rattle.t1_event.specs.Places.{Run, home, cache_at, IsRam, GotMemory, GotLine, IsHeld, Overlaps, NoneOverlaps, IsForwarded, FetchPlaced, LoadPlaced, AtomicPlaced, Row}
use Rattle.t1_joint.specs.JointHistory.{Names}
use Rattle.t1_tso.proofs.Joint.{Joint, read_access, write_access, ram_ends}
use Rattle.t1_tso.proofs.Order.{before_from_key, key_from_before}
use Rattle.t1_tso.proofs.Program.{seen_before, load_op, store_store, barrier}
use Rattle.t1_tso.proofs.Memory.{OpCovers, op_byte, memory_byte}
use Rattle.t1_tso.proofs.Limits.{change_covers, covers_change, change_write, as_commit, write_commits, limit_major, major_limit, same_major, at_limit, limit}
use Rattle.t1_tso.proofs.LineBytes.{same_line, line_byte, found_line}

-- each valid line of the caches holds its bytes of memory, whatever the time
abbrev pub LinesHold : Run → Type 0
LinesHold h = (core : ℕ) (cache : Cache) (t slot : ℕ) (line : Line) → core < h.cores
    → get_or (cache_at h core cache t) slot None ≡ Some line → line.bytes ≡ memory_line cache (memory_at h.image h.log t) line.number

-- a strand of the traces is one of a core
no_item : (xs : List Item) (k : ℕ) (x : Item) → xs ≡ [] → slice_get xs k ≡ Some x → ⊥
no_item xs k x e is = let clash : ◌≡◌ {A = Option Item} None (Some x) = sym (ap (λ (ys : List Item). slice_get ys k) e) ∙ is in cc

pub core_below : (h : Run) (j : Joint h) (x : Act h.traces) → home h x < h.cores
core_below h j x =
    elim (cases_lt x.strand (length h.traces)) [
      | inl l ↦ div_below x.strand h.strands h.cores j.strands (omega (arith, l, j.traces))
      | inr past ↦ absurd (no_item (get_or h.traces x.strand []) x.number x.item (get_or_past h.traces x.strand [] past) x.stands)
    ]

module _ (h : Run) (j : Joint h) (order : List Place) (o : IsOrderByKeys h.traces order) where
  -- a changing write and its commit
  record Changed (w : Act h.traces) : Type 0 where
    index : ℕ
    commit : Commit
    is : slice_get h.log index ≡ Some commit
    names : Names commit index w

  changed : (w : Act h.traces) → IsChanging w.item.kind → Changed w
  changed w c =
      let iw = change_write w.item.kind c in
      let at = as_commit w.item.how (write_commits h w w.item.kind iw (j.rows w (write_access w.item.kind iw))) in
      let named = j.naming.named w at.0 at.1 at.2 in
      record { index = at.0; commit = named.0; is = named.1; names = named.2 }

  -- two items that one commit names stand at one place
  same_place : (n : ℕ) (c d : Commit) (x y : Act h.traces) → slice_get h.log n ≡ Some c → slice_get h.log n ≡ Some d
      → Names c n x → Names d n y → (x.strand ≡ y.strand) × (x.number ≡ y.number)
  same_place n c d x y ic id nx ny =
      let e : Some c ≡ Some d = sym ic ∙ id in
      let same : c ≡ d = cc in
      (sym nx.strand ∙ (ap (λ (r : Commit). r.strand) same ∙ ny.strand), sym nx.item ∙ (ap (λ (r : Commit). r.item) same ∙ ny.item))

  -- a commit below the limit stands before
  limit_before : (w r : Act h.traces) (n s : ℕ) → IsAccess w.item.kind → IsAccess r.item.kind → w.item.how ≡ how.Commit n s → n < limit r.item.how → Before order w r
  limit_before w r n s aw ar e l =
      let m : major w.item.how ≡ 2 * n + 1 = ap major e in
      let m' : 2 * n + 1 < major r.item.how = limit_major r.item.how n l in
      before_from_key order o w r aw ar (inl (omega arith))

  -- what stands before is below the limit
  before_limit : (w r : Act h.traces) (n s : ℕ) → w.item.how ≡ how.Commit n s → Before order w r → n < limit r.item.how
  before_limit w r n s e b =
      let m : major w.item.how ≡ 2 * n + 1 = ap major e in
      elim (key_from_before order o w r b) [
        | inl l ↦ major_limit r.item.how n (omega (arith, l, m))
        | inr (q, t) ↦
            let at = same_major r.item.how n (sym m ∙ q) in
            let nw = j.naming.named w n s e in
            let nr = j.naming.named r n at.0 at.1 in
            let same = same_place n nw.0 nr.0 w r nw.1 nr.1 nw.2 nr.2 in
            absurd (omega (arith, same, t))
      ]

  -- a read whose byte is that of memory after the commits below its limit, where no own earlier write is later
  value_at_limit : (r : Act h.traces) (a : ℕ) → IsRead r.item.kind → a < length h.image
      → byte_got r.item a ≡ get_or (memory_at h.image h.log (limit r.item.how)) a 0
      → ((w : Act h.traces) (n s : ℕ) → IsChanging w.item.kind → Covers w.item a → (r.item.kind ≡ kind.Fetch → ⊥) → Earlier w r → w.item.how ≡ how.Commit n s → n < limit r.item.how)
      → ((w : Act h.traces) × IsLastWrite order r a w × (byte_got r.item a ≡ byte_put w.item a))
      ⊎ (((w : Act h.traces) → IsCandidate order r a w → ⊥) × (byte_got r.item a ≡ get_or h.image a 0))
  value_at_limit r a read within got own =
      let N = limit r.item.how in
      -- each candidate is a commit below the limit that covers the byte
      let below : (w : Act h.traces) (n s : ℕ) → IsCandidate order r a w → w.item.how ≡ how.Commit n s → n < N =
      λ w n s cand e. elim cand.seen [
        | inl b ↦ before_limit w r n s e b
        | inr p ↦ own w n s cand.changes cand.covers p.0 p.1 e
      ] in
      elim (memory_byte h.image h.log N a within) [
        | inl (l, e) ↦
            let nx = j.naming.names l.index l.commit l.is in
            let x = nx.0 in
            let op : l.commit.op ≡ op_of x.item l.commit.way x.item.kind = j.op l.index l.commit x l.is nx.2 in
            let cov : OpCovers (op_of x.item l.commit.way x.item.kind) a = subst (λ (p : Op). OpCovers p a) op l.covers in
            let facts = covers_change x.item l.commit.way x.item.kind a cov in
            let before : Before order x r = limit_before x r l.index l.commit.seen nx.1 (read_access r.item.kind read) nx.2.how_is l.below in
            let cand : IsCandidate order r a x = record { changes = facts.0; covers = facts.1; seen = inl before } in
            let last : (v : Act h.traces) → IsCandidate order r a v → (place_of v ≡ place_of x) ⊎ Before order v x = λ v cv.
            let ch = changed v cv.changes in
            let nv : ch.index < N = below v ch.index ch.commit.seen cv ch.names.how_is in
            let opv : ch.commit.op ≡ op_of v.item ch.commit.way v.item.kind = j.op ch.index ch.commit v ch.is ch.names in
            let covv : OpCovers ch.commit.op a = subst (λ (p : Op). OpCovers p a) (sym opv) (change_covers v.item ch.commit.way v.item.kind a cv.changes cv.covers) in
            elim (cases_order ch.index l.index) [
              | inl same ↦
                  let at : slice_get h.log l.index ≡ Some ch.commit = subst (λ (i : ℕ). slice_get h.log i ≡ Some ch.commit) same ch.is in
                  let names : Names ch.commit l.index v = subst (λ (i : ℕ). Names ch.commit i v) same ch.names in
                  let places = same_place l.index ch.commit l.commit v x at l.is names nx.2 in
                  inl (cc (places.0, places.1))
              | inr (inl less) ↦
                  let lx : limit x.item.how ≡ l.index = ap limit nx.2.how_is in
                  inr (limit_before v x ch.index ch.commit.seen (write_access v.item.kind (change_write v.item.kind cv.changes)) nx.1 ch.names.how_is (omega arith))
              | inr (inr more) ↦ absurd (l.last ch.index ch.commit more nv ch.is covv)
            ] in
            inl (x, record { candidate = cand; last = last }, got ∙ (e ∙ (ap (λ (p : Op). op_byte p a) op ∙ facts.2)))
        | inr (none, e) ↦
            inr (
              λ w cw.
                  let ch = changed w cw.changes in
                  let nw : ch.index < N = below w ch.index ch.commit.seen cw ch.names.how_is in
                  let opw : ch.commit.op ≡ op_of w.item ch.commit.way w.item.kind = j.op ch.index ch.commit w ch.is ch.names in
                  none ch.index ch.commit nw ch.is (subst (λ (p : Op). OpCovers p a) (sym opw) (change_covers w.item ch.commit.way w.item.kind a cw.changes cw.covers)),
              got ∙ e,
            )
      ]

  -- a changing write is a store or an atomic, which is a read
  change_cases : (k : ItemKind) → IsChanging k → (k ≡ kind.Store) ⊎ IsRead k
  change_cases kind.Store c = inl refl
  change_cases (kind.Atomic w) c = inr refl
  change_cases kind.Fetch c = cc
  change_cases kind.Load c = cc
  change_cases kind.Membar c = cc
  change_cases kind.Flush c = cc

  done_index : (w : How) (n s : ℕ) → w ≡ how.Commit n s → done_of w ≡ n + 1
  done_index w n s e = ap done_of e

  -- an own earlier changing write is below the limit, or held
  own_write : (r w : Act h.traces) (n s : ℕ) → IsRead r.item.kind → IsChanging w.item.kind → Earlier w r → w.item.how ≡ how.Commit n s
      → (n < at_of r.item.how) ⊎ IsHeld r w
  own_write r w n s read c e how =
      let d : done_of w.item.how ≡ n + 1 = done_index w.item.how n s how in
      elim (change_cases w.item.kind c) [
        | inl st ↦ elim (cases_lt n (at_of r.item.how)) [
          | inl l ↦ inl l
          | inr l ↦ inr (record { earlier = e; kind = st; late = omega arith })
        ]
        | inr rw_ ↦ let l : done_of w.item.how ≤ at_of r.item.how = j.program.read w r e rw_ (read_access r.item.kind read) in inl (omega arith)
      ]

  overlap : (x y : Item) (a : ℕ) → Covers x a → Covers y a → Overlaps x y
  overlap x y a p q = (omega (arith, p, q), omega (arith, p, q))

  own_none : (r w : Act h.traces) (n s a : ℕ) → IsRead r.item.kind → NoneOverlaps r → Covers r.item a → IsChanging w.item.kind → Covers w.item a → Earlier w r → w.item.how ≡ how.Commit n s
      → n < limit r.item.how
  own_none r w n s a read none cr c cw e how =
      let l : at_of r.item.how ≤ limit r.item.how = at_limit r.item.how (seen_before h j r (read_access r.item.kind read)) in
      elim (own_write r w n s read c e how) [
        | inl b ↦ omega arith
        | inr held ↦ absurd (none w held (overlap w.item r.item a cw cr))
      ]

  -- a forwarded read
  value_forward : (r : Act h.traces) (a t : ℕ) → IsRead r.item.kind → (r.item.kind ≡ kind.Fetch → ⊥) → r.item.how ≡ how.Forward t → Covers r.item a → IsForwarded r
      → (w : Act h.traces) × IsLastWrite order r a w × (byte_got r.item a ≡ byte_put w.item a)
  value_forward r a t read not_fetch how cr f =
      let x = f.from in
      let store : IsChanging x.item.kind = subst (λ (k : ItemKind). IsChanging k) (sym f.held.kind) refl in
      let cx = changed x store in
      let at_r : at_of r.item.how ≡ t = ap at_of how in
      let limit_r : limit r.item.how ≡ t = ap limit how in
      let late : t ≤ cx.index = let d : done_of x.item.how ≡ cx.index + 1 = done_index x.item.how cx.index cx.commit.seen cx.names.how_is in omega (arith, d, f.held.late, at_r) in
      let lx : limit x.item.how ≡ cx.index = ap limit cx.names.how_is in
      let cand : IsCandidate order r a x = record { changes = store; covers = f.covers a cr; seen = inr (not_fetch, f.held.earlier) } in
      let last : (v : Act h.traces) → IsCandidate order r a v → (place_of v ≡ place_of x) ⊎ Before order v x = λ v cv.
      let ch = changed v cv.changes in
      let before : ch.index < t → (place_of v ≡ place_of x) ⊎ Before order v x = λ l.
      inr (limit_before v x ch.index ch.commit.seen (write_access v.item.kind (change_write v.item.kind cv.changes)) (write_access x.item.kind (change_write x.item.kind store)) ch.names.how_is (omega arith)) in
      elim cv.seen [
        | inl b ↦ before (let l : ch.index < limit r.item.how = before_limit v r ch.index ch.commit.seen ch.names.how_is b in omega arith)
        | inr p ↦ elim (own_write r v ch.index ch.commit.seen read cv.changes p.1 ch.names.how_is) [
          | inl l ↦ before (omega arith)
          | inr held ↦
              let top : v.number ≤ x.number = f.last v held (overlap v.item r.item a cv.covers cr) in
              let strands : v.strand ≡ x.strand = p.1.strand ∙ sym f.held.earlier.strand in
              elim (cases_eq v.number x.number) [
                | inl same ↦ inl (cc)
                | inr apart ↦ inr (store_store h j order o v x (record { strand = strands; number = omega arith }) (change_write v.item.kind cv.changes) (change_write x.item.kind store))
              ]
        ]
      ] in
      (x, record { candidate = cand; last = last }, f.bytes a cr)

  not_ram : (x : Act h.traces) → IsIo x.item.addr → IsRam h x.item → ⊥
  not_ram x io ram = omega (arith, io.0, ram, j.small)

  module _ (lines : LinesHold h) where
    Valued : Act h.traces → ℕ → Type 0
    Valued r a =
        ((w : Act h.traces) × IsLastWrite order r a w × (byte_got r.item a ≡ byte_put w.item a))
        ⊎ (((w : Act h.traces) → IsCandidate order r a w → ⊥) × (byte_got r.item a ≡ get_or h.image a 0))

    within : (r : Act h.traces) (a : ℕ) → IsRead r.item.kind → IsRam h r.item → Covers r.item a → a < length h.image
    within r a read ram cr = let l = ram_ends h j r (read_access r.item.kind read) ram in omega (arith, l, cr)

    -- a hit got bytes of memory
    hit_bytes : (r : Act h.traces) (cache : Cache) (a t : ℕ) → IsRead r.item.kind → Covers r.item a → GotLine h.shape cache (cache_at h (home h r) cache t) r.item
        → byte_got r.item a ≡ get_or (memory_at h.image h.log t) a 0
    hit_bytes r cache a t read cr g =
        let s = j.shaped r (read_access r.item.kind read) in
        let f = found_line (layout h.shape cache) (cache_at h (home h r) cache t) (line_of cache r.item.addr) g.line g.present in
        let line : g.line.bytes ≡ memory_line cache (memory_at h.image h.log t) g.line.number =
        lines (home h r) cache t f.0 g.line (core_below h j r) f.1 in
        let q : line_of cache a ≡ line_of cache r.item.addr = same_line cache r.item.addr r.item.size a s.size s.aligned cr.0 cr.1 in
        let at : g.line.number ≡ line_of cache a = f.2 ∙ sym q in
        let bytes : g.line.bytes ≡ memory_line cache (memory_at h.image h.log t) (line_of cache a) =
        line ∙ ap (λ (n : ℕ). memory_line cache (memory_at h.image h.log t) n) at in
        g.bytes a cr ∙ (ap (λ (bs : List ℕ). get_or bs (a % width cache) 0) bytes ∙ line_byte cache (memory_at h.image h.log t) a)

    hit_value : (r : Act h.traces) (cache : Cache) (a t : ℕ) → IsRead r.item.kind → r.item.how ≡ how.Hit t → IsRam h r.item → Covers r.item a → GotLine h.shape cache (cache_at h (home h r) cache t) r.item
        → ((r.item.kind ≡ kind.Fetch) ⊎ NoneOverlaps r)
        → Valued r a
    unfolding Valued
    hit_value r cache a t read how ram cr g own =
        let e : byte_got r.item a ≡ get_or (memory_at h.image h.log (limit r.item.how)) a 0 =
        hit_bytes r cache a t read cr g ∙ ap (λ (n : ℕ). get_or (memory_at h.image h.log n) a 0) (sym (ap limit how)) in
        value_at_limit r a read (within r a read ram cr) e (λ w n s c cw not_fetch ew hw. elim own [
          | inl f ↦ absurd (not_fetch f)
          | inr none ↦ own_none r w n s a read none cr c cw ew hw
        ])

    commit_value : (r : Act h.traces) (a n s : ℕ) → IsRead r.item.kind → r.item.how ≡ how.Commit n s → IsRam h r.item → Covers r.item a → GotMemory (memory_at h.image h.log n) r.item
        → ((r.item.kind ≡ kind.Fetch) ⊎ NoneOverlaps r)
        → Valued r a
    unfolding Valued
    commit_value r a n s read how ram cr g own =
        let e : byte_got r.item a ≡ get_or (memory_at h.image h.log (limit r.item.how)) a 0 =
        g a cr ∙ ap (λ (n : ℕ). get_or (memory_at h.image h.log n) a 0) (sym (ap limit how)) in
        value_at_limit r a read (within r a read ram cr) e (λ w n s c cw not_fetch ew hw. elim own [
          | inl f ↦ absurd (not_fetch f)
          | inr none ↦ own_none r w n s a read none cr c cw ew hw
        ])

    load_value : (r : Act h.traces) (a : ℕ) → r.item.kind ≡ kind.Load → IsRead r.item.kind → IsRam h r.item → Covers r.item a
        → (w : How) → r.item.how ≡ w → LoadPlaced h r w → Valued r a
    unfolding Valued
    load_value r a is read ram cr how.Unplaced how p = absurd p
    load_value r a is read ram cr (how.Forward t) how p = inl (value_forward r a t read (λ f. let clash : kind.Load ≡ kind.Fetch = sym is ∙ f in cc) how cr p.1)
    load_value r a is read ram cr (how.Hit t) how p = hit_value r Dcache a t read how ram cr p.2 (inr p.1)
    load_value r a is read ram cr (how.Commit n s) how p =
        elim p [
          | inl q ↦ commit_value r a n s read how ram cr q.3 (inr q.1)
          | inr q ↦ absurd (not_ram r q.0 ram)
        ]

    fetch_value : (r : Act h.traces) (a : ℕ) → r.item.kind ≡ kind.Fetch → IsRead r.item.kind → IsRam h r.item → Covers r.item a
        → (w : How) → r.item.how ≡ w → FetchPlaced h r w → Valued r a
    fetch_value r a is read ram cr how.Unplaced how p = absurd p
    fetch_value r a is read ram cr (how.Forward t) how p = absurd p
    fetch_value r a is read ram cr (how.Hit t) how p = hit_value r Icache a t read how ram cr p (inl is)
    fetch_value r a is read ram cr (how.Commit n s) how p = commit_value r a n s read how ram cr p.1 (inl is)

    atomic_value : (r : Act h.traces) (a : ℕ) → IsRead r.item.kind → IsRam h r.item → Covers r.item a
        → (w : How) → r.item.how ≡ w → AtomicPlaced h r w → Valued r a
    atomic_value r a read ram cr how.Unplaced how p = absurd p
    atomic_value r a read ram cr (how.Forward t) how p = absurd p
    atomic_value r a read ram cr (how.Hit t) how p = absurd p
    atomic_value r a read ram cr (how.Commit n s) how p = commit_value r a n s read how ram cr p.1 (inr (λ y held over. p.0 y held))

    read_value : (r : Act h.traces) (a : ℕ) → IsRead r.item.kind → IsRam h r.item → Covers r.item a
        → (k : ItemKind) → r.item.kind ≡ k → IsRead k → Row h r k → Valued r a
    read_value r a read ram cr kind.Fetch is rk p = fetch_value r a is read ram cr r.item.how refl p.1
    read_value r a read ram cr kind.Load is rk p = load_value r a is read ram cr r.item.how refl p
    read_value r a read ram cr (kind.Atomic b) is rk p = atomic_value r a read ram cr r.item.how refl p.1
    read_value r a read ram cr kind.Store is rk p = cc
    read_value r a read ram cr kind.Membar is rk p = cc
    read_value r a read ram cr kind.Flush is rk p = cc

    load_io : (r : Act h.traces) (w : How) → IsIo r.item.addr → LoadPlaced h r w → r.item.got ≡ 0
    load_io r how.Unplaced io p = absurd p
    load_io r (how.Forward t) io p = absurd (not_ram r io p.0)
    load_io r (how.Hit t) io p = absurd (not_ram r io p.0)
    load_io r (how.Commit n s) io p = elim p [ inl q ↦ absurd (not_ram r io q.0) | inr q ↦ q.2 ]

    read_io : (r : Act h.traces) (k : ItemKind) → IsRead k → IsIo r.item.addr → Row h r k → r.item.got ≡ 0
    read_io r kind.Fetch rk io p = absurd (not_ram r io p.0)
    read_io r kind.Load rk io p = load_io r r.item.how io p
    read_io r (kind.Atomic b) rk io p = absurd (not_ram r io p.0)
    read_io r kind.Store rk io p = cc
    read_io r kind.Membar rk io p = cc
    read_io r kind.Flush rk io p = cc

    pub obeys_tso : ObeysTso h.image h.traces order
    unfolding Valued
    obeys_tso = record {
      load_op = load_op h j order o;
      store_store = store_store h j order o;
      value = record {
        memory = λ r a read within cr. read_value r a read (omega (arith, cr.0, within)) cr r.item.kind refl read (j.rows r (read_access r.item.kind read));
        io = λ r read io. read_io r r.item.kind read io (j.rows r (read_access r.item.kind read));
      };
      barrier = barrier h j order o;
    }
