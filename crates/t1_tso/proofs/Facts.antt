-- A joint history gives the facts that its laws rest on.
use Rattle.std.proofs.Common.{◌≡◌, ℕ, zero, suc, ◌+◌, ◌*◌, ◌/◌, ◌%◌, ◌^◌, ◌<◌, ◌≤◌, ◌⊎◌, ◌==◌, ◌&&◌, inl, inr, Bool, true, false, cond, List, [], ◌∷◌, length, get_or, Option, Some, None, refl, ap, sym, ◌∙◌, subst, arith}
use Rattle.std.specs.List.{slice_get}
use Rattle.std.proofs.lemmas.Bool.{eq-eqb, ne_eqb, and_from}
use Rattle.t1_num.specs.Memory.{IsSize}
use Rattle.t1_shape.specs.Shapes.{Shape}
use Rattle.t1_shape.specs.Numbers.{banks, io_bridge, bank_at}
use Rattle.t1_shape.specs.Slots.{Layout, set_of, slot_of}
use Rattle.t1_shape.proofs.Slots.{slot_split, set_of_slot, slot_some}
use Rattle.t1_shape.proofs.Once.{FillsAt}
use Rattle.t1_space.specs.Places.{is_io}
use Rattle.t1_packet.specs.declared.cache.Cache.{Cache}
use Rattle.t1_packet.specs.Ops.{op_addr, dest_of}
use Rattle.t1_packet.specs.Caches.{layout, filled_line}
use Rattle.t1_event.specs.declared.item.Item.{Item}
use Rattle.t1_event.specs.declared.item.ItemKind.{ItemKind}
use Rattle.t1_event.specs.declared.item.ItemKind.TheVariants as kind
use Rattle.t1_event.specs.declared.commit.Commit.{Commit}
use Rattle.t1_event.specs.declared.trace.Trace.{Trace}
use Rattle.t1_event.specs.Kinds.{IsAccess}
use Rattle.t1_event.specs.Items.{IsIo, items_of}
use Rattle.t1_event.specs.Order.{Act}
use Rattle.t1_event.specs.Log.{core_of}
use Rattle.t1_event.specs.Records.{op_of}
use Rattle.t1_event.specs.Kills.{kills_below, way_for, fill_way_in}
use Rattle.t1_event.specs.Posts.{victim_at}
use Rattle.t1_joint.specs.Shaped.{IsShaped}
use Rattle.t1_joint.specs.JointHistory.{IsJointHistory, run_of, shown_at}
use Rattle.t1_shape.proofs.Numbers.{bank_below}
use Rattle.t1_event.specs.Items.{reads_of, unplaced}
use Rattle.t1_joint.specs.Replay.{units, started}
use Rattle.t1_joint.specs.Start.{Setup, start_in, bounds_in}
use Rattle.t1_joint.specs.Shaped.{LiesRightly}
use Rattle.t1_joint.proofs.Shapes.{replay_shaped, unplaced_at, placed_shape}
use Rattle.t1_tso.proofs.Joint.{Joint}
use Rattle.t1_tso.proofs.Rams.{directory_in_ram, none_killed}

-- ---- addresses

pub io_true : (addr : ℕ) → IsIo addr → is_io addr ≡ true
io_true addr io =
    let a : addr / 2 ^ 39 % 2 ≡ 1 = omega (arith, io.0, io.1) in
    let b : addr / 2 ^ 40 ≡ 0 = omega (arith, io.0, io.1) in
    and_from (addr / 2 ^ 39 % 2 == 1) (addr / 2 ^ 40 == 0) (eq-eqb (addr / 2 ^ 39 % 2) 1 a) (eq-eqb (addr / 2 ^ 40) 0 b)

pub io_false : (addr ram : ℕ) → addr < ram → ram < 2 ^ 39 → is_io addr ≡ false
io_false addr ram below small =
    let a : addr / 2 ^ 39 % 2 ≡ 0 = omega (arith, below, small) in
    let ne : addr / 2 ^ 39 % 2 ≡ 1 → ⊥ = λ e. omega (arith, a, e) in
    ap (λ (b : Bool). b && (addr / 2 ^ 40 == 0)) (ne_eqb (addr / 2 ^ 39 % 2) 1 ne)

-- where an access lies, and where its request goes
abbrev pub LiesAt : Shape → ℕ → ℕ → Type 0
LiesAt shape ram addr = ((addr < ram) × (dest_of shape addr < banks shape)) ⊎ (IsIo addr × (dest_of shape addr ≡ io_bridge shape))

pub dest_in_ram : (shape : Shape) (ram addr : ℕ) → ram < 2 ^ 39 → addr < ram → dest_of shape addr ≡ bank_at shape addr
dest_in_ram shape ram addr small below = ap (λ (b : Bool). cond b (io_bridge shape) (bank_at shape addr)) (io_false addr ram below small)

pub in_ram : (shape : Shape) (ram addr : ℕ) → ram < 2 ^ 39 → addr < ram → LiesAt shape ram addr
in_ram shape ram addr small below =
    let e : dest_of shape addr ≡ bank_at shape addr = ap (λ (b : Bool). cond b (io_bridge shape) (bank_at shape addr)) (io_false addr ram below small) in
    inl (below, omega (arith, e, bank_below shape addr))

pub in_io : (shape : Shape) (ram addr : ℕ) → IsIo addr → LiesAt shape ram addr
in_io shape ram addr io = inr (io, ap (λ (b : Bool). cond b (io_bridge shape) (bank_at shape addr)) (io_true addr io))

pub begins : (addr size ram : ℕ) → IsSize size → addr + size ≤ ram → addr < ram
begins addr size ram s l = omega (arith, s, l)

pub lies_at : (shape : Shape) (ram : ℕ) (x : Item) (k : ItemKind) → ram < 2 ^ 39 → IsSize x.size → IsAccess k → LiesRightly ram x k → LiesAt shape ram x.addr
lies_at shape ram x kind.Fetch small s a l = in_ram shape ram x.addr small (begins x.addr x.size ram s l.1)
lies_at shape ram x kind.Load small s a (inl l) = in_ram shape ram x.addr small (begins x.addr x.size ram s l)
lies_at shape ram x kind.Load small s a (inr io) = in_io shape ram x.addr io
lies_at shape ram x kind.Store small s a (inl l) = in_ram shape ram x.addr small (begins x.addr x.size ram s l)
lies_at shape ram x kind.Store small s a (inr io) = in_io shape ram x.addr io
lies_at shape ram x (kind.Atomic wrote) small s a l = in_ram shape ram x.addr small (begins x.addr x.size ram s l)
lies_at shape ram x kind.Membar small s a l = cc
lies_at shape ram x kind.Flush small s a l = cc

pub op_addr_of : (x : Item) (way : Option ℕ) (k : ItemKind) → IsAccess k → op_addr (op_of x way k) ≡ x.addr
op_addr_of x way kind.Fetch a = refl
op_addr_of x way kind.Load a = refl
op_addr_of x way kind.Store a = refl
op_addr_of x way (kind.Atomic true) a = refl
op_addr_of x way (kind.Atomic false) a = refl
op_addr_of x way kind.Membar a = cc
op_addr_of x way kind.Flush a = cc

-- ---- traces

-- an item of the traces is one of a trace
pub find_trace : (traces : List Trace) (s k : ℕ) (x : Item) → slice_get (get_or (items_of traces) s []) k ≡ Some x
    → (trace : Trace) × (slice_get traces s ≡ Some trace) × (slice_get trace.items k ≡ Some x)
find_trace [] s k x e = cc
find_trace (t ∷ traces) zero k x e = (t, refl, e)
find_trace (t ∷ traces) (suc s) k x e = find_trace traces s k x e

length-items_of : (traces : List Trace) → length (items_of traces) ≡ length traces
length-items_of [] = refl
length-items_of (t ∷ traces) = ap suc (length-items_of traces)

-- ---- fills

-- the way of a fill is that of the slot where the line is shown
pub fills_at : (shape : Shape) (cache : Cache) (tags : List (Option ℕ)) (line asked way : ℕ) → way ≡ fill_way_in shape cache tags line asked → way < (layout shape cache).ways
    → (o : Option ℕ) → slot_of (layout shape cache) tags line ≡ o → FillsAt (layout shape cache) o line way
fills_at shape cache tags line asked way is small None e = small
fills_at shape cache tags line asked way is small (Some j) e =
    let g : Layout = layout shape cache in
    let found = slot_some g tags line j e in
    let way_is : way ≡ j % g.ways = is ∙ ap (λ (o : Option ℕ). way_for g o asked) e in
    let set_is : j / g.ways ≡ set_of g line = set_of_slot g (set_of g line) j found.above found.below in
    ap (λ (s : ℕ). g.ways * s + way) (sym set_is) ∙ (ap (λ (v : ℕ). g.ways * (j / g.ways) + v) way_is ∙ slot_split g j)

-- ---- all

module _ (w : Setup) (traces : List Trace) (log : List Commit) (j : IsJointHistory w traces log) where
  small : length w.image.ram < 2 ^ 39
  small = omega (arith, j.setup.ram, j.setup.small)

  shaped : (x : Act (items_of traces)) → IsAccess x.item.kind → IsShaped (length w.image.ram) x.item
  shaped x a =
      let t = find_trace traces x.strand x.number x.item x.stands in
      let f = (j.table x.strand t.0 t.1).follows in
      let here : slice_get (units (bounds_in w.config) f.count (started (start_in w.config w.image.entry x.strand) (reads_of t.0.items))).items x.number ≡ Some (unplaced x.item) =
      ap (λ (xs : List Item). slice_get xs x.number) f.is.items ∙ unplaced_at t.0.items x.number x.item t.2 in
      let s : IsShaped w.config.ram (unplaced x.item) = replay_shaped (bounds_in w.config) j.setup.blocks (start_in w.config w.image.entry x.strand) (reads_of t.0.items) f.count x.number (unplaced x.item) here a in
      subst (λ (n : ℕ). IsShaped n x.item) (sym j.setup.ram) (placed_shape w.config.ram x.item s)

  -- where a commit's access lies, and which destination served it
  served_where : (n : ℕ) (c : Commit) → slice_get log n ≡ Some c
      → ((op_addr c.op < length w.image.ram) × (c.dest < banks w.config.chip)) ⊎ (IsIo (op_addr c.op) × (c.dest ≡ io_bridge w.config.chip))
  served_where n c is =
      let nx = j.naming.names n c is in
      let r = j.banks.record_is n c nx.0 is nx.2 in
      let s = shaped nx.0 nx.1 in
      let addr : op_addr c.op ≡ nx.0.item.addr = ap op_addr r.op ∙ op_addr_of nx.0.item c.way nx.0.item.kind nx.1 in
      elim (lies_at w.config.chip (length w.image.ram) nx.0.item nx.0.item.kind small s.size nx.1 s.lies) [
        | inl p ↦ inl (omega (arith, addr, p.0), omega (arith, r.dest, p.1))
        | inr p ↦ inr (subst IsIo (sym addr) p.0, r.dest ∙ p.1)
      ]

  only_ram_fills : (n : ℕ) (c : Commit) (way : ℕ) → slice_get log n ≡ Some c → c.way ≡ Some way → op_addr c.op < length w.image.ram
  only_ram_fills n c way is e =
      elim (served_where n c is) [
        | inl p ↦ p.0
        | inr p ↦ let clash : ◌≡◌ {A = Option ℕ} None (Some way) = sym (j.banks.bridge n c is p.1).way ∙ e in cc
      ]

  kills_are : (n : ℕ) (c : Commit) → slice_get log n ≡ Some c
      → c.kills ≡ kills_below w.config.chip (shown_at (run_of w traces log) n) (core_of w.config.strands c) c.evicted c.op w.config.cores
  kills_are n c is =
      elim (served_where n c is) [
        | inl p ↦ (j.banks.bank n c is p.1).kills
        | inr p ↦
            let b = j.banks.bridge n c is p.1 in
            let blocks : length w.image.ram % 65536 ≡ 0 = subst (λ (n : ℕ). n % 65536 ≡ 0) (sym j.setup.ram) j.setup.blocks in
            let none : kills_below w.config.chip (shown_at (run_of w traces log) n) (core_of w.config.strands c) None c.op w.config.cores ≡ [] =
            none_killed w.config.chip (length w.image.ram) (shown_at (run_of w traces log) n) (core_of w.config.strands c) c.op w.config.cores
            (λ core cache. directory_in_ram w.config.chip (length w.image.ram) w.config.strands log only_ram_fills core cache n) blocks (omega (arith, small, p.0.0)) in
            b.kills ∙ sym (ap (λ (e : Option ℕ). kills_below w.config.chip (shown_at (run_of w traces log) n) (core_of w.config.strands c) e c.op w.config.cores) b.evicted ∙ none)
      ]

  fill_is : (n : ℕ) (c : Commit) (cache : Cache) (line way : ℕ) → slice_get log n ≡ Some c → filled_line cache c.op ≡ Some line → c.way ≡ Some way
      → FillsAt (layout w.config.chip cache) (slot_of (layout w.config.chip cache) (shown_at (run_of w traces log) n (core_of w.config.strands c) cache) line) line way
  fill_is n c cache line way is il iw =
      elim (served_where n c is) [
        | inl p ↦
            let f = (j.banks.bank n c is p.1).fills cache line il in
            let same : f.0 ≡ way = let e : Some f.0 ≡ Some way = sym f.1 ∙ iw in cc in
            fills_at w.config.chip cache (shown_at (run_of w traces log) n (core_of w.config.strands c) cache) line
            (victim_at w.config.chip w.config.strands w.image.ram log (core_of w.config.strands c) cache c.seen line) way
            (j.places.filled n c is cache line way il iw) (omega (arith, f.2, same))
            (slot_of (layout w.config.chip cache) (shown_at (run_of w traces log) n (core_of w.config.strands c) cache) line) refl
        | inr p ↦ let clash : ◌≡◌ {A = Option ℕ} None (Some way) = sym (j.banks.bridge n c is p.1).way ∙ iw in cc
      ]

  pub joint : Joint (run_of w traces log)
  joint = record {
    strands = j.setup.strands.0;
    traces = length-items_of traces ∙ j.all_strands;
    blocks = subst (λ (n : ℕ). n % 65536 ≡ 0) (sym j.setup.ram) j.setup.blocks;
    small = small;
    naming = j.naming;
    seen = j.times.seen;
    program = j.program;
    rows = λ x a. (j.places.rightly x a).row;
    op = λ n c x is names. (j.banks.record_is n c x is names).op;
    ram = only_ram_fills;
    kills = kills_are;
    fill = fill_is;
    shaped = shaped;
  }
