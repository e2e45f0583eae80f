-- The report of a joint history is well formed.
use Rattle.std.proofs.Common.{◌≡◌, ℕ, zero, suc, ◌+◌, ◌*◌, ◌/◌, ◌%◌, ◌^◌, ◌<◌, ◌≤◌, ◌⊎◌, inl, inr, Bool, true, false, if◌then◌else◌, List, [], ◌∷◌, length, get_or, Option, Some, None, refl, ap, sym, ◌∙◌, subst, arith}
use Rattle.std.specs.Prelude.{All, IsTrue}
use Rattle.std.specs.List.{slice_get}
use Rattle.std.proofs.lemmas.Bool.{and_parts}
use Rattle.std.proofs.lemmas.Option.{slice_get-get_or}
use Rattle.t1_num.specs.Memory.{IsSize}
use Rattle.t1_shape.specs.Shapes.{Shape}
use Rattle.t1_num.specs.declared.chip.ChipKind.TheVariants.{T1}
use Rattle.t1_shape.specs.Numbers.{banks, io_bridge, bank_at}
use Rattle.t1_shape.proofs.Numbers.{bank_below}
use Rattle.t1_space.specs.Places.{is_io}
use Rattle.t1_packet.specs.declared.cache.Cache.{Cache}
use Rattle.t1_packet.specs.declared.cache.Cache.TheVariants.{Dcache, Icache}
use Rattle.t1_packet.specs.declared.op.Op.{Op}
use Rattle.t1_packet.specs.declared.op.Op.TheVariants as op
use Rattle.t1_packet.specs.declared.packet.Packet.{Packet}
use Rattle.t1_packet.specs.Data.{KillData}
use Rattle.t1_packet.specs.Ops.{dest_of}
use Rattle.t1_packet.specs.Caches.{line_of, filled_line}
use Rattle.t1_event.specs.declared.item.Item.{Item}
use Rattle.t1_event.specs.declared.item.ItemKind.{ItemKind}
use Rattle.t1_event.specs.declared.item.ItemKind.TheVariants as kind
use Rattle.t1_event.specs.declared.item.How.{How}
use Rattle.t1_event.specs.declared.item.How.TheVariants as how
use Rattle.t1_event.specs.declared.trace.Trace.{Trace}
use Rattle.t1_event.specs.declared.trace.Ending.{Ending}
use Rattle.t1_event.specs.declared.trace.Ending.TheVariants as ending
use Rattle.t1_event.specs.declared.commit.Commit.{Commit}
use Rattle.t1_event.specs.declared.report.Place.{Place}
use Rattle.t1_event.specs.Kinds.{is_read, is_access, is_changing, IsAccess}
use Rattle.t1_event.specs.Items.{items_of}
use Rattle.t1_event.specs.Times.{IsPlaced, at_of}
use Rattle.t1_event.specs.Order.{Act, IsListing}
use Rattle.t1_event.specs.Posts.{post_by, post_at}
use Rattle.t1_event.specs.Log.{core_of, memory_at}
use Rattle.t1_event.specs.Places.{home}
use Rattle.t1_event.specs.Printable.{FitsDigits, HasText, IsPrintableTrace, IsPrintableCommit, IsPrintableReport, IsEvictedAddress}
use Rattle.t1_joint.specs.Start.{Setup, start_in, bounds_in}
use Rattle.t1_joint.specs.Shaped.{IsShaped, LiesRightly}
use Rattle.t1_joint.specs.JointHistory.{IsJointHistory, IsPostTime, IsBankCommit, IsBridgeCommit, shown_at, run_of}
use Rattle.t1_joint.proofs.Shapes.{items_shaped}
use Rattle.t1_log.proofs.Firsts.{first_is}
use Rattle.t1_take.specs.Limits.{is_in_limits}
use Rattle.t1_take.specs.Items.{IsSizeOf, IsReached, IsValueOf, IsPlaceOf, IsGoodItem, IsGoodEnd, IsGoodTrace}
use Rattle.t1_take.specs.WellFormed.{IsGoodKill, IsGoodWay, IsGoodEvicted, IsGoodCommit, IsGoodPlace, IsWellFormed}
use Rattle.t1_machine_rule.specs.Words.{AreWords}
use Rattle.t1_reads_back.specs.Laws.{reported, JointHistoriesAreWellFormed}
use Rattle.t1_machine_rule.proofs.Texts.{IsSmallEnding, trace_ending}
use Rattle.t1_reads_back.proofs.Blanks.{IsBarrierSize, trace_blank}
use Rattle.t1_reads_back.proofs.Kills.{length-directory, good_at, ways_are, kills_good, none_filled_store, none_filled_swap, none_filled_cas}

-- ---- lists

all_from : {A : Type 0} (P : A → Type 0) (xs : List A) → ((k : ℕ) (x : A) → slice_get xs k ≡ Some x → P x) → All P xs
all_from P xs f k d l = f k (get_or xs k d) (slice_get-get_or xs k d l)

all_at : {A : Type 0} (P : A → Type 0) (xs : List A) (k : ℕ) (x : A) → All P xs → slice_get xs k ≡ Some x → P x
all_at P [] k x a e = let clash : ◌≡◌ {A = Option _} None (Some x) = e in cc
all_at P (y ∷ xs) zero x a e = let same : y ≡ x = cc (e) in subst P same (a 0 x (omega arith))
all_at P (y ∷ xs) (suc k) x a e = all_at P xs k x (λ j d l. a (suc j) d (omega (arith, l))) e

within : {A : Type 0} (xs : List A) (k : ℕ) (x : A) → slice_get xs k ≡ Some x → k < length xs
within [] k x e = let clash : ◌≡◌ {A = Option _} None (Some x) = e in cc
within (y ∷ xs) zero x e = omega arith
within (y ∷ xs) (suc k) x e = (let l = within xs k x e in omega (arith, l))

-- an item that stands in the lists of the traces stands in one of them
stands : (traces : List Trace) (s k : ℕ) (x : Item) → slice_get (get_or (items_of traces) s []) k ≡ Some x
    → (trace : Trace) × (slice_get traces s ≡ Some trace) × (slice_get trace.items k ≡ Some x)
stands [] s k x e = let clash : ◌≡◌ {A = Option Item} None (Some x) = e in cc
stands (t ∷ traces) zero k x e = (t, refl, e)
stands (t ∷ traces) (suc s) k x e = stands traces s k x e

act : (traces : List Trace) (s : ℕ) (trace : Trace) (k : ℕ) (x : Item) → slice_get traces s ≡ Some trace → slice_get trace.items k ≡ Some x → slice_get (get_or (items_of traces) s []) k ≡ Some x
act [] s trace k x e h = let clash : ◌≡◌ {A = Option Trace} None (Some trace) = e in cc
act (t ∷ traces) zero trace k x e h = let same : t ≡ trace = cc (e) in subst (λ (v : Trace). slice_get v.items k ≡ Some x) (sym same) h
act (t ∷ traces) (suc s) trace k x e h = act traces s trace k x e h

-- ---- items

some : (size : ℕ) → IsSize size → 1 ≤ size
some size (inl e) = omega (arith, e)
some size (inr (inl e)) = omega (arith, e)
some size (inr (inr (inl e))) = omega (arith, e)
some size (inr (inr (inr e))) = omega (arith, e)

low : (ram : ℕ) (x : Item) → 1 ≤ x.size → x.addr + x.size ≤ ram → x.addr < ram
low ram x s l = omega (arith, s, l)

-- of a kind
size_good : (ram : ℕ) (x : Item) (k : ItemKind) → (IsAccess k → IsSize x.size × LiesRightly ram x k) → IsBarrierSize k x.size → IsSizeOf k x.size
size_good ram x kind.Fetch s b = (s refl).1.0
size_good ram x kind.Load s b = (s refl).0
size_good ram x kind.Store s b = (s refl).0
size_good ram x (kind.Atomic wrote) s b = (s refl).0
size_good ram x kind.Membar s b = omega (arith, b)
size_good ram x kind.Flush s b = b

reached_good : (ram : ℕ) (x : Item) (k : ItemKind) → (IsAccess k → IsSize x.size × LiesRightly ram x k) → ((IsAccess k → ⊥) → x.addr ≡ 0) → IsReached ram k x.addr
reached_good ram x kind.Fetch s b = low ram x (some x.size (s refl).0) (s refl).1.1
reached_good ram x kind.Load s b = elim (s refl).1 [ inl l ↦ inl (low ram x (some x.size (s refl).0) l) | inr io ↦ inr io ]
reached_good ram x kind.Store s b = elim (s refl).1 [ inl l ↦ inl (low ram x (some x.size (s refl).0) l) | inr io ↦ inr io ]
reached_good ram x (kind.Atomic wrote) s b = low ram x (some x.size (s refl).0) (s refl).1
reached_good ram x kind.Membar s b = b (λ access. cc)
reached_good ram x kind.Flush s b = b (λ access. cc)

value_good : (has : Bool) (size value : ℕ) → (IsTrue has → FitsDigits (2 * size) value) → ((IsTrue has → ⊥) → value ≡ 0) → IsValueOf has size value
value_good true size value f z = f refl
value_good false size value f z = z (λ e. cc)

-- its times, or its index, are words of 32 bits
abbrev IsLow : How → Type 0
IsLow how.Unplaced = Unit {0}
IsLow (how.Forward time) = time < 2 ^ 32
IsLow (how.Hit time) = time < 2 ^ 32
IsLow (how.Commit index seen) = (index < 2 ^ 32) × (seen < 2 ^ 32)

place_good : (access : Bool) (place : How) → (IsTrue access → IsPlaced place) → ((IsTrue access → ⊥) → place ≡ how.Unplaced)
    → (IsTrue access → IsLow place) → IsPlaceOf access place
place_good true how.Unplaced p u l = p refl
place_good true (how.Forward time) p u l = l refl
place_good true (how.Hit time) p u l = l refl
place_good true (how.Commit index seen) p u l = l refl
place_good false place p u l = u (λ e. cc)

end_good : (e : Ending) → IsSmallEnding e → IsGoodEnd (Some e)
end_good ending.Halted l = tt
end_good ending.Spent l = tt
end_good (ending.Fault number) l = omega (arith, l)

-- ---- commits

dest_is : (shape : Shape) (addr : ℕ) → (dest_of shape addr < banks shape) ⊎ (dest_of shape addr ≡ io_bridge shape)
dest_is shape addr = by (is_io addr)
  where
    by : (t : Bool) → ((if t then io_bridge shape else bank_at shape addr) < banks shape) ⊎ ((if t then io_bridge shape else bank_at shape addr) ≡ io_bridge shape)
    by true = inr refl
    by false = inl (bank_below shape addr)

four : (shape : Shape) → shape ≡ T1 → banks shape ≡ 4
four shape first = ap banks first

evicted_good : (o : Option ℕ) → IsEvictedAddress o → IsGoodEvicted o
evicted_good None l = tt
evicted_good (Some addr) l = l

post_within : (strands : ℕ) (image : List ℕ) (log : List Commit) (core n : ℕ) (packet : Packet) → post_at strands image log core n ≡ Some packet → n < length log
post_within strands image log core n packet e = by (slice_get log n) refl
  where
    by : (o : Option Commit) → slice_get log n ≡ o → n < length log
    by None o = let clash : ◌≡◌ {A = Option Packet} None (Some packet) = ap (post_by strands (memory_at image log n) n core) (sym o) ∙ e in cc
    by (Some c) o = within log n c o

module _ (w : Setup) (traces : List Trace) (log : List Commit) (j : IsJointHistory w traces log) (first : w.config.chip ≡ T1) (short : length log < 2 ^ 32) where
  -- ---- places

  time_low : (core t : ℕ) → IsPostTime (run_of w traces log) core t → t < 2 ^ 32
  time_low core t (inl e) = omega (arith, e)
  time_low core t (inr p) = (let l = post_within w.config.strands w.image.ram log core p.0 p.1 p.2 in let e = p.3 in omega (arith, l, e, short))

  place_low : (x : Act (items_of traces)) (place : How) → x.item.how ≡ place → IsAccess x.item.kind → IsLow place
  place_low x how.Unplaced e a = tt
  place_low x (how.Forward time) e a = time_low _ time (subst (λ (v : How). IsPostTime (run_of w traces log) (home (run_of w traces log) x) (at_of v)) e (j.times.at x a))
  place_low x (how.Hit time) e a = time_low _ time (subst (λ (v : How). IsPostTime (run_of w traces log) (home (run_of w traces log) x) (at_of v)) e (j.times.at x a))
  place_low x (how.Commit index seen) e a =
      let named = j.naming.named x index seen e in
      let l = within log index named.0 named.1 in
      (omega (arith, l, short), time_low _ seen (subst (λ (v : How). IsPostTime (run_of w traces log) (home (run_of w traces log) x) (at_of v)) e (j.times.at x a)))

  item_good : (s : ℕ) (trace : Trace) (k : ℕ) (x : Item) → slice_get traces s ≡ Some trace → slice_get trace.items k ≡ Some x → HasText x → IsGoodItem w.config.ram x
  item_good s trace k x is has t =
      let f = (j.table s trace is).follows in
      let b = trace_blank (bounds_in w.config) (start_in w.config w.image.entry s) trace k x f has in
      let shaped : IsAccess x.kind → IsShaped w.config.ram x = λ a. items_shaped (bounds_in w.config) (start_in w.config w.image.entry s) trace k x j.setup.blocks f has a in
      let at : Act (items_of traces) = record { strand = s; number = k; item = x; stands = act traces s trace k x is has } in
      record {
        size = size_good w.config.ram x x.kind (λ a. ((shaped a).size, (shaped a).lies)) b.size;
        aligned = λ a. (shaped a).aligned;
        reached = reached_good w.config.ram x x.kind (λ a. ((shaped a).size, (shaped a).lies)) b.addr;
        got = value_good (is_read x.kind) x.size x.got t.got b.got;
        put = value_good (is_changing x.kind) x.size x.put t.put b.put;
        place = place_good (is_access x.kind) x.how t.placed t.unplaced (λ a. place_low at x.how refl a);
      }

  trace_good : (s : ℕ) (trace : Trace) → slice_get traces s ≡ Some trace → IsPrintableTrace trace → AreWords trace → IsGoodTrace w.config.ram trace
  trace_good s trace is p words =
      let h = j.table s trace is in
      record {
        items = all_from (IsGoodItem w.config.ram) trace.items (λ k x has. item_good s trace k x is has (all_at HasText trace.items k x p.items has));
        count = p.count;
        units = words.units;
        pc = words.pc;
        ended = subst IsGoodEnd (sym h.ended) (end_good h.ending (trace_ending (bounds_in w.config) (start_in w.config w.image.entry s) trace h.ending h.follows h.ended));
      }

  -- ---- commits

  bank_way : (n : ℕ) (c : Commit) → IsBankCommit (run_of w traces log) n c → IsGoodWay c.way
  bank_way n c b = by c.op refl
    where
      filled : (cache : Cache) (line : ℕ) → filled_line cache c.op ≡ Some line → IsGoodWay c.way
      filled cache line e = (let f = b.fills cache line e in let l = f.2 in subst IsGoodWay (sym f.1) (omega (arith, l, ways_are w.config.chip cache first)))

      unfilled : ((cache : Cache) → filled_line cache c.op ≡ None) → IsGoodWay c.way
      unfilled none = subst IsGoodWay (sym (b.fills_nothing none)) tt

      by : (o : Op) → c.op ≡ o → IsGoodWay c.way
      by (op.Fetch addr way) e = filled Icache (line_of Icache addr) (ap (filled_line Icache) e)
      by (op.Load addr size way) e = filled Dcache (line_of Dcache addr) (ap (filled_line Dcache) e)
      by (op.Store addr size value) e = unfilled (λ cache. ap (filled_line cache) e ∙ none_filled_store addr size value cache)
      by (op.Swap addr size new) e = unfilled (λ cache. ap (filled_line cache) e ∙ none_filled_swap addr size new cache)
      by (op.Cas addr size expect new) e = unfilled (λ cache. ap (filled_line cache) e ∙ none_filled_cas addr size expect new cache)

  bank_kills : (n : ℕ) (c : Commit) → IsBankCommit (run_of w traces log) n c → All (IsGoodKill w.config.cores) c.kills
  bank_kills n c b =
      let good = kills_good w.config.chip first (shown_at (run_of w traces log) n) (core_of w.config.strands c) c.evicted c.op w.config.cores w.config.cores (omega arith)
      (λ core cache. let l = length-directory w.config.chip w.config.strands log core cache n in omega (arith, l)) in
      all_from (IsGoodKill w.config.cores) c.kills (λ k kill e. good_at w.config.cores _ k kill good (ap (λ (ks : List KillData). slice_get ks k) (sym b.kills) ∙ e))

  bridge_kills : (c : Commit) → IsBridgeCommit c → All (IsGoodKill w.config.cores) c.kills
  bridge_kills c b =
      all_from (IsGoodKill w.config.cores) c.kills
      (λ k kill e. let clash : ◌≡◌ {A = Option KillData} None (Some kill) = ap (λ (ks : List KillData). slice_get ks k) (sym b.kills) ∙ e in cc)

  commit_good : (n : ℕ) (c : Commit) → slice_get log n ≡ Some c → IsPrintableCommit c → IsGoodCommit w.config.cores (items_of traces) n c
  commit_good n c is p =
      let named = j.naming.names n c is in
      let x = named.0 in
      let r = j.banks.record_is n c x is named.2 in
      let d = dest_is w.config.chip x.item.addr in
      record {
        item = x.item;
        names = subst (λ (s : ℕ). slice_get (get_or (items_of traces) s []) c.item ≡ Some x.item) (sym named.2.strand)
            (subst (λ (i : ℕ). slice_get (get_or (items_of traces) x.strand []) i ≡ Some x.item) (sym named.2.item) x.stands);
        placed = named.2.how_is;
        op = r.op;
        old = r.old;
        dest = elim d [ inl l ↦ omega (arith, l, r.dest, four w.config.chip first) | inr e ↦ omega (arith, e, r.dest, four w.config.chip first) ];
        way = elim d [
          | inl l ↦ bank_way n c (j.banks.bank n c is (omega (arith, l, r.dest)))
          | inr e ↦ subst IsGoodWay (sym (j.banks.bridge n c is (r.dest ∙ e)).way) tt
        ];
        evicted = evicted_good c.evicted p.evicted;
        kills = elim d [
          | inl l ↦ bank_kills n c (j.banks.bank n c is (omega (arith, l, r.dest)))
          | inr e ↦ bridge_kills c (j.banks.bridge n c is (r.dest ∙ e))
        ];
        few = p.kills;
      }

  -- ---- the order

  place_good_at : (order : List Place) → IsListing (items_of traces) order → ((s : ℕ) (trace : Trace) → slice_get traces s ≡ Some trace → length trace.items ≤ 2 ^ 32)
      → (k : ℕ) (p : Place) → slice_get order k ≡ Some p → IsGoodPlace (w.config.cores * w.config.strands) p
  place_good_at order listing count k p e =
      let only = listing.only k p e in
      let x = only.0 in
      let here = stands traces x.strand x.number x.item x.stands in
      let s = within traces x.strand here.0 here.1 in
      let i = within here.0.items x.number x.item here.2 in
      let most = count x.strand here.0 here.1 in
      let all = j.all_strands in
      subst (λ (v : Place). IsGoodPlace (w.config.cores * w.config.strands) v) only.2 (record { strand = omega (arith, s, all); item = omega (arith, i, most) })

  pub report_good : (order : List Place) (console : List ℕ) → IsTrue (is_in_limits w.config) → All AreWords traces → IsListing (items_of traces) order
      → IsPrintableReport (reported w traces log order console) → IsWellFormed (reported w traces log order console)
  report_good order console limits words listing p =
      record {
        limits = limits;
        entry = p.entry;
        image = j.setup.ram;
        number = p.number;
        traces = all_from (IsGoodTrace w.config.ram) traces (λ s trace is. trace_good s trace is (all_at IsPrintableTrace traces s trace p.traces is) (all_at AreWords traces s trace words is));
        log = λ n c is. commit_good n c is (all_at IsPrintableCommit log n c p.log is);
        commits = p.commits;
        order = all_from (IsGoodPlace (w.config.cores * w.config.strands)) order
            (λ k place e. place_good_at order listing (λ s trace is. (all_at IsPrintableTrace traces s trace p.traces is).count) k place e);
      }

pub histories_good : JointHistoriesAreWellFormed
histories_good w traces log order console j limits words short listing printable = report_good w traces log j (first_is w.config (and_parts _ _ limits).0).chip short order console limits words listing printable
