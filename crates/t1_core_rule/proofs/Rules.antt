-- The rule of a core from what it keeps.
use Rattle.std.proofs.Common.{◌≡◌, ◌<◌, ℕ, ◌%◌, ◌==◌, Bool, true, false, List, length, map, drop, Option, Some, None, refl, ap, sym, ◌∙◌, subst, inl, inr}
use Rattle.std.specs.List.{slice_get}
use Rattle.t1_shape.specs.Shapes.{Shape}
use Rattle.t1_decode.specs.Words.{insn_of}
use Rattle.t1_state.specs.declared.strand.Strand.{Strand}
use Rattle.t1_exec.specs.declared.need.Need.{Need}
use Rattle.t1_exec.specs.declared.need.Need.TheVariants as need
use Rattle.t1_exec.specs.declared.need.AtomicOp.TheVariants.{Swap, Cas}
use Rattle.t1_exec.specs.Needs.{need_of}
use Rattle.t1_packet.specs.declared.op.Op.TheVariants as op
use Rattle.t1_packet.specs.Data.{RequestData}
use Rattle.t1_packet.specs.Ops.{dest_of, op_dest, is_store}
use Rattle.t1_elf.specs.declared.object.Image.{Image}
use Rattle.t1_event.specs.declared.report.Config.{Config}
use Rattle.t1_event.specs.declared.item.Item.{Item}
use Rattle.t1_event.specs.declared.item.ItemKind.TheVariants as kind
use Rattle.t1_event.specs.declared.item.How.{How}
use Rattle.t1_event.specs.declared.item.How.TheVariants.{Unplaced, Forward, Hit, Commit}
use Rattle.t1_event.specs.declared.trace.Trace.{Trace}
use Rattle.t1_event.specs.Items.{unplaced}
use Rattle.t1_event.specs.Times.{at_of, IsPlaced}
use Rattle.t1_joint.specs.Lists.{IsIn, AreDistinct}
use Rattle.t1_joint.specs.Start.{Setup}
use Rattle.t1_joint.specs.Parts.{Standing, Fetching, Has, Out, Ended, CorePart, strand_items, answered, unanswered}
use Rattle.t1_joint.specs.Proper.{l1_by}
use Rattle.t1_joint.specs.Waits.{HasItem, IsDoneBy, WaitsFor, LetsSend}
use Rattle.t1_joint.specs.Rows.{FewAreHeldIn, RowIn}
use Rattle.t1_joint.specs.Replay.{Bounds}
use Rattle.t1_joint.specs.Follows.{HasBegun}
use Rattle.t1_joint.specs.CoreRule.{IsAwaiting, IsReplay, ending_at, IsTraceSoFar, IsOut, KeepsRule, IsCore}
use Rattle.t1_strand_order.proofs.Stores.{stores_keep_order, sent_stores_keep_order}
use Rattle.t1_received.specs.Requests.{sent_to}
use Rattle.t1_received.proofs.Lists.{filter_in}
use Rattle.t1_received.proofs.Sorts.{own_class, pending_out, out_pending}
use Rattle.t1_core.specs.declared.phase.Phase.{Phase}
use Rattle.t1_core.specs.declared.phase.Phase.TheVariants as phase
use Rattle.t1_core.specs.Threads.{ThreadState, op_for}
use Rattle.t1_core.specs.Ends.{trace_of, ending_of}
use Rattle.t1_core.specs.Replays.{IsReading, ReplaysAt, IsReplayed}
use Rattle.t1_core.specs.Laws.{starts_of}
use Rattle.t1_core_rule.specs.Histories.{History, Call}
use Rattle.t1_core_rule.specs.Outs.{stores_out, read_out, outs, outs_at, track_of}
use Rattle.t1_core_rule.specs.Parts.{standing_of, state_at, standing_at, waiting_at, sending_at, part_of}
use Rattle.t1_core_rule.specs.Steady.{IsSteady}
use Rattle.t1_core_rule.specs.Fitting.{IsFittingThread, IsFitting}
use Rattle.t1_core_rule.specs.Laws.{CoresKeepTheirRule, AreWhole, history_of}
use Rattle.t1_core_rule.proofs.Finds.{items_at, trace_at, stands, there, one_thread, drop_front, distinct_filter, distinct_classes, stored_numbers, stores_distinct, out_store, ascends_to}
use Rattle.t1_core_rule.proofs.Nexts.{entry_in}
use Rattle.t1_core_rule.proofs.Walks.{requests_are_meant, traces_are_of_strands, history_steady}
use Rattle.t1_core_rule.proofs.Fits.{history_fits}

-- ---- one strand

done_placed : (t : ℕ) (how : How) → IsDoneBy t how → IsPlaced how
done_placed t Unplaced d = d
done_placed t (Forward u) d = tt
done_placed t (Hit u) d = tt
done_placed t (Commit n s) d = tt

not_placed : (t : ℕ) (how : How) → how ≡ Unplaced → IsDoneBy t how → ⊥
not_placed t how e d = subst (λ (w : How). IsDoneBy t w) e d

awaits : (b : Bounds) (from s : Strand) (items : List Item) (word way : ℕ) (n : Need) → IsReading n → HasBegun b from s items word → IsAwaiting b from s items (op_for n way)
awaits b from s items word way (need.Load a z) r h = (word, h)
awaits b from s items word way (need.Atomic a z (Swap new)) r h = (word, h)
awaits b from s items word way (need.Atomic a z (Cas expect new)) r h = (word, h)
awaits b from s items word way need.Plain r h = absurd r
awaits b from s items word way need.Halt r h = absurd r
awaits b from s items word way (need.Trap number) r h = absurd r
awaits b from s items word way (need.Store a z p) r h = absurd r
awaits b from s items word way (need.Membar mask) r h = absurd r
awaits b from s items word way need.Flush r h = absurd r

replays : (b : Bounds) (from s : Strand) (items : List Item) (core strand k : ℕ) (p : Phase) → ReplaysAt b from s items p → IsReplay b from s items (standing_of core strand b.ram s k p)
replays b from s items core strand k phase.Fetch f = f.stands
replays b from s items core strand k (phase.Have word) f = f
replays b from s items core strand k (phase.OutFetch way seen) f = f.between.stands
replays b from s items core strand k (phase.OutData word way seen) f = awaits b from s items word way (need_of s (insn_of word) b.ram) f.reads f.begun
replays b from s items core strand k (phase.Ended e) f = f

endings : (core strand ram : ℕ) (s : Strand) (k : ℕ) (p : Phase) → ending_at (standing_of core strand ram s k p) ≡ ending_of p
endings core strand ram s k phase.Fetch = refl
endings core strand ram s k (phase.Have word) = refl
endings core strand ram s k (phase.OutFetch way seen) = refl
endings core strand ram s k (phase.OutData word way seen) = refl
endings core strand ram s k (phase.Ended e) = refl

read_standing : (core strand ram : ℕ) (s : Strand) (k : ℕ) (p : Phase) (r : RequestData) → IsIn r (read_out core strand ram s k p) → standing_of core strand ram s k p ≡ Out r
read_standing core strand ram s k phase.Fetch r h = absurd h
read_standing core strand ram s k (phase.Have word) r h = absurd h
read_standing core strand ram s k (phase.OutFetch way seen) r (inl e) = ap Out (sym e)
read_standing core strand ram s k (phase.OutFetch way seen) r (inr n) = absurd n
read_standing core strand ram s k (phase.OutData word way seen) r (inl e) = ap Out (sym e)
read_standing core strand ram s k (phase.OutData word way seen) r (inr n) = absurd n
read_standing core strand ram s k (phase.Ended x) r h = absurd h

out_same : (q r : RequestData) → Out q ≡ Out r → q ≡ r
out_same q r e = cc (e)

abbrev is_out : Standing → List RequestData → RequestData → Type 0
is_out st rs r = st ≡ Out r → IsIn r rs

standing_read : (core strand ram : ℕ) (s : Strand) (k : ℕ) (p : Phase) (r : RequestData) → is_out (standing_of core strand ram s k p) (read_out core strand ram s k p) r
standing_read core strand ram s k phase.Fetch r e = let clash : Fetching ≡ Out r = e in cc
standing_read core strand ram s k (phase.Have word) r e = let clash : Has word ≡ Out r = e in cc
standing_read core strand ram s k (phase.OutFetch way seen) r e =
    inl (sym (out_same (record { core = core; strand = strand; item = k; seen = seen; op = op.Fetch s.pc way }) r e))
standing_read core strand ram s k (phase.OutData word way seen) r e =
    inl (sym (out_same (record { core = core; strand = strand; item = k; seen = seen; op = op_for (need_of s (insn_of word) ram) way }) r e))
standing_read core strand ram s k (phase.Ended x) r e = let clash : Ended x ≡ Out r = e in cc

read_distinct : (core strand ram : ℕ) (s : Strand) (k : ℕ) (p : Phase) → AreDistinct (read_out core strand ram s k p)
read_distinct core strand ram s k phase.Fetch = tt
read_distinct core strand ram s k (phase.Have word) = tt
read_distinct core strand ram s k (phase.OutFetch way seen) = ((λ h. h), tt)
read_distinct core strand ram s k (phase.OutData word way seen) = ((λ h. h), tt)
read_distinct core strand ram s k (phase.Ended e) = tt

-- ---- the rule

module _ (config : Config) (image : Image) (core : ℕ) (h : History) where
  abbrev w : Setup
  w = record { config = config; image = image }

  -- the same with the core's chip, which is the configuration's
  abbrev own : Setup
  own = record { config = record config { chip = h.core.chip }; image = image }

  abbrev p : CorePart
  p = part_of h.core.chip h

  module _ (s : IsSteady w core h) (f : IsFitting w h) (replayed : IsReplayed (starts_of config h.core.number image.entry) h.core) where
    abbrev number : ℕ
    number = h.core.number

    abbrev ram : ℕ
    ram = h.core.ram

    abbrev threads : List ThreadState
    threads = h.core.threads

    abbrev start : ℕ → Strand
    start = starts_of config number image.entry

    thread : (i : ℕ) (t : ThreadState) → slice_get threads i ≡ Some t → IsFittingThread h.core.chip number ram h.core.time config.budget h.received i t
    thread i t e = f.threads i t e

    -- what is unanswered is `rest`
    pending : (d : ℕ) → unanswered h.core.chip number p.sent p.received d ≡ f.rest d
    pending d = ap (λ (rs : List RequestData). drop (length (answered h.core.chip number d h.received)) rs) (sym (f.are d)) ∙ drop_front (answered h.core.chip number d h.received) (f.rest d)

    in_rest : (d : ℕ) (r : RequestData) → IsIn r (unanswered h.core.chip number p.sent p.received d) → IsIn r (f.rest d)
    in_rest d r g = subst (λ (rs : List RequestData). IsIn r rs) (pending d) g

    rest_in : (d : ℕ) (r : RequestData) → IsIn r (f.rest d) → IsIn r (unanswered h.core.chip number p.sent p.received d)
    rest_in d r g = subst (λ (rs : List RequestData). IsIn r rs) (sym (pending d)) g

    out_is : (d : ℕ) (r : RequestData) → IsIn r (f.rest d) → IsOut p r
    out_is d r g =
        let i = r.strand in
        let b = is_store r.op in
        let q = pending_out h.core.chip i b d r (f.rest d) (outs_at number i ram b (slice_get threads i)) (f.out i b d) (own_class r) g in
        by (slice_get threads i) refl b refl q.0
      where
        by : (o : Option ThreadState) → slice_get threads r.strand ≡ o → (b : Bool) → is_store r.op ≡ b → IsIn r (outs_at number r.strand ram b o) → IsOut p r
        by None e b eb x = absurd x
        by (Some t) e true eb x =
            inr (eb, subst (λ (o : Option ThreadState). IsIn r.item (waiting_at o)) (sym e) (stored_numbers number r.strand t.stores t.times r x).1)
        by (Some t) e false eb x =
            inl (ap (λ (o : Option ThreadState). standing_at number r.strand ram o) e ∙ read_standing number r.strand ram t.strand (length t.items) t.phase r x)

    awaited_is : (i : ℕ) (r : RequestData) → p.standing i ≡ Out r → IsIn r (f.rest (op_dest h.core.chip r.op))
    awaited_is i r e = by (slice_get threads i) refl
      where
        by : (o : Option ThreadState) → slice_get threads i ≡ o → IsIn r (f.rest (op_dest h.core.chip r.op))
        by None x = let clash : Fetching ≡ Out r = sym (ap (λ (o : Option ThreadState). standing_at number i ram o) x) ∙ e in cc
        by (Some t) x =
            let st : standing_of number i ram t.strand (length t.items) t.phase ≡ Out r = sym (ap (λ (o : Option ThreadState). standing_at number i ram o) x) ∙ e in
            let g : IsIn r (outs number i ram false t) = standing_read number i ram t.strand (length t.items) t.phase r st in
            out_pending h.core.chip i false r (f.rest (op_dest h.core.chip r.op)) (outs number i ram false t)
            (f.out i false (op_dest h.core.chip r.op) ∙ ap (λ (o : Option ThreadState). sent_to h.core.chip (op_dest h.core.chip r.op) (outs_at number i ram false o)) x) g

    stored_is : (i : ℕ) (r : RequestData) → IsIn r (p.sending i) → IsIn r (f.rest (op_dest h.core.chip r.op))
    stored_is i r g = by (slice_get threads i) refl g
      where
        by : (o : Option ThreadState) → slice_get threads i ≡ o → IsIn r (sending_at number i o) → IsIn r (f.rest (op_dest h.core.chip r.op))
        by None x y = absurd y
        by (Some t) x y =
            out_pending h.core.chip i true r (f.rest (op_dest h.core.chip r.op)) (outs number i ram true t)
            (f.out i true (op_dest h.core.chip r.op) ∙ ap (λ (o : Option ThreadState). sent_to h.core.chip (op_dest h.core.chip r.op) (outs_at number i ram true o)) x) y

    rest_distinct : (d : ℕ) → AreDistinct (f.rest d)
    rest_distinct d = distinct_classes (f.rest d) (λ i b. subst (λ (rs : List RequestData). AreDistinct rs) (sym (f.out i b d)) (distinct_filter (λ (q : RequestData). op_dest h.core.chip q.op == d) (outs_at number i ram b (slice_get threads i)) (by i b (slice_get threads i) refl)))
      where
        by : (i : ℕ) (b : Bool) (o : Option ThreadState) → slice_get threads i ≡ o → AreDistinct (outs_at number i ram b o)
        by i b None e = tt
        by i true (Some t) e = stores_distinct number i 0 t.stores t.times (thread i t e).kept.orderly.ascend
        by i false (Some t) e = read_distinct number i ram t.strand (length t.items) t.phase

    -- an entry of a buffer is a store without a place
    held_is : (i k : ℕ) → IsIn k (p.waiting i) → (x : Item) × HasItem (strand_items p i) k x × (x.kind ≡ kind.Store) × (x.how ≡ Unplaced)
    held_is i k g = by (slice_get threads i) refl g
      where
        by : (o : Option ThreadState) → slice_get threads i ≡ o → IsIn k (waiting_at o) → (x : Item) × HasItem (strand_items p i) k x × (x.kind ≡ kind.Store) × (x.how ≡ Unplaced)
        by None e y = absurd y
        by (Some t) e y = let v = (thread i t e).kept.orderly.held k y in (v.0, there threads i k v.0 t e v.1, v.2, v.3)

    trace_is : (i : ℕ) (trace : Trace) → slice_get p.traces i ≡ Some trace → IsTraceSoFar (record { ram = ram; budget = config.budget }) (start i) (p.state i) trace (p.standing i)
    trace_is i trace e =
        let q = trace_at threads i trace e in
        let t : ThreadState = q.0 in
        let follows : ReplaysAt (record { ram = ram; budget = config.budget }) (start i) t.strand (map unplaced t.items) t.phase =
        subst (λ (n : ℕ). ReplaysAt (record { ram = ram; budget = n }) (start i) t.strand (map unplaced t.items) t.phase) (thread i t q.1).budget_is (replayed.each i t q.1) in
        let so_far : IsTraceSoFar (record { ram = ram; budget = config.budget }) (start i) t.strand (trace_of t) (standing_of number i ram t.strand (length t.items) t.phase) = record {
          replay = replays (record { ram = ram; budget = config.budget }) (start i) t.strand (map unplaced t.items) number i (length t.items) t.phase follows;
          units = refl;
          pc = refl;
          ending = endings number i ram t.strand (length t.items) t.phase;
        } in
        subst (λ (o : Option ThreadState). IsTraceSoFar (record { ram = ram; budget = config.budget }) (start i) (state_at o) trace (standing_at number i ram o)) (sym q.1)
        (subst (λ (x : Trace). IsTraceSoFar (record { ram = ram; budget = config.budget }) (start i) t.strand x (standing_of number i ram t.strand (length t.items) t.phase)) q.2 so_far)

    -- a store that is out was sent when the earlier stores to other destinations were done
    out_is_in_order : (i j : ℕ) (r : RequestData) (x : Item) → IsIn r (p.sending i) → j < r.item → HasItem (strand_items p i) j x → x.kind ≡ kind.Store
        → LetsSend h.core.chip (op_dest h.core.chip r.op) r.seen x
    out_is_in_order i j r x g lt g_x sx = (let q = stands threads i j x g_x in
        by q.thread q.at q.has (subst (λ (o : Option ThreadState). IsIn r (sending_at number i o)) q.at g))
      where
        by : (t : ThreadState) → slice_get threads i ≡ Some t → HasItem t.items j x → IsIn r (stores_out number i t.stores t.times) → LetsSend h.core.chip (op_dest h.core.chip r.op) r.seen x
        by t e has out =
            let f_t = thread i t e in
            let o = out_store h.core.chip number i t.items h.core.time t.stores t.times r f_t.kept.sent out in
            let b = entry_in t.items t.stores o.entry f_t.entries o.among in
            let below : j < o.entry.item = subst (λ (q : RequestData). j < q.item) o.is lt in
            let lets : LetsSend h.core.chip (dest_of h.core.chip b.item.addr) r.seen x = sent_stores_keep_order h.core.chip t.items h.core.time j o.entry.item r.seen x b.item o.well below has b.has sx in
            let there : op_dest h.core.chip r.op ≡ dest_of h.core.chip b.item.addr = ap (λ (q : RequestData). op_dest h.core.chip q.op) o.is ∙ ap (λ (a : ℕ). dest_of h.core.chip a) (sym b.addr) in
            subst (λ (d : ℕ). LetsSend h.core.chip d r.seen x) (sym there) lets

    rule : KeepsRule own number p
    rule = record {
      placed = λ i k index seen x g how. (let q = stands threads i k x g in (thread i q.thread q.at).came k index seen x q.has how);
      replies = λ packet reply g is. (let m = f.replies packet reply g is in
          record { item = m.item; has = there threads reply.strand reply.item m.item m.thread m.has_thread m.has; access = m.access; how = m.how });
      out = λ d r g. out_is d r (in_rest d r g);
      awaited = λ i r e. rest_in (op_dest h.core.chip r.op) r (awaited_is i r e);
      stored = λ i r g. rest_in (op_dest h.core.chip r.op) r (stored_is i r g);
      distinct = λ d. subst (λ (rs : List RequestData). AreDistinct rs) (sym (pending d)) (rest_distinct d);
      reads = λ i k x g read. (let q = stands threads i k x g in done_placed h.core.time x.how ((thread i q.thread q.at).kept.orderly.reads k x q.has read));
      stores = λ i k x g store how. (let q = stands threads i k x g in
          elim ((thread i q.thread q.at).kept.orderly.waits k x q.has store) [
            | inl d ↦ absurd (not_placed h.core.time x.how how d)
            | inr y ↦ subst (λ (o : Option ThreadState). IsIn k (waiting_at o)) (sym q.at) y
          ]);
      waits = held_is;
      ascends = λ d. ascends_to h.core.chip 0 d h.sent s.ascends;
      times = λ i k x g. (let q = stands threads i k x g in (thread i q.thread q.at).times k x q.has);
      sent_times = λ d r g. s.sent_times r (filter_in (λ (q : RequestData). op_dest h.core.chip q.op == d) r h.sent g).0;
      order = λ i j k x y lt g_x g_y placed waits. (let q = stands threads i j x g_x in let v = stands threads i k y g_y in
          let same : v.thread ≡ q.thread = one_thread threads i v.thread q.thread v.at q.at in
          (thread i q.thread q.at).kept.orderly.order j k x y lt q.has (subst (λ (t : ThreadState). HasItem t.items k y) same v.has) placed
          (subst (λ (ys : List Item). WaitsFor ys j x.kind k y.kind) (items_at threads i q.thread q.at) waits));
      store_order = λ i j k x y lt g_x g_y sx sy placed. (let q = stands threads i j x g_x in let v = stands threads i k y g_y in
          let same : v.thread ≡ q.thread = one_thread threads i v.thread q.thread v.at q.at in
          stores_keep_order h.core.chip (track_of ram h.core.time q.thread) j k x y (thread i q.thread q.at).kept lt q.has (subst (λ (t : ThreadState). HasItem t.items k y) same v.has) sx sy placed);
      out_order = out_is_in_order;
      rows = λ i k x g access. (let q = stands threads i k x g in
          let row : RowIn h.core.chip ram (l1_by h.core.chip number h.received) q.thread.items k x x.kind = (thread i q.thread q.at).right.items k x q.has access in
          subst (λ (n : ℕ). RowIn h.core.chip n (l1_by h.core.chip number h.received) (strand_items p i) k x x.kind) s.ram
          (subst (λ (ys : List Item). RowIn h.core.chip ram (l1_by h.core.chip number h.received) ys k x x.kind) (sym (items_at threads i q.thread q.at)) row));
      few = λ i k x g read. (let q = stands threads i k x g in
          subst (λ (ys : List Item). FewAreHeldIn ys k (at_of x.how)) (sym (items_at threads i q.thread q.at)) ((thread i q.thread q.at).kept.orderly.few k x q.has read));
      ways = λ d r cache line g fills. f.ways r cache line (filter_in (λ (q : RequestData). op_dest h.core.chip q.op == d) r h.sent g).0 fills;
      follows = λ i trace e. subst (λ (n : ℕ). IsTraceSoFar (record { ram = n; budget = config.budget }) (start i) (p.state i) trace (p.standing i)) s.ram (trace_is i trace e);
    }

    pub core_rule : KeepsRule w core (part_of config.chip h)
    core_rule =
        subst (λ (c : ℕ). KeepsRule w c (part_of config.chip h)) s.number
        (subst (λ (v : Shape). KeepsRule (record { config = record config { chip = v }; image = image }) number (part_of v h)) s.chip rule)

-- ---- the law

core_is : (config : Config) (image : Image) (core : ℕ) (calls : List Call)
    → let w : Setup = record { config = config; image = image } in
    config.ram % 65536 ≡ 0 → 0 < config.budget → AreWhole calls → IsCore w core (part_of config.chip (history_of w core calls))
core_is config image core calls whole some lines =
    let w : Setup = record { config = config; image = image } in
    record {
      size = traces_are_of_strands w core calls whole;
      meant = λ d r g. requests_are_meant w core d calls r whole g;
      kept = λ proper.
          let h : History = history_of w core calls in
          let s = history_steady w core calls whole in
          let k = history_fits w core calls whole some lines proper in
          core_rule config image core h s k.fitting (subst (λ (c : ℕ). IsReplayed (starts_of config c image.entry) h.core) (sym s.number) k.replayed);
    }

pub cores_keep_their_rule : CoresKeepTheirRule
cores_keep_their_rule w core calls whole some lines = core_is w.config w.image core calls whole some lines
