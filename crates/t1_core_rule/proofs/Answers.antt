-- A proper reply to what a strand has out: what it does to the strand and to the caches.
use Rattle.t1_shape.specs.Shapes.{Shape}
use Rattle.std.proofs.Common.{◌≡◌, ◌⊎◌, ℕ, ◌&&◌, Bool, true, false, List, [], ◌∷◌, ◌++◌, length, take, Option, Some, None, refl, ap, sym, ◌∙◌, subst, inl, inr, if◌then◌else◌}
use Rattle.std.specs.List.{slice_get}
use Rattle.std.proofs.lemmas.Bool.{cases_Bool}
use Rattle.t1_shape.specs.Slots.{Line}
use Rattle.t1_decode.specs.Words.{insn_of}
use Rattle.t1_state.specs.declared.strand.Strand.{Strand}
use Rattle.t1_exec.specs.declared.need.Need.{Need}
use Rattle.t1_exec.specs.Needs.{need_of}
use Rattle.t1_exec.specs.Meanings.{after_of}
use Rattle.t1_packet.specs.declared.cache.Cache.TheVariants.{Dcache, Icache}
use Rattle.t1_packet.specs.declared.op.Op.{Op}
use Rattle.t1_packet.specs.declared.op.Op.TheVariants as op
use Rattle.t1_packet.specs.Caches.{with_answer, pointers_with_answer}
use Rattle.t1_packet.specs.Data.{RequestData, ReplyData}
use Rattle.t1_packet.specs.Ops.{op_addr, op_size, is_store}
use Rattle.t1_sbuf.specs.declared.entry.Entry.{Entry}
use Rattle.t1_l1.specs.Cache.{updated}
use Rattle.t1_event.specs.declared.item.Item.{Item}
use Rattle.t1_event.specs.declared.item.How.TheVariants.{Commit}
use Rattle.t1_event.specs.Kinds.{IsRead, IsAccess}
use Rattle.t1_event.specs.Items.{fetch_item}
use Rattle.t1_event.specs.Log.{plain_op}
use Rattle.t1_event.specs.Records.{op_of}
use Rattle.t1_joint.specs.Parts.{answers}
use Rattle.t1_joint.specs.Proper.{IsReplyWay, IsProperReply}
use Rattle.t1_joint.specs.Replay.{Bounds}
use Rattle.t1_strand_order.specs.Allowed.{IsLike}
use Rattle.t1_core.specs.declared.phase.Phase.{Phase}
use Rattle.t1_core.specs.declared.phase.Phase.TheVariants as phase
use Rattle.t1_core.specs.Stores.{AreSent, store_op}
use Rattle.t1_core.specs.Threads.{ThreadState, thread_need, next_phase, placed, unit_done, word_came, read_item, value_came, op_for, acknowledged}
use Rattle.t1_core.specs.Takes.{fill_with, accepts, Answered, answered_read, answered_store, thread_answer}
use Rattle.t1_core_rule.specs.Outs.{store_request, stores_out, read_out, outs, asked_of}
use Rattle.t1_core.specs.Replays.{IsReading, ReplaysAt}
use Rattle.t1_core_rule.specs.Fitting.{cache_with}
use Rattle.t1_core_rule.proofs.Pieces.{next_asked, next_reads}
use Rattle.t1_core_rule.proofs.Asks.{value_of, data_fill, data_keep}
use Rattle.t1_core_rule.proofs.Kills.{fetch_fill, store_fill, accepted}

-- the item of an access that a reply answers
pub record IsItemOf (n : ℕ) (r : ReplyData) (y : Item) : Type 0 where
  pub access : IsAccess y.kind
  pub how : y.how ≡ Commit n r.seen
  pub size_is : op_size r.op ≡ y.size
  pub op_is : plain_op r.op r.old r.way ≡ op_of y r.way y.kind
  pub got : IsRead y.kind → y.got ≡ r.old

-- the caches after a reply
pub record AreAfter (chip : Shape) (r : ReplyData) (sd : List (Option Line)) (pd : List ℕ) (si : List (Option Line)) (pi : List ℕ) (a : Answered) : Type 0 where
  pub dcache : a.dcache ≡ cache_with chip Dcache (with_answer chip Dcache r.op r.way r.line sd) (pointers_with_answer chip Dcache r.op r.way pd)
  pub icache : a.icache ≡ cache_with chip Icache (with_answer chip Icache r.op r.way r.line si) (pointers_with_answer chip Icache r.op r.way pi)

-- the fetch, load or atomic that is out is answered
pub record IsReadBy (number ram strand n : ℕ) (r : ReplyData) (t u : ThreadState) : Type 0 where
  pub item : Item
  pub items : u.items ≡ t.items ++ item ∷ []
  pub place : length t.items ≡ r.item
  pub is : IsItemOf n r item
  pub stores : u.stores ≡ t.stores
  pub times : u.times ≡ t.times
  pub budget : u.budget ≡ t.budget
  pub before : read_out number strand ram t.strand (length t.items) t.phase ≡ answers number r ∷ []
  pub reads : read_out number strand ram u.strand (length u.items) u.phase ≡ []
  pub asked : Item
  pub out : asked_of ram t.strand t.phase ≡ Some (record { item = asked; seen = r.seen })
  pub no_out : asked_of ram u.strand u.phase ≡ None
  pub like : IsLike item.kind asked.kind
  pub addr : item.addr ≡ asked.addr
  pub size : item.size ≡ asked.size

-- the oldest store is acknowledged
pub record IsStoredBy (number strand n : ℕ) (r : ReplyData) (t u : ThreadState) : Type 0 where
  pub entry : Entry
  pub rest : List Entry
  pub later : List ℕ
  pub stores : t.stores ≡ entry ∷ rest
  pub times : t.times ≡ r.seen ∷ later
  pub op_is : store_op entry ≡ r.op
  pub place : entry.item ≡ r.item
  pub now : u ≡ acknowledged t entry (Commit n r.seen)

none_first : (q : RequestData) (tail : List RequestData) → [] ≡ q ∷ tail → ⊥
none_first q tail e = let clash : ◌≡◌ {A = List RequestData} [] (q ∷ tail) = e in cc

first_same : (q r : RequestData) (us vs : List RequestData) → q ∷ us ≡ r ∷ vs → q ≡ r
first_same q r us vs e = cc (e)

-- the strand's load or atomic is one
abbrev pub ReadsIn : ℕ → Strand → Phase → Type 0
ReadsIn ram s phase.Fetch = Unit {0}
ReadsIn ram s (phase.Have word) = Unit {0}
ReadsIn ram s (phase.OutFetch way seen) = Unit {0}
ReadsIn ram s (phase.OutData word way seen) = IsReading (need_of s (insn_of word) ram)
ReadsIn ram s (phase.Ended e) = Unit {0}

pub reads_in : (b : Bounds) (from s : Strand) (items : List Item) (p : Phase) → ReplaysAt b from s items p → ReadsIn b.ram s p
reads_in b from s items phase.Fetch f = tt
reads_in b from s items (phase.Have word) f = tt
reads_in b from s items (phase.OutFetch way seen) f = tt
reads_in b from s items (phase.OutData word way seen) f = f.reads
reads_in b from s items (phase.Ended e) f = tt

module _ (chip : Shape) (number ram strand n : ℕ) (r : ReplyData) (good : IsProperReply chip n r) (whole : take 32 r.line ≡ r.line) (sd : List (Option Line)) (pd : List ℕ) (si : List (Option Line)) (pi : List ℕ) where
  abbrev before : ThreadState → Answered
  before t = record { thread = t; dcache = cache_with chip Dcache sd pd; icache = cache_with chip Icache si pi }

  module _ (s : Strand) (es : List Entry) (ts : List ℕ) (xs : List Item) (budget : ℕ) where
    abbrev at_phase : Phase → ThreadState
    at_phase p = record { strand = s; phase = p; stores = es; times = ts; items = xs; budget = budget }

    abbrev Read : Phase → Answered → Type 0
    Read p a = IsReadBy number ram strand n r (at_phase p) a.thread × AreAfter chip r sd pd si pi a

    abbrev fetched : Phase → Answered
    fetched p = record {
      thread = record { strand = s; phase = phase.Have r.old; stores = es; times = ts; items = xs ++ placed (fetch_item s.pc r.old) (Commit n r.seen) ∷ []; budget = budget };
      dcache = cache_with chip Dcache sd pd;
      icache = fill_with (cache_with chip Icache si pi) (op_addr r.op) r.way r.line;
    }

    fetch_read : (way seen : ℕ) → (let q : RequestData = record { core = number; strand = strand; item = length xs; seen = seen; op = op.Fetch s.pc way } in q ≡ answers number r)
        → Read (phase.OutFetch way seen) (fetched (phase.OutFetch way seen))
    fetch_read way seen same =
        let o : Op = op.Fetch s.pc way in
        let is_op : o ≡ r.op = ap (λ (v : RequestData). v.op) same in
        let is_item : length xs ≡ r.item = ap (λ (v : RequestData). v.item) same in
        let is_seen : seen ≡ r.seen = ap (λ (v : RequestData). v.seen) same in
        let y : Item = placed (fetch_item s.pc r.old) (Commit n r.seen) in (
          record {
            item = y;
            items = refl;
            place = is_item;
            is = record {
              access = refl;
              how = refl;
              size_is = ap op_size (sym is_op);
              op_is = ap (λ (v : Op). plain_op v r.old r.way) (sym is_op);
              got = λ read. refl;
            };
            stores = refl;
            times = refl;
            budget = refl;
            before = ap (λ (v : RequestData). v ∷ []) same;
            reads = refl;
            asked = fetch_item s.pc 0;
            out = ap (λ (k : ℕ). Some (record { item = fetch_item s.pc 0; seen = k })) is_seen;
            no_out = refl;
            like = refl;
            addr = refl;
            size = refl;
          },
          record {
            dcache = ap (λ (v : Op). cache_with chip Dcache (with_answer chip Dcache v r.way r.line sd) (pointers_with_answer chip Dcache v r.way pd)) is_op;
            icache =
                ap (λ (v : Op). fill_with (cache_with chip Icache si pi) (op_addr v) r.way r.line) (sym is_op)
                ∙ (fetch_fill chip si pi s.pc way r.way r.line whole
                ∙ ap (λ (v : Op). cache_with chip Icache (with_answer chip Icache v r.way r.line si) (pointers_with_answer chip Icache v r.way pi)) is_op);
          },
        )

    abbrev loaded : ℕ → Answered
    loaded word =
        let u : Strand = after_of s (insn_of word) r.old in
        record {
          thread = record {
            strand = u;
            phase = next_phase u.units budget;
            stores = es;
            times = ts;
            items = xs ++ placed (read_item (need_of s (insn_of word) ram) r.old) (Commit n r.seen) ∷ [];
            budget = budget;
          };
          dcache = fill_with (cache_with chip Dcache sd pd) (op_addr r.op) r.way (take 16 r.line);
          icache = cache_with chip Icache si pi;
        }

    data_read : (word way seen : ℕ) → IsReading (need_of s (insn_of word) ram)
        → (let q : RequestData = record { core = number; strand = strand; item = length xs; seen = seen; op = op_for (need_of s (insn_of word) ram) way } in q ≡ answers number r)
        → Read (phase.OutData word way seen) (loaded word)
    data_read word way seen reads same =
        let m : Need = need_of s (insn_of word) ram in
        let o : Op = op_for m way in
        let is_op : o ≡ r.op = ap (λ (v : RequestData). v.op) same in
        let is_item : length xs ≡ r.item = ap (λ (v : RequestData). v.item) same in
        let is_seen : seen ≡ r.seen = ap (λ (v : RequestData). v.seen) same in
        let y : Item = placed (read_item m r.old) (Commit n r.seen) in
        let u : Strand = after_of s (insn_of word) r.old in
        let v = value_of m way r.old (Commit n r.seen) r.way reads in
        let reply_way : IsReplyWay chip o r.way = subst (λ (w : Op). IsReplyWay chip w r.way) (sym is_op) good.way in (
          record {
            item = y;
            items = refl;
            place = is_item;
            is = record {
              access = v.access;
              how = refl;
              size_is = ap op_size (sym is_op) ∙ v.size_is;
              op_is = ap (λ (w : Op). plain_op w r.old r.way) (sym is_op) ∙ v.op_is;
              got = λ read. v.got;
            };
            stores = refl;
            times = refl;
            budget = refl;
            before = ap (λ (w : RequestData). w ∷ []) same;
            reads = next_reads number strand ram u (length (xs ++ y ∷ [])) u.units budget;
            asked = read_item m 0;
            out = ap (λ (k : ℕ). Some (record { item = read_item m 0; seen = k })) is_seen;
            no_out = next_asked ram u u.units budget;
            like = v.like;
            addr = v.addr;
            size = v.size;
          },
          record {
            dcache =
                ap (λ (w : Op). fill_with (cache_with chip Dcache sd pd) (op_addr w) r.way (take 16 r.line)) (sym is_op)
                ∙ (data_fill chip m way r.way r.line sd pd reads reply_way
                ∙ ap (λ (w : Op). cache_with chip Dcache (with_answer chip Dcache w r.way r.line sd) (pointers_with_answer chip Dcache w r.way pd)) is_op);
            icache =
                data_keep chip m way r.way r.line si pi reads
                ∙ ap (λ (w : Op). cache_with chip Icache (with_answer chip Icache w r.way r.line si) (pointers_with_answer chip Icache w r.way pi)) is_op;
          },
        )

    fetch_out : (way seen : ℕ) (tail : List RequestData) → read_out number strand ram s (length xs) (phase.OutFetch way seen) ≡ answers number r ∷ tail
        → Read (phase.OutFetch way seen) (answered_read ram n r (before (at_phase (phase.OutFetch way seen))) (phase.OutFetch way seen))
    unfolding word_came
    fetch_out way seen tail e =
        let same = first_same (record { core = number; strand = strand; item = length xs; seen = seen; op = op.Fetch s.pc way }) (answers number r) [] tail e in
        let yes = accepted chip sd si pd pi r (length xs) (op.Fetch s.pc way) (ap (λ (v : RequestData). v.op) same) (ap (λ (v : RequestData). v.item) same) good.way good.old in
        subst (λ (b : Bool). Read (phase.OutFetch way seen) (if b then fetched (phase.OutFetch way seen) else before (at_phase (phase.OutFetch way seen)))) (sym yes) (fetch_read way seen same)

    data_out : (word way seen : ℕ) (tail : List RequestData) → IsReading (need_of s (insn_of word) ram) → read_out number strand ram s (length xs) (phase.OutData word way seen) ≡ answers number r ∷ tail
        → Read (phase.OutData word way seen) (answered_read ram n r (before (at_phase (phase.OutData word way seen))) (phase.OutData word way seen))
    unfolding value_came unit_done thread_need
    data_out word way seen tail reads e =
        let same = first_same (record { core = number; strand = strand; item = length xs; seen = seen; op = op_for (need_of s (insn_of word) ram) way }) (answers number r) [] tail e in
        let yes = accepted chip sd si pd pi r (length xs) (op_for (need_of s (insn_of word) ram) way) (ap (λ (v : RequestData). v.op) same) (ap (λ (v : RequestData). v.item) same) good.way good.old in
        subst (λ (b : Bool). Read (phase.OutData word way seen) (if b then loaded word else before (at_phase (phase.OutData word way seen)))) (sym yes) (data_read word way seen reads same)

    phase_read : (p : Phase) (tail : List RequestData) → ReadsIn ram s p → read_out number strand ram s (length xs) p ≡ answers number r ∷ tail → Read p (answered_read ram n r (before (at_phase p)) p)
    phase_read phase.Fetch tail reads e = absurd (none_first (answers number r) tail e)
    phase_read (phase.Have word) tail reads e = absurd (none_first (answers number r) tail e)
    phase_read (phase.Ended x) tail reads e = absurd (none_first (answers number r) tail e)
    phase_read (phase.OutFetch way seen) tail reads e = fetch_out way seen tail e
    phase_read (phase.OutData word way seen) tail reads e = data_out word way seen tail reads e

  -- ---- a store

  abbrev Stored : ThreadState → Answered → Type 0
  Stored t a = IsStoredBy number strand n r t a.thread × AreAfter chip r sd pd si pi a

  store_answered : (t : ThreadState) (es : List Entry) (ts : List ℕ) (tail : List RequestData) → t.stores ≡ es → t.times ≡ ts → AreSent es ts → stores_out number strand es ts ≡ answers number r ∷ tail
      → Stored t (answered_store n r (before t) (slice_get es 0))
  store_answered t [] ts tail stores times f e = let clash : ◌≡◌ {A = List RequestData} [] (answers number r ∷ tail) = e in cc
  store_answered t (d ∷ ds) [] tail stores times f e = let clash : ◌≡◌ {A = List RequestData} [] (answers number r ∷ tail) = e in cc
  store_answered t (d ∷ ds) (k ∷ ks) tail stores times f e =
      let q : RequestData = store_request number strand d k in
      let same : q ≡ answers number r = cc (e) in
      let is_op : store_op d ≡ r.op = ap (λ (w : RequestData). w.op) same in
      let is_item : d.item ≡ r.item = ap (λ (w : RequestData). w.item) same in
      let is_seen : k ≡ r.seen = ap (λ (w : RequestData). w.seen) same in
      let b : Answered = record { thread = acknowledged t d (Commit n r.seen); dcache = updated (cache_with chip Dcache sd pd) d.addr d.size d.value; icache = cache_with chip Icache si pi } in
      let yes : (d.sent && accepts (cache_with chip Dcache sd pd) (cache_with chip Icache si pi) r d.item (store_op d)) ≡ true =
      rw (f.0, accepted chip sd si pd pi r d.item (store_op d) is_op is_item good.way good.old) refl in
      let g : Stored t b = (
        record { entry = d; rest = ds; later = ks; stores = stores; times = times ∙ ap (λ (j : ℕ). j ∷ ks) is_seen; op_is = is_op; place = is_item; now = refl },
        record {
          dcache = store_fill chip sd pd d.addr d.size d.value r.way r.line
              ∙ ap (λ (w : Op). cache_with chip Dcache (with_answer chip Dcache w r.way r.line sd) (pointers_with_answer chip Dcache w r.way pd)) is_op;
          icache = ap (λ (w : Op). cache_with chip Icache (with_answer chip Icache w r.way r.line si) (pointers_with_answer chip Icache w r.way pi)) is_op;
        },
      ) in
      subst (λ (x : Bool). Stored t (if x then b else before t)) (sym yes) g

  pub record Answers (t : ThreadState) (a : Answered) : Type 0 where
    pub thread : ((is_store r.op ≡ false) × IsReadBy number ram strand n r t a.thread) ⊎ ((is_store r.op ≡ true) × IsStoredBy number strand n r t a.thread)
    pub caches : AreAfter chip r sd pd si pi a

  pub answer_case : (t : ThreadState) (tail : List RequestData) → ReadsIn ram t.strand t.phase → AreSent t.stores t.times → outs number strand ram (is_store r.op) t ≡ answers number r ∷ tail
      → Answers t (thread_answer ram n r (before t))
  unfolding thread_answer
  answer_case t tail reads sent e =
      elim (cases_Bool (is_store r.op)) [
        | inl b ↦
            let e' : stores_out number strand t.stores t.times ≡ answers number r ∷ tail = subst (λ (x : Bool). outs number strand ram x t ≡ answers number r ∷ tail) b e in
            let p = store_answered t t.stores t.times tail refl refl sent e' in
            rw b (record { thread = inr (b, p.0); caches = p.1 })
        | inr b ↦
            let e' : read_out number strand ram t.strand (length t.items) t.phase ≡ answers number r ∷ tail = subst (λ (x : Bool). outs number strand ram x t ≡ answers number r ∷ tail) b e in
            let p = phase_read t.strand t.stores t.times t.items t.budget t.phase tail reads e' in
            rw b (record { thread = inl (b, p.0); caches = p.1 })
      ]
