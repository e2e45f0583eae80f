-- Take keeps each strand the replay so far, whatever packet comes; and a core begins so.
use Rattle.std.proofs.Common.{◌≡◌, ◌≢◌, ◌⊎◌, ℕ, ◌+◌, ◌-◌, ◌*◌, ◌/◌, ◌^◌, ◌==◌, ◌&&◌, ◌||◌, ◌<◌, Bool, true, false, eqb, List, [], ◌∷◌, Option, Some, None, refl, ap, sym, ◌∙◌, subst, length, inl, inr, nat_lt, nat_le, take, zero, suc, arith, if◌then◌else◌}
use Rattle.std.specs.List.{slice_get}
use Rattle.std.proofs.lemmas.Bool.{cases_Bool, lt-ltb, eqb-true, leb-true, eq-eqb}
use Rattle.t1_num.specs.MemoryLaws.{AreBytes}
use Rattle.t1_decode.specs.Words.{insn_of}
use Rattle.t1_state.specs.declared.strand.Strand.{Strand}
use Rattle.t1_exec.specs.declared.need.Need.{Need}
use Rattle.t1_exec.specs.declared.need.Need.TheVariants as need
use Rattle.t1_exec.specs.declared.need.AtomicOp.TheVariants.{Swap, Cas}
use Rattle.t1_exec.specs.Needs.{need_of}
use Rattle.t1_packet.specs.declared.cache.Cache.{Cache}
use Rattle.t1_packet.specs.declared.cache.Cache.TheVariants.{Dcache, Icache}
use Rattle.t1_packet.specs.declared.op.Op.{Op}
use Rattle.t1_packet.specs.declared.op.Op.TheVariants as op
use Rattle.t1_packet.specs.declared.packet.Packet.{Packet}
use Rattle.t1_packet.specs.Data.{KillData, ReplyData}
use Rattle.t1_packet.specs.Ops.{op_addr, op_size, is_store}
use Rattle.t1_sbuf.specs.declared.entry.Entry.{Entry}
use Rattle.t1_l1.specs.Cache.{CacheState}
use Rattle.t1_event.specs.declared.item.Item.{Item}
use Rattle.t1_event.specs.declared.item.How.TheVariants.{Commit}
use Rattle.t1_core.specs.declared.phase.Phase.{Phase}
use Rattle.t1_core.specs.declared.phase.Phase.TheVariants as phase
use Rattle.t1_core.specs.Stores.{store_op}
use Rattle.t1_core.specs.Threads.{ThreadState, thread_need, unit_done, word_came, value_came, acknowledged, op_for, item_placed}
use Rattle.t1_core.specs.Steps.{CoreState}
use Rattle.t1_core.specs.Takes.{Answered, emptied_in, killed_in, killed_by, killed, same_op, fits, is_way_for, accepts, fill_with, answered_read, answered_store, thread_answer, answered_at, answered, take_of}
use Rattle.t1_core.specs.Replays.{IsReading, ReplaysAt, Replays, bare_items, AreByteLines, IsReplayed, HasByteLine}
use Rattle.t1_core.proofs.ReplayUnits.{IsValueOf, bare_placed, word_follows, value_follows}
use Rattle.t1_core.proofs.ReplayBytes.{filled_bytes, emptied_bytes, updated_bytes, take_bytes}
use Rattle.t1_core.proofs.ReplaySteps.{bounds, thread_at, set_thread}

-- ---- kills

emptied_in_bytes : (c : CacheState) (at way : ℕ) → AreByteLines c.slots → AreByteLines (emptied_in c at way).slots
emptied_in_bytes c at way a =
    elim (cases_Bool (nat_lt at c.layout.sets && nat_lt way c.layout.ways)) [
      | inl e ↦ rw e (emptied_bytes c at way a)
      | inr e ↦ rw e a
    ]

killed_in_replays : (starts : ℕ → Strand) (cache : Cache) (c : CoreState) (at way : ℕ) → IsReplayed starts c → IsReplayed starts (killed_in cache c at way)
killed_in_replays starts Dcache c at way r = record { each = r.each; dcache = emptied_in_bytes c.dcache at way r.dcache; icache = r.icache }
killed_in_replays starts Icache c at way r = record { each = r.each; dcache = r.dcache; icache = emptied_in_bytes c.icache at way r.icache }

killed_by_replays : (starts : ℕ → Strand) (c : CoreState) (k : KillData) → IsReplayed starts c → IsReplayed starts (killed_by c k)
killed_by_replays starts c k r =
    elim (cases_Bool (k.core == c.number)) [
      | inl e ↦ rw e (killed_in_replays starts k.cache c k.set k.way r)
      | inr e ↦ rw e r
    ]

killed_replays : (starts : ℕ → Strand) (c : CoreState) (ks : List KillData) → IsReplayed starts c → IsReplayed starts (killed c ks)
unfolding killed
killed_replays starts c [] r = r
killed_replays starts c (k ∷ ks) r = killed_replays starts (killed_by c k) ks (killed_by_replays starts c k r)

-- ---- what is accepted

and_left : (a b : Bool) → (a && b) ≡ true → a ≡ true
and_left true b e = refl
and_left false b e = e

and_right : (a b : Bool) → (a && b) ≡ true → b ≡ true
and_right true b e = e
and_right false b e = let clash : false ≡ true = e in cc

accepted_op : (dcache icache : CacheState) (r : ReplyData) (item : ℕ) (o : Op) → accepts dcache icache r item o ≡ true → same_op o r.op ≡ true
accepted_op dcache icache r item o e =
    and_left (same_op o r.op) (r.item == item) (and_left (same_op o r.op && (r.item == item)) (is_way_for dcache icache r.op r.way) (and_left (same_op o r.op && (r.item == item) && is_way_for dcache icache r.op r.way) (fits r.old (op_size r.op)) e))

accepted_fits : (dcache icache : CacheState) (r : ReplyData) (item : ℕ) (o : Op) → accepts dcache icache r item o ≡ true → fits r.old (op_size r.op) ≡ true
accepted_fits dcache icache r item o e = and_right (same_op o r.op && (r.item == item) && is_way_for dcache icache r.op r.way) (fits r.old (op_size r.op)) e

-- ---- a reply to a fetch, a load or an atomic

-- one op has one size
same_size : (a b : Op) → same_op a b ≡ true → op_size a ≡ op_size b
same_size (op.Fetch a w) (op.Fetch b v) e = refl
same_size (op.Load a z w) (op.Load b y v) e = eqb-true z y (and_right (a == b) (z == y) (and_left ((a == b) && (z == y)) (w == v) e))
same_size (op.Store a z p) (op.Store b y q) e = eqb-true z y (and_right (a == b) (z == y) (and_left ((a == b) && (z == y)) (p == q) e))
same_size (op.Swap a z p) (op.Swap b y q) e = eqb-true z y (and_right (a == b) (z == y) (and_left ((a == b) && (z == y)) (p == q) e))
same_size (op.Cas a z u p) (op.Cas b y f q) e =
    eqb-true z y (and_right (a == b) (z == y) (and_left ((a == b) && (z == y)) (u == f) (and_left ((a == b) && (z == y) && (u == f)) (p == q) e)))
same_size (op.Fetch a w) (op.Load b y v) e = cc
same_size (op.Fetch a w) (op.Store b y q) e = cc
same_size (op.Fetch a w) (op.Swap b y q) e = cc
same_size (op.Fetch a w) (op.Cas b y f q) e = cc
same_size (op.Load a z w) (op.Fetch b v) e = cc
same_size (op.Load a z w) (op.Store b y q) e = cc
same_size (op.Load a z w) (op.Swap b y q) e = cc
same_size (op.Load a z w) (op.Cas b y f q) e = cc
same_size (op.Store a z p) (op.Fetch b v) e = cc
same_size (op.Store a z p) (op.Load b y v) e = cc
same_size (op.Store a z p) (op.Swap b y q) e = cc
same_size (op.Store a z p) (op.Cas b y f q) e = cc
same_size (op.Swap a z p) (op.Fetch b v) e = cc
same_size (op.Swap a z p) (op.Load b y v) e = cc
same_size (op.Swap a z p) (op.Store b y q) e = cc
same_size (op.Swap a z p) (op.Cas b y f q) e = cc
same_size (op.Cas a z u p) (op.Fetch b v) e = cc
same_size (op.Cas a z u p) (op.Load b y v) e = cc
same_size (op.Cas a z u p) (op.Store b y q) e = cc
same_size (op.Cas a z u p) (op.Swap b y q) e = cc

-- what is accepted for an op is a value of its size
accepted_value : (dcache icache : CacheState) (r : ReplyData) (item : ℕ) (o : Op) → accepts dcache icache r item o ≡ true → nat_lt r.old (2 ^ (8 * op_size o)) ≡ true
accepted_value dcache icache r item o e =
    subst (λ (z : ℕ). nat_lt r.old (2 ^ (8 * z)) ≡ true) (sym (same_size o r.op (accepted_op dcache icache r item o e))) (accepted_fits dcache icache r item o e)

need_value : (v way : ℕ) (n : Need) → IsReading n → nat_lt v (2 ^ (8 * op_size (op_for n way))) ≡ true → IsValueOf v n
need_value v way (need.Load addr size) r f = f
need_value v way (need.Atomic addr size (Swap new)) r f = f
need_value v way (need.Atomic addr size (Cas expect new)) r f = f
need_value v way need.Plain r f = absurd r
need_value v way need.Halt r f = absurd r
need_value v way (need.Trap number) r f = absurd r
need_value v way (need.Store addr size value) r f = absurd r
need_value v way (need.Membar mask) r f = absurd r
need_value v way need.Flush r f = absurd r

fill_bytes : (c : CacheState) (addr : ℕ) (way : Option ℕ) (bytes : List ℕ) → AreByteLines c.slots → AreBytes bytes → AreByteLines (fill_with c addr way bytes).slots
fill_bytes c addr None bytes a b = a
fill_bytes c addr (Some way) bytes a b = filled_bytes c addr way bytes a b

-- a strand is its replay, and the caches hold bytes
pub record IsWell (ram : ℕ) (from : Strand) (a : Answered) : Type 0 where
  pub thread : Replays ram from a.thread
  pub dcache : AreByteLines a.dcache.slots
  pub icache : AreByteLines a.icache.slots

module _ (ram n : ℕ) (r : ReplyData) (line : AreBytes r.line) (from : Strand) (dcache icache : CacheState) (db : AreByteLines dcache.slots) (ib : AreByteLines icache.slots) where
  abbrev with_caches : ThreadState → Answered
  with_caches t = record { thread = t; dcache = dcache; icache = icache }

  module _ (s : Strand) (es : List Entry) (times : List ℕ) (xs : List Item) (budget : ℕ) where
    read_well : (p : Phase) → ReplaysAt (bounds ram budget) from s (bare_items xs) p
        → IsWell ram from (answered_read ram n r (with_caches (thread_at s p es times xs budget)) p)
    unfolding word_came value_came unit_done thread_need
    read_well (phase.OutFetch way seen) f =
        elim (cases_Bool (accepts dcache icache r (length xs) (op.Fetch s.pc way))) [
          | inl e ↦ rw e (record {
            thread = word_follows (bounds ram budget) from s xs r.old (Commit n r.seen) f (accepted_value dcache icache r (length xs) (op.Fetch s.pc way) e);
            dcache = db;
            icache = fill_bytes icache (op_addr r.op) r.way r.line ib line;
          })
          | inr e ↦ rw e (record { thread = f; dcache = db; icache = ib })
        ]
    read_well (phase.OutData word way seen) f =
        let need : Need = need_of s (insn_of word) ram in
        elim (cases_Bool (accepts dcache icache r (length xs) (op_for need way))) [
          | inl e ↦ rw e (record {
            thread = value_follows (bounds ram budget) from s xs word r.old (Commit n r.seen) need refl f.begun f.reads
                (need_value r.old way need f.reads (accepted_value dcache icache r (length xs) (op_for need way) e));
            dcache = fill_bytes dcache (op_addr r.op) r.way (take 16 r.line) db (take_bytes 16 r.line line);
            icache = ib;
          })
          | inr e ↦ rw e (record { thread = f; dcache = db; icache = ib })
        ]
    read_well phase.Fetch f = record { thread = f; dcache = db; icache = ib }
    read_well (phase.Have word) f = record { thread = f; dcache = db; icache = ib }
    read_well (phase.Ended e) f = record { thread = f; dcache = db; icache = ib }

  store_well : (t : ThreadState) (o : Option Entry) → Replays ram from t → IsWell ram from (answered_store n r (with_caches t) o)
  unfolding acknowledged
  store_well t None f = record { thread = f; dcache = db; icache = ib }
  store_well t (Some e) f =
      elim (cases_Bool (e.sent && accepts dcache icache r e.item (store_op e))) [
        | inl h ↦
            let g : ReplaysAt (bounds ram t.budget) from t.strand (bare_items (item_placed t.items e.item (Commit n r.seen))) t.phase =
            subst (λ (xs : List Item). ReplaysAt (bounds ram t.budget) from t.strand xs t.phase) (sym (bare_placed t.items e.item (Commit n r.seen))) f in
            rw h (record { thread = g; dcache = updated_bytes dcache e.addr e.size e.value db; icache = ib })
        | inr h ↦ rw h (record { thread = f; dcache = db; icache = ib })
      ]

  pub answer_well : (t : ThreadState) → Replays ram from t → IsWell ram from (thread_answer ram n r (with_caches t))
  unfolding thread_answer
  answer_well t f =
      elim (cases_Bool (is_store r.op)) [
        | inl e ↦ rw e (store_well t (slice_get t.stores 0) f)
        | inr e ↦ rw e (read_well t.strand t.stores t.times t.items t.budget t.phase f)
      ]

answered_at_replays : (starts : ℕ → Strand) (c : CoreState) (n : ℕ) (r : ReplyData) (o : Option ThreadState) → AreBytes r.line → IsReplayed starts c → slice_get c.threads r.strand ≡ o
    → IsReplayed starts (answered_at c n r o)
answered_at_replays starts c n r None line re e = re
answered_at_replays starts c n r (Some t) line re e =
    let w : IsWell c.ram (starts r.strand) (thread_answer c.ram n r (record { thread = t; dcache = c.dcache; icache = c.icache })) =
    answer_well c.ram n r line (starts r.strand) c.dcache c.icache re.dcache re.icache t (re.each r.strand t e) in
    record {
      each = set_thread starts c.ram c.threads r.strand (thread_answer c.ram n r (record { thread = t; dcache = c.dcache; icache = c.icache })).thread re.each w.thread;
      dcache = w.dcache;
      icache = w.icache;
    }

reply_replays : (starts : ℕ → Strand) (c : CoreState) (n : ℕ) (o : Option ReplyData) → HasByteLine o → IsReplayed starts c → IsReplayed starts (answered c n o)
reply_replays starts c n None line re = re
reply_replays starts c n (Some r) line re = answered_at_replays starts c n r (slice_get c.threads r.strand) line re refl

timed_replays : (starts : ℕ → Strand) (c : CoreState) (t : ℕ) → IsReplayed starts c → IsReplayed starts (record c { time = t })
timed_replays starts c t re = record { each = re.each; dcache = re.dcache; icache = re.icache }

pub take_replays : (starts : ℕ → Strand) (c : CoreState) (p : Packet) → HasByteLine p.reply → IsReplayed starts c → IsReplayed starts (take_of c p)
unfolding take_of
take_replays starts c p line re =
    elim (cases_Bool (nat_lt p.index c.time || (p.index == 2 ^ 32 - 1))) [
      | inl e ↦ rw e re
      | inr e ↦ rw e (timed_replays starts (answered (killed c p.kills) p.index p.reply) (p.index + 1) (reply_replays starts (killed c p.kills) p.index p.reply line (killed_replays starts c p.kills re)))
    ]
