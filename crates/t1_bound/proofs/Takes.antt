-- A packet that a core takes makes none of its strands heavier, whatever packet it is.
use Rattle.std.proofs.Common.{◌≡◌, ◌≤◌, ◌^◌, ◌-◌, ◌==◌, ◌&&◌, ◌||◌, ℕ, Bool, true, false, nat_lt, List, [], ◌∷◌, length, drop, Option, Some, None, refl, sym, ◌∙◌, subst, arith, if◌then◌else◌}
use Rattle.std.specs.List.{slice_get, All}
use Rattle.t1_packet.specs.declared.cache.Cache.{Cache}
use Rattle.t1_packet.specs.declared.cache.Cache.TheVariants.{Dcache, Icache}
use Rattle.t1_packet.specs.declared.op.Op.TheVariants as op
use Rattle.t1_packet.specs.declared.packet.Packet.{Packet}
use Rattle.t1_packet.specs.Data.{KillData, ReplyData}
use Rattle.t1_packet.specs.Ops.{is_store}
use Rattle.t1_sbuf.specs.declared.entry.Entry.{Entry}
use Rattle.t1_l1.specs.Cache.{CacheState}
use Rattle.t1_event.specs.declared.item.How.{How}
use Rattle.t1_event.specs.declared.item.How.TheVariants.{Commit}
use Rattle.t1_core.specs.declared.phase.Phase.{Phase}
use Rattle.t1_core.specs.declared.phase.Phase.TheVariants as phase
use Rattle.t1_core.specs.Stores.{store_op}
use Rattle.t1_core.specs.Threads.{ThreadState, thread_need, op_for, in_phase, item_placed, acknowledged}
use Rattle.t1_core.specs.Steps.{CoreState}
use Rattle.t1_core.specs.Takes.{killed_in, killed_by, killed, accepts, Answered, answered_read, answered_store, thread_answer, answered_at, answered, take_of}
use Rattle.t1_bound.specs.Weights.{Weights, Falls, buffer_weight}
use Rattle.t1_bound.specs.Sound.{IsLiveAt, IsLive}
use Rattle.t1_bound.proofs.Lists.{all_at}
use Rattle.t1_bound.proofs.Pays.{Pays, word_pays, value_pays, buffer_pays}
use Rattle.t1_bound.proofs.Cores.{CorePays, core_pays}

still : (w : Weights) (t : ThreadState) → IsLive t → Pays w 0 t t
still w t live = record { weight = omega arith; tokens = omega arith; live = live }

answer_if : (b : Bool) (w : Weights) (t : ThreadState) (y z : Answered) → Pays w 0 t y.thread → Pays w 0 t z.thread → Pays w 0 t (if b then y else z).thread
answer_if true w t y z p q = p
answer_if false w t y z p q = q

-- ---- a strand gets a reply

module _ (w : Weights) (f : Falls w) (ram n : ℕ) (r : ReplyData) (t : ThreadState) (d i : CacheState) where
  abbrev at_phase : Phase → Answered
  at_phase p = record { thread = in_phase t p; dcache = d; icache = i }

  read_pays : (p : Phase) → IsLiveAt t.strand.units t.budget p → Pays w 0 (in_phase t p) (answered_read ram n r (at_phase p) p).thread
  read_pays phase.Fetch live = still w (in_phase t phase.Fetch) live
  read_pays (phase.Have word) live = still w (in_phase t (phase.Have word)) live
  read_pays (phase.Ended e) live = still w (in_phase t (phase.Ended e)) live
  read_pays (phase.OutFetch way seen) live =
      let out : ThreadState = in_phase t (phase.OutFetch way seen) in
      answer_if (accepts d i r (length t.items) (op.Fetch t.strand.pc way)) w out _ _
      (word_pays w 0 out r.old (Commit n r.seen) live (λ units. omega (arith, f.word))) (still w out live)
  read_pays (phase.OutData word way seen) live =
      let out : ThreadState = in_phase t (phase.OutData word way seen) in
      answer_if (accepts d i r (length t.items) (op_for (thread_need ram out) way)) w out _ _
      (value_pays w 0 out ram r.old (Commit n r.seen) live (λ units. omega arith)) (still w out live)

  less_stores : (es : List Entry) → buffer_weight w (drop 1 es) ≤ buffer_weight w es
  less_stores [] = omega arith
  less_stores (e ∷ es) = omega arith

  acknowledged_pays : (e : Entry) (how : How) → IsLive t → Pays w 0 t (acknowledged t e how)
  unfolding acknowledged
  acknowledged_pays e how live =
      let k = less_stores t.stores in
      buffer_pays w 0 t (drop 1 t.stores) (drop 1 t.times) (item_placed t.items e.item how) live (omega (arith, k))

  store_pays : (o : Option Entry) → IsLive t → Pays w 0 t (answered_store n r (record { thread = t; dcache = d; icache = i }) o).thread
  store_pays None live = still w t live
  store_pays (Some e) live = answer_if (e.sent && accepts d i r e.item (store_op e)) w t _ _ (acknowledged_pays e (Commit n r.seen) live) (still w t live)

  reply_pays : IsLive t → Pays w 0 t (thread_answer ram n r (record { thread = t; dcache = d; icache = i })).thread
  unfolding thread_answer
  reply_pays live = answer_if (is_store r.op) w t _ _ (store_pays (slice_get t.stores 0) live) (read_pays t.phase live)

-- ---- kills leave the strands as they are

abbrev SameThreads : CoreState → CoreState → Type 0
SameThreads c d = d.threads ≡ c.threads

kill_if : (b : Bool) (cache : Cache) (c : CoreState) (at way : ℕ) → SameThreads c (if b then killed_in cache c at way else c)
kill_if true Dcache c at way = refl
kill_if true Icache c at way = refl
kill_if false cache c at way = refl

killed_same : (kills : List KillData) (c : CoreState) → SameThreads c (killed c kills)
unfolding killed
killed_same [] c = refl
killed_same (kill ∷ kills) c = killed_same kills (killed_by c kill) ∙ kill_if (kill.core == c.number) kill.cache c kill.set kill.way

-- ---- a core takes a packet

none_pays : (w : Weights) (ts : List ThreadState) → All IsLive ts → CorePays w 0 ts ts
none_pays w ts live = record { weight = omega arith; tokens = omega arith; live = live }

answered_at_pays : (w : Weights) → Falls w → (c : CoreState) (n : ℕ) (r : ReplyData) (o : Option ThreadState) → slice_get c.threads r.strand ≡ o → All IsLive c.threads
    → CorePays w 0 c.threads (answered_at c n r o).threads
answered_at_pays w f c n r None e live = none_pays w c.threads live
answered_at_pays w f c n r (Some t) e live =
    core_pays w 0 c.threads r.strand t _ e live (reply_pays w f c.ram n r t c.dcache c.icache (all_at IsLive c.threads r.strand t e live))

answered_pays : (w : Weights) → Falls w → (c : CoreState) (n : ℕ) (o : Option ReplyData) → All IsLive c.threads → CorePays w 0 c.threads (answered c n o).threads
answered_pays w f c n None live = none_pays w c.threads live
answered_pays w f c n (Some r) live = answered_at_pays w f c n r (slice_get c.threads r.strand) refl live

takes_if : (b : Bool) (w : Weights) (ts : List ThreadState) (c d : CoreState) → CorePays w 0 ts c.threads → CorePays w 0 ts d.threads → CorePays w 0 ts (if b then c else d).threads
takes_if true w ts c d p q = p
takes_if false w ts c d p q = q

pub take_pays : (w : Weights) → Falls w → (c : CoreState) (p : Packet) → All IsLive c.threads → CorePays w 0 c.threads (take_of c p).threads
unfolding take_of
take_pays w f c p live =
    let same : (killed c p.kills).threads ≡ c.threads = killed_same p.kills c in
    let kept : All IsLive (killed c p.kills).threads = subst (λ (ts : List ThreadState). All IsLive ts) (sym same) live in
    let after : CorePays w 0 (killed c p.kills).threads (answered (killed c p.kills) p.index p.reply).threads = answered_pays w f (killed c p.kills) p.index p.reply kept in
    takes_if (nat_lt p.index c.time || (p.index == 2 ^ 32 - 1)) w c.threads _ _ (none_pays w c.threads live)
    (subst (λ (ts : List ThreadState). CorePays w 0 ts (answered (killed c p.kills) p.index p.reply).threads) same after)
