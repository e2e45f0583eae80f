-- Exec, drain and take of any packet keep the times.
use Rattle.std.proofs.Common.{◌≡◌, ◌≢◌, ◌⊎◌, ◌≤◌, ◌<◌, ℕ, ◌+◌, ◌-◌, ◌^◌, ◌==◌, ◌&&◌, ◌||◌, Bool, true, false, List, [], ◌∷◌, ◌++◌, Option, Some, None, refl, ap, sym, ◌∙◌, subst, length, set, zero, suc, inl, inr, nat_lt, arith, append-nil, if◌then◌else◌}
use Rattle.std.specs.List.{slice_get}
use Rattle.std.proofs.lemmas.Bool.{cases_Bool, ltb-false}
use Rattle.t1_state.specs.Interrupts.{due_of}
use Rattle.t1_joint.specs.Replay.{fetch_trap, is_fetchable}
use Rattle.t1_packet.specs.declared.cache.Cache.{Cache}
use Rattle.t1_packet.specs.declared.cache.Cache.TheVariants.{Dcache, Icache}
use Rattle.t1_packet.specs.declared.op.Op.{Op}
use Rattle.t1_packet.specs.declared.op.Op.TheVariants as op
use Rattle.t1_packet.specs.declared.packet.Packet.{Packet}
use Rattle.t1_packet.specs.Data.{KillData, ReplyData}
use Rattle.t1_packet.specs.Ops.{op_dest, is_store}
use Rattle.t1_sbuf.specs.declared.entry.Entry.{Entry}
use Rattle.t1_sbuf.specs.Entries.{next_to_send_of}
use Rattle.t1_l1.specs.Cache.{CacheState, read_of, victim_at}
use Rattle.t1_event.specs.declared.item.Item.{Item}
use Rattle.t1_event.specs.declared.item.How.{How}
use Rattle.t1_event.specs.declared.item.How.TheVariants.{Unplaced, Forward, Hit, Commit}
use Rattle.t1_event.specs.Items.{fetch_item, load_item, store_item, membar_item, flush_item}
use Rattle.t1_core.specs.declared.asker.Asker.{Asker}
use Rattle.t1_core.specs.declared.phase.Phase.{Phase}
use Rattle.t1_core.specs.declared.phase.Phase.TheVariants as phase
use Rattle.t1_core.specs.declared.plan.Plan.{Plan}
use Rattle.t1_core.specs.declared.plan.Plan.TheVariants as plan
use Rattle.t1_core.specs.Stores.{store_op}
use Rattle.t1_core.specs.Threads.{ThreadState, thread_need, word_of, unit_done, halted, trapped, word_came, load_came, value_came, stored, read_item, op_for, acknowledged, item_placed, placed_at, placed}
use Rattle.t1_core.specs.Steps.{CoreState, asker, has_room, asked, asked_fetch, asked_data, exec_fetch, exec_begin, exec_look, exec_plan, exec_phase, plan_of, thread_exec, exec_at, exec_of, drain_next, drain_stores, thread_drain, drain_at, drain_of}
use Rattle.t1_core.specs.Takes.{Answered, emptied_in, killed_in, killed_by, killed, accepts, answered_read, answered_store, thread_answer, answered_at, answered, take_of}
use Rattle.t1_core.specs.Laws.{time_of, HasTime, IsTimed, AreTimed}
use Rattle.t1_core.proofs.ReplayBytes.{got_set}

-- an item of a longer list
got_push : (items : List Item) (x : Item) (i : ℕ) (y : Item) → slice_get (items ++ x ∷ []) i ≡ Some y → ((i < length items) × (slice_get items i ≡ Some y)) ⊎ ((i ≡ length items) × (x ≡ y))
got_push [] x zero y e = inr (refl, (let q : x ≡ y = cc (e) in q))
got_push [] x (suc i) y e = let clash : ◌≡◌ {A = Option Item} None (Some y) = e in cc
got_push (z ∷ zs) x zero y e = inl ((omega arith), e)
got_push (z ∷ zs) x (suc i) y e = elim (got_push zs x i y e) [
  | inl p ↦ inl (omega (arith, p.0), p.1)
  | inr p ↦ inr (omega (arith, p.0), p.1)
]

-- one item more, at the core's time where it has a time
timed_push : (items : List Item) (clock : ℕ) (x : Item) → IsTimed items clock → time_of x.how ≤ clock → (HasTime x.how → time_of x.how ≡ clock) → IsTimed (items ++ x ∷ []) clock
timed_push items clock x t low here = record {
  below = λ i y has.
      elim (got_push items x i y has) [
        | inl p ↦ t.below i y p.1
        | inr p ↦ subst (λ (z : Item). time_of z.how ≤ clock) p.1 low
      ];
  ascends = λ i j y z lt has_y has_z timed.
      elim (got_push items x j z has_z) [
        | inl p ↦ elim (got_push items x i y has_y) [
          | inl q ↦ t.ascends i j y z lt q.1 p.1 timed
          | inr q ↦ absurd (omega (arith, p.0, q.0))
        ]
        | inr p ↦ elim (got_push items x i y has_y) [
          | inl q ↦
              let e : time_of z.how ≡ clock = subst (λ (w : Item). HasTime w.how → time_of w.how ≡ clock) p.1 here timed in
              let b = t.below i y q.1 in omega (arith, e, b)
          | inr q ↦ absurd (omega (arith, p.0, q.0))
        ]
      ];
}

timed_later : (items : List Item) (t u : ℕ) → t ≤ u → IsTimed items t → IsTimed items u
timed_later items t u le s = record { below = λ i x has. (let b = s.below i x has in omega (arith, b, le)); ascends = s.ascends }

-- an acknowledgement gives an item an index
set_timed : (items : List Item) (clock k n s : ℕ) (v : Item) → v.how ≡ Commit n s → IsTimed items clock → IsTimed (set items k v) clock
set_timed items clock k n s v is t = record {
  below = λ i x has.
      elim (got_set items k v i x has) [
        | inl p ↦ subst (λ (z : Item). time_of z.how ≤ clock) p.1 (subst (λ (h : How). time_of h ≤ clock) (sym is) (omega arith))
        | inr p ↦ t.below i x p.1
      ];
  ascends = λ i j x y lt has_x has_y timed.
      elim (got_set items k v j y has_y) [
        | inl p ↦ absurd (subst (λ (h : How). HasTime h) is (subst (λ (z : Item). HasTime z.how) (sym p.1) timed))
        | inr p ↦ elim (got_set items k v i x has_x) [
          | inl q ↦ subst (λ (z : Item). time_of z.how ≤ time_of y.how) q.1 (subst (λ (h : How). time_of h ≤ time_of y.how) (sym is) (omega arith))
          | inr q ↦ t.ascends i j x y lt q.1 p.1 timed
        ]
      ];
}

placed_timed : (items : List Item) (clock k n s : ℕ) (o : Option Item) → IsTimed items clock → IsTimed (placed_at items k (Commit n s) o) clock
placed_timed items clock k n s None t = t
placed_timed items clock k n s (Some x) t = set_timed items clock k n s (placed x (Commit n s)) refl t

-- at the core's time now, or with no time at all
now_timed : (items : List Item) (clock : ℕ) (x : Item) → (x.how ≡ Hit clock) ⊎ (x.how ≡ Forward clock) → IsTimed items clock → IsTimed (items ++ x ∷ []) clock
now_timed items clock x how t =
    let at : time_of x.how ≡ clock = elim how [ inl e ↦ ap time_of e | inr e ↦ ap time_of e ] in
    timed_push items clock x t (omega (arith, at)) (λ h. at)

none_timed : (items : List Item) (clock : ℕ) (x : Item) → x.how ≡ Unplaced → IsTimed items clock → IsTimed (items ++ x ∷ []) clock
none_timed items clock x how t =
    let at : time_of x.how ≡ 0 = ap time_of how in
    timed_push items clock x t (omega (arith, at)) (λ h. absurd (subst (λ (w : How). HasTime w) how h))

commit_timed : (items : List Item) (clock n s : ℕ) (x : Item) → x.how ≡ Commit n s → IsTimed items clock → IsTimed (items ++ x ∷ []) clock
commit_timed items clock n s x how t =
    let at : time_of x.how ≡ 0 = ap time_of how in
    timed_push items clock x t (omega (arith, at)) (λ h. absurd (subst (λ (w : How). HasTime w) how h))

-- ---- exec

module _ (y : Asker) (icache dcache : CacheState) (l : ThreadState) (t : IsTimed l.items y.time) where
  asked_timed : (o : Op) (q : Phase) → IsTimed (asked y l o q).thread.items y.time
  unfolding asked
  asked_timed o q = elim (cases_Bool (has_room y.room (op_dest y.chip o))) [ inl e ↦ rw e t | inr e ↦ rw e t ]

  fetch_timed : (word : Option ℕ) → IsTimed (exec_fetch y icache l word).thread.items y.time
  unfolding word_came asked_fetch
  fetch_timed (Some word) = now_timed l.items y.time (placed (fetch_item l.strand.pc word) (Hit y.time)) (inl refl) t
  fetch_timed None = asked_timed (op.Fetch l.strand.pc (victim_at icache l.strand.pc)) (phase.OutFetch (victim_at icache l.strand.pc) y.time)

  begin_timed : (due : Option ℕ) (can : Bool) → IsTimed (exec_begin y icache l due can).thread.items y.time
  unfolding trapped
  begin_timed (Some number) can = t
  begin_timed None false = t
  begin_timed None true = fetch_timed (read_of icache l.strand.pc 4)

  data_timed : (a : ℕ) → IsTimed (asked_data y dcache l a).thread.items y.time
  unfolding asked_data
  data_timed a = asked_timed (op_for (thread_need y.ram l) (victim_at dcache a)) (phase.OutData (word_of l.phase) (victim_at dcache a) y.time)

  look_timed : (a z : ℕ) (found : Option ℕ) → IsTimed (exec_look y dcache l a z found).thread.items y.time
  unfolding load_came unit_done
  look_timed a z (Some v) = now_timed l.items y.time (placed (load_item a z v) (Hit y.time)) (inl refl) t
  look_timed a z None = data_timed a

  plan_timed : (p : Plan) → IsTimed (exec_plan y dcache l p).thread.items y.time
  unfolding trapped unit_done halted stored load_came
  plan_timed (plan.Waits w) = t
  plan_timed (plan.Trap number) = t
  plan_timed plan.Act = subst (λ (xs : List Item). IsTimed xs y.time) (sym (append-nil l.items)) t
  plan_timed plan.Halt = t
  plan_timed (plan.Membar mask) = none_timed l.items y.time (membar_item mask) refl t
  plan_timed plan.Flush = none_timed l.items y.time flush_item refl t
  plan_timed (plan.Store a z v) = none_timed l.items y.time (store_item a z v) refl t
  plan_timed (plan.Forward a z v) = now_timed l.items y.time (placed (load_item a z v) (Forward y.time)) (inr refl) t
  plan_timed (plan.Look a z) = look_timed a z (read_of dcache a z)
  plan_timed (plan.Send a) = data_timed a

  phase_timed : (p : Phase) → IsTimed (exec_phase y icache dcache l p).thread.items y.time
  phase_timed phase.Fetch = begin_timed (due_of l.strand) (is_fetchable y.ram l.strand.pc)
  phase_timed (phase.Have word) = plan_timed (plan_of l.stores (thread_need y.ram l))
  phase_timed (phase.OutFetch way seen) = t
  phase_timed (phase.OutData word way seen) = t
  phase_timed (phase.Ended e) = t

thread_timed : (y : Asker) (icache dcache : CacheState) (l : ThreadState) → IsTimed l.items y.time → IsTimed (thread_exec y icache dcache l).thread.items y.time
unfolding thread_exec
thread_timed y icache dcache l t = phase_timed y icache dcache l t l.phase

abbrev AllTimed : ℕ → List ThreadState → Type 0
AllTimed clock threads = (i : ℕ) (t : ThreadState) → slice_get threads i ≡ Some t → IsTimed t.items clock

set_all : (clock : ℕ) (threads : List ThreadState) (k : ℕ) (u : ThreadState) → AllTimed clock threads → IsTimed u.items clock → AllTimed clock (set threads k u)
set_all clock threads k u all new i t e = elim (got_set threads k u i t e) [
  | inl p ↦ subst (λ (n : ThreadState). IsTimed n.items clock) p.1 new
  | inr p ↦ all i t p.1
]

exec_at_timed : (c : CoreState) (i room : ℕ) (o : Option ThreadState) → AreTimed c → slice_get c.threads i ≡ o → AreTimed (exec_at c i room o).core
exec_at_timed c i room None a e = a
exec_at_timed c i room (Some t) a e = record {
  each = set_all c.time c.threads i (thread_exec (asker c i room) c.icache c.dcache t).thread a.each (thread_timed (asker c i room) c.icache c.dcache t (a.each i t e));
}

pub exec_timed : (c : CoreState) (i room : ℕ) → AreTimed c → AreTimed (exec_of c i room).core
unfolding exec_of
exec_timed c i room a = exec_at_timed c i room (slice_get c.threads i) a refl

-- ---- drain

next_timed : (y : Asker) (t : ThreadState) (o : Option Entry) → (drain_next y t o).thread.items ≡ t.items
next_timed y t None = refl
next_timed y t (Some e) = elim (cases_Bool (has_room y.room (op_dest y.chip (store_op e)))) [ inl r ↦ rw r refl | inr r ↦ rw r refl ]

stores_timed : (y : Asker) (t : ThreadState) (es : List Entry) → (drain_stores y t es).thread.items ≡ t.items
stores_timed y t [] = refl
stores_timed y t (e ∷ es) = next_timed y t (next_to_send_of (e ∷ es))

drain_at_timed : (c : CoreState) (i room : ℕ) (o : Option ThreadState) → AreTimed c → slice_get c.threads i ≡ o → AreTimed (drain_at c i room o).core
unfolding thread_drain
drain_at_timed c i room None a e = a
drain_at_timed c i room (Some t) a e = record {
  each = set_all c.time c.threads i (thread_drain (asker c i room) t).thread a.each
      (subst (λ (xs : List Item). IsTimed xs c.time) (sym (stores_timed (asker c i room) t t.stores)) (a.each i t e));
}

pub drain_timed : (c : CoreState) (i room : ℕ) → AreTimed c → AreTimed (drain_of c i room).core
unfolding drain_of
drain_timed c i room a = drain_at_timed c i room (slice_get c.threads i) a refl

-- ---- take

module _ (ram n : ℕ) (r : ReplyData) (clock : ℕ) where
  read_timed : (a : Answered) (p : Phase) → IsTimed a.thread.items clock → IsTimed (answered_read ram n r a p).thread.items clock
  unfolding word_came value_came unit_done
  read_timed a (phase.OutFetch way seen) t =
      elim (cases_Bool (accepts a.dcache a.icache r (length a.thread.items) (op.Fetch a.thread.strand.pc way))) [
        | inl e ↦ rw e (commit_timed a.thread.items clock n r.seen (placed (fetch_item a.thread.strand.pc r.old) (Commit n r.seen)) refl t)
        | inr e ↦ rw e t
      ]
  read_timed a (phase.OutData word way seen) t =
      elim (cases_Bool (accepts a.dcache a.icache r (length a.thread.items) (op_for (thread_need ram a.thread) way))) [
        | inl e ↦ rw e (commit_timed a.thread.items clock n r.seen (placed (read_item (thread_need ram a.thread) r.old) (Commit n r.seen)) refl t)
        | inr e ↦ rw e t
      ]
  read_timed a phase.Fetch t = t
  read_timed a (phase.Have word) t = t
  read_timed a (phase.Ended e) t = t

  store_timed : (a : Answered) (o : Option Entry) → IsTimed a.thread.items clock → IsTimed (answered_store n r a o).thread.items clock
  unfolding acknowledged
  store_timed a None t = t
  store_timed a (Some e) t =
      elim (cases_Bool (e.sent && accepts a.dcache a.icache r e.item (store_op e))) [
        | inl h ↦ rw h (placed_timed a.thread.items clock e.item n r.seen (slice_get a.thread.items e.item) t)
        | inr h ↦ rw h t
      ]

  answer_timed : (a : Answered) → IsTimed a.thread.items clock → IsTimed (thread_answer ram n r a).thread.items clock
  unfolding thread_answer
  answer_timed a t =
      elim (cases_Bool (is_store r.op)) [
        | inl e ↦ rw e (store_timed a (slice_get a.thread.stores 0) t)
        | inr e ↦ rw e (read_timed a a.thread.phase t)
      ]

killed_in_timed : (cache : Cache) (c : CoreState) (at way : ℕ) → AreTimed c → AreTimed (killed_in cache c at way)
killed_in_timed Dcache c at way a = record { each = a.each }
killed_in_timed Icache c at way a = record { each = a.each }

killed_by_timed : (c : CoreState) (k : KillData) → AreTimed c → AreTimed (killed_by c k)
killed_by_timed c k a = elim (cases_Bool (k.core == c.number)) [ inl e ↦ rw e (killed_in_timed k.cache c k.set k.way a) | inr e ↦ rw e a ]

killed_timed : (c : CoreState) (ks : List KillData) → AreTimed c → AreTimed (killed c ks)
unfolding killed
killed_timed c [] a = a
killed_timed c (k ∷ ks) a = killed_timed (killed_by c k) ks (killed_by_timed c k a)

answered_at_timed : (c : CoreState) (n : ℕ) (r : ReplyData) (o : Option ThreadState) → AreTimed c → slice_get c.threads r.strand ≡ o → AreTimed (answered_at c n r o)
answered_at_timed c n r None a e = a
answered_at_timed c n r (Some t) a e = record {
  each = set_all c.time c.threads r.strand (thread_answer c.ram n r (record { thread = t; dcache = c.dcache; icache = c.icache })).thread a.each
      (answer_timed c.ram n r c.time (record { thread = t; dcache = c.dcache; icache = c.icache }) (a.each r.strand t e));
}

reply_timed : (c : CoreState) (n : ℕ) (o : Option ReplyData) → AreTimed c → AreTimed (answered c n o)
reply_timed c n None a = a
reply_timed c n (Some r) a = answered_at_timed c n r (slice_get c.threads r.strand) a refl

-- ---- the core's time itself

time_in : (cache : Cache) (c : CoreState) (at way : ℕ) → (killed_in cache c at way).time ≡ c.time
time_in Dcache c at way = refl
time_in Icache c at way = refl

time_by : (c : CoreState) (k : KillData) → (killed_by c k).time ≡ c.time
time_by c k = elim (cases_Bool (k.core == c.number)) [ inl e ↦ rw e (time_in k.cache c k.set k.way) | inr e ↦ rw e refl ]

time_killed : (c : CoreState) (ks : List KillData) → (killed c ks).time ≡ c.time
unfolding killed
time_killed c [] = refl
time_killed c (k ∷ ks) = time_killed (killed_by c k) ks ∙ time_by c k

time_answered_at : (c : CoreState) (n : ℕ) (r : ReplyData) (o : Option ThreadState) → (answered_at c n r o).time ≡ c.time
time_answered_at c n r None = refl
time_answered_at c n r (Some t) = refl

time_answered : (c : CoreState) (n : ℕ) (o : Option ReplyData) → (answered c n o).time ≡ c.time
time_answered c n None = refl
time_answered c n (Some r) = time_answered_at c n r (slice_get c.threads r.strand)

or_left : (a b : Bool) → (a || b) ≡ false → a ≡ false
or_left true b e = e
or_left false b e = refl

later_at : (c k : CoreState) (t : ℕ) → c.time ≤ t → k.time ≡ c.time → AreTimed k → AreTimed (record k { time = t })
later_at c k t le e a = record { each = λ i u has. timed_later u.items k.time t (let b : k.time ≤ t = omega (arith, le, e) in b) (a.each i u has) }

pub take_timed : (c : CoreState) (p : Packet) → AreTimed c → AreTimed (take_of c p)
unfolding take_of
take_timed c p a =
    elim (cases_Bool (nat_lt p.index c.time || (p.index == 2 ^ 32 - 1))) [
      | inl e ↦ rw e a
      | inr e ↦
          let past : c.time ≤ p.index = ltb-false p.index c.time (or_left (nat_lt p.index c.time) (p.index == 2 ^ 32 - 1) e) in
          let k : CoreState = answered (killed c p.kills) p.index p.reply in
          rw e (later_at c k (p.index + 1) (omega (arith, past)) (time_answered (killed c p.kills) p.index p.reply ∙ time_killed c p.kills)
          (reply_timed (killed c p.kills) p.index p.reply (killed_timed c p.kills a)))
    ]

pub take_later : (c : CoreState) (p : Packet) → c.time ≤ (take_of c p).time
unfolding take_of
take_later c p =
    elim (cases_Bool (nat_lt p.index c.time || (p.index == 2 ^ 32 - 1))) [
      | inl e ↦ rw e (omega arith)
      | inr e ↦
          let past : c.time ≤ p.index = ltb-false p.index c.time (or_left (nat_lt p.index c.time) (p.index == 2 ^ 32 - 1) e) in
          rw e (omega (arith, past))
    ]
