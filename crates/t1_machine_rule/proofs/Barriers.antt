-- No call of a core gives a place to a membar or flush.
use Rattle.t1_shape.specs.Shapes.{Shape}
use Rattle.std.proofs.Common.{◌≡◌, ℕ, ◌*◌, ◌-◌, ◌^◌, ◌==◌, ◌&&◌, ◌||◌, nat_lt, Bool, true, false, if◌then◌else◌, List, [], ◌∷◌, length, set, Option, Some, None, refl, sym, subst, inl, inr}
use Rattle.std.specs.List.{slice_get, slice_index}
use Rattle.std.proofs.lemmas.Bool.{cases_Bool}
use Rattle.std.proofs.lemmas.Option.{slice_get_within}
use Rattle.t1_decode.specs.Words.{insn_of}
use Rattle.t1_state.specs.Interrupts.{due_of}
use Rattle.t1_exec.specs.declared.need.Need.{Need}
use Rattle.t1_exec.specs.declared.need.Need.TheVariants as need
use Rattle.t1_exec.specs.Needs.{need_of}
use Rattle.t1_packet.specs.declared.cache.Cache.{Cache}
use Rattle.t1_packet.specs.declared.cache.Cache.TheVariants.{Dcache, Icache}
use Rattle.t1_packet.specs.declared.op.Op.{Op}
use Rattle.t1_packet.specs.declared.op.Op.TheVariants as op
use Rattle.t1_packet.specs.declared.packet.Packet.{Packet}
use Rattle.t1_packet.specs.Data.{KillData, ReplyData}
use Rattle.t1_packet.specs.Ops.{op_dest, is_store}
use Rattle.t1_sbuf.specs.declared.entry.Entry.{Entry}
use Rattle.t1_sbuf.specs.Entries.{next_to_send_of}
use Rattle.t1_l1.specs.Cache.{CacheState, read_of, victim_at}
use Rattle.t1_event.specs.declared.item.Item.{Item}
use Rattle.t1_event.specs.declared.item.How.TheVariants.{Commit, Hit, Forward}
use Rattle.t1_event.specs.Items.{membar_item, flush_item}
use Rattle.t1_joint.specs.Replay.{fetch_trap, is_fetchable}
use Rattle.t1_joint.specs.Start.{Setup}
use Rattle.t1_core.specs.declared.answers.Wait.TheVariants as wait
use Rattle.t1_core.specs.declared.phase.Phase.{Phase}
use Rattle.t1_core.specs.declared.phase.Phase.TheVariants as phase
use Rattle.t1_core.specs.declared.asker.Asker.{Asker}
use Rattle.t1_core.specs.declared.plan.Plan.{Plan}
use Rattle.t1_core.specs.declared.plan.Plan.TheVariants as plan
use Rattle.t1_core.specs.Stores.{store_op}
use Rattle.t1_core.specs.Threads.{ThreadState, word_of, thread_need, op_for}
use Rattle.t1_core.specs.Steps.{CoreState, has_room, asker, is_fence, if_empty, plan_of, asked, asked_fetch, asked_data, exec_fetch, exec_begin, exec_look, exec_plan, exec_phase, thread_exec, exec_at, exec_of, drain_next, drain_stores, thread_drain, drain_at, drain_of}
use Rattle.t1_core.specs.Takes.{killed_in, killed_by, killed, accepts, Answered, answered_read, answered_store, thread_answer, answered_at, answered, take_of}
use Rattle.t1_core.specs.Turns.{next_place, turned_at, turn_of}
use Rattle.t1_core.specs.Start.{new_core}
use Rattle.t1_core_rule.specs.Histories.{History, Call, Exec, Turn, Drain, Take, after_call, after_calls, begun}
use Rattle.t1_core_rule.specs.Laws.{history_of}
use Rattle.t1_core.specs.Replays.{IsReading}
use Rattle.t1_core_rule.proofs.Walks.{thread_is}
use Rattle.t1_machine_rule.proofs.Lists.{slice_cases}
use Rattle.t1_machine_rule.proofs.Bare.{IsBare, AsksRead, unit_bare, act_bare, halted_bare, trapped_bare, word_bare, load_bare, value_bare, stored_bare, phase_bare, sent_bare, acknowledged_bare}

-- ---- exec

-- a plan that looks or sends is of an instruction that reads
abbrev IsSending : Plan → Type 0
IsSending (plan.Look addr size) = Unit {0}
IsSending (plan.Send addr) = Unit {0}
IsSending (plan.Waits w) = ⊥
IsSending (plan.Trap number) = ⊥
IsSending plan.Act = ⊥
IsSending plan.Halt = ⊥
IsSending (plan.Membar mask) = ⊥
IsSending plan.Flush = ⊥
IsSending (plan.Store addr size value) = ⊥
IsSending (plan.Forward addr size value) = ⊥

empty_sends : (es : List Entry) (p : Plan) → (IsSending p → ⊥) → IsSending (if_empty es p) → ⊥
empty_sends [] p none h = none h
empty_sends (e ∷ es) p none h = h

plan_reads : (es : List Entry) (n : Need) → IsSending (plan_of es n) → IsReading n
plan_reads es need.Plain h = absurd h
plan_reads es need.Halt h = absurd h
plan_reads es (need.Trap number) h = absurd h
plan_reads es (need.Membar mask) h = absurd (by (is_fence mask) h)
  where
    by : (b : Bool) → IsSending (if b then if_empty es (plan.Membar mask) else plan.Membar mask) → ⊥
    by true g = empty_sends es (plan.Membar mask) (λ x. x) g
    by false g = g
plan_reads es need.Flush h = absurd (empty_sends es plan.Flush (λ x. x) h)
plan_reads es (need.Store addr size value) h = absurd (by (nat_lt (length es) 8) h)
  where
    by : (b : Bool) → IsSending (if b then plan.Store addr size value else plan.Waits wait.Full) → ⊥
    by true g = g
    by false g = g
plan_reads es (need.Load addr size) h = tt
plan_reads es (need.Atomic addr size o) h = tt

module _ (x : Asker) (t : ThreadState) (b : IsBare x.ram t) where
  asked_bare : (o : Op) (p : Phase) → AsksRead x.ram t.strand p → IsBare x.ram (asked x t o p).thread
  unfolding asked
  asked_bare o p a = elim (cases_Bool (has_room x.room (op_dest x.chip o))) [ inl e ↦ rw e (phase_bare x.chip x.ram t p b a) | inr e ↦ rw e b ]

  fetch_bare : (icache : CacheState) → IsBare x.ram (asked_fetch x icache t).thread
  unfolding asked_fetch
  fetch_bare icache = let way : ℕ = victim_at icache t.strand.pc in asked_bare (op.Fetch t.strand.pc way) (phase.OutFetch way x.time) tt

  data_bare : (dcache : CacheState) (addr : ℕ) → IsReading (thread_need x.ram t) → IsBare x.ram (asked_data x dcache t addr).thread
  unfolding asked_data thread_need
  data_bare dcache addr r = let way : ℕ = victim_at dcache addr in asked_bare (op_for (thread_need x.ram t) way) (phase.OutData (word_of t.phase) way x.time) r

  begin_bare : (icache : CacheState) (due : Option ℕ) (can : Bool) → IsBare x.ram (exec_begin x icache t due can).thread
  begin_bare icache (Some number) can = trapped_bare x.chip x.ram t number b
  begin_bare icache None false = trapped_bare x.chip x.ram t fetch_trap b
  begin_bare icache None true = by (read_of icache t.strand.pc 4)
    where
      by : (o : Option ℕ) → IsBare x.ram (exec_fetch x icache t o).thread
      by (Some word) = word_bare x.chip x.ram t word (Hit x.time) b
      by None = fetch_bare icache

  plan_bare : (dcache : CacheState) (p : Plan) → (IsSending p → IsReading (thread_need x.ram t)) → IsBare x.ram (exec_plan x dcache t p).thread
  plan_bare dcache (plan.Waits w) r = b
  plan_bare dcache (plan.Trap number) r = trapped_bare x.chip x.ram t number b
  plan_bare dcache plan.Act r = act_bare x.chip x.ram t b
  plan_bare dcache plan.Halt r = halted_bare x.chip x.ram t b
  plan_bare dcache (plan.Membar mask) r = unit_bare x.chip x.ram t 0 (membar_item mask) b (λ none. refl)
  plan_bare dcache plan.Flush r = unit_bare x.chip x.ram t 0 flush_item b (λ none. refl)
  plan_bare dcache (plan.Store addr size value) r = stored_bare x.chip x.ram t addr size value b
  plan_bare dcache (plan.Forward addr size value) r = load_bare x.chip x.ram t addr size value (Forward x.time) b
  plan_bare dcache (plan.Look addr size) r = by (read_of dcache addr size)
    where
      by : (o : Option ℕ) → IsBare x.ram (exec_look x dcache t addr size o).thread
      by (Some value) = load_bare x.chip x.ram t addr size value (Hit x.time) b
      by None = data_bare dcache addr (r tt)
  plan_bare dcache (plan.Send addr) r = data_bare dcache addr (r tt)

  phase_step : (icache dcache : CacheState) (p : Phase) → IsBare x.ram (exec_phase x icache dcache t p).thread
  phase_step icache dcache phase.Fetch = begin_bare icache (due_of t.strand) (is_fetchable x.ram t.strand.pc)
  phase_step icache dcache (phase.Have word) = plan_bare dcache (plan_of t.stores (thread_need x.ram t)) (plan_reads t.stores (thread_need x.ram t))
  phase_step icache dcache (phase.OutFetch way seen) = b
  phase_step icache dcache (phase.OutData word way seen) = b
  phase_step icache dcache (phase.Ended e) = b

  pub exec_bare : (icache dcache : CacheState) → IsBare x.ram (thread_exec x icache dcache t).thread
  unfolding thread_exec
  exec_bare icache dcache = phase_step icache dcache t.phase

  next_bare : (o : Option Entry) → IsBare x.ram (drain_next x t o).thread
  next_bare None = b
  next_bare (Some e) = elim (cases_Bool (has_room x.room (op_dest x.chip (store_op e)))) [ inl h ↦ rw h (sent_bare x.chip x.ram t x.time b) | inr h ↦ rw h b ]

  stores_bare : (es : List Entry) → IsBare x.ram (drain_stores x t es).thread
  stores_bare [] = b
  stores_bare (e ∷ es) = next_bare (next_to_send_of (e ∷ es))

  pub drain_bare : IsBare x.ram (thread_drain x t).thread
  unfolding thread_drain
  drain_bare = stores_bare t.stores

-- ---- take

module _ (chip : Shape) (ram n : ℕ) (r : ReplyData) (a : Answered) (b : IsBare ram a.thread) where
  read_answered : (p : Phase) → a.thread.phase ≡ p → IsBare ram (answered_read ram n r a p).thread
  unfolding thread_need
  read_answered (phase.OutFetch way seen) e =
      elim (cases_Bool (accepts a.dcache a.icache r (length a.thread.items) (op.Fetch a.thread.strand.pc way))) [
        | inl f ↦ rw f (word_bare chip ram a.thread r.old (Commit n r.seen) b)
        | inr f ↦ rw f b
      ]
  read_answered (phase.OutData word way seen) e =
      elim (cases_Bool (accepts a.dcache a.icache r (length a.thread.items) (op_for (thread_need ram a.thread) way))) [
        | inl f ↦ rw f (value_bare chip ram a.thread r.old (Commit n r.seen) b (asks a.thread.phase e b.asks))
        | inr f ↦ rw f b
      ]
    where
      asks : (p : Phase) → p ≡ phase.OutData word way seen → AsksRead ram a.thread.strand p → IsReading (need_of a.thread.strand (insn_of (word_of p)) ram)
      asks p f h = subst (λ (q : Phase). AsksRead ram a.thread.strand q → IsReading (need_of a.thread.strand (insn_of (word_of q)) ram)) (sym f) (λ g. g) h
  read_answered phase.Fetch e = b
  read_answered (phase.Have word) e = b
  read_answered (phase.Ended end) e = b

  store_answered : (o : Option Entry) → slice_get a.thread.stores 0 ≡ o → IsBare ram (answered_store n r a o).thread
  store_answered None e = b
  store_answered (Some f) e =
      elim (cases_Bool (f.sent && accepts a.dcache a.icache r f.item (store_op f))) [ inl h ↦ rw h (acknowledged_bare chip ram a.thread f (Commit n r.seen) e b) | inr h ↦ rw h b ]

  answer_bare : IsBare ram (thread_answer ram n r a).thread
  unfolding thread_answer
  answer_bare =
      elim (cases_Bool (is_store r.op)) [
        | inl e ↦ rw e (store_answered (slice_get a.thread.stores 0) refl)
        | inr e ↦ rw e (read_answered a.thread.phase refl)
      ]

-- ---- cores

-- each strand of a core
abbrev pub AreBare : CoreState → Type 0
AreBare c = (i : ℕ) (t : ThreadState) → slice_get c.threads i ≡ Some t → IsBare c.ram t

-- one strand changes
set_bare : (ram : ℕ) (threads : List ThreadState) (i : ℕ) (t u : ThreadState) → slice_get threads i ≡ Some t → ((k : ℕ) (v : ThreadState) → slice_get threads k ≡ Some v → IsBare ram v) → IsBare ram u
    → (k : ℕ) (v : ThreadState) → slice_get (set threads i u) k ≡ Some v → IsBare ram v
set_bare ram threads i t u is all b k =
    slice_cases (λ (o : Option ThreadState). (v : ThreadState) → o ≡ Some v → IsBare ram v) threads i u k (slice_get_within threads i t is)
    (λ e v h. let same : u ≡ v = cc (h) in subst (λ (x : ThreadState). IsBare ram x) same b)
    (λ ne v h. all k v h)

exec_core : (c : CoreState) (i room : ℕ) → AreBare c → AreBare (exec_of c i room).core
unfolding exec_of
exec_core c i room a = by (slice_get c.threads i) refl
  where
    by : (o : Option ThreadState) → slice_get c.threads i ≡ o → AreBare (exec_at c i room o).core
    by None e = a
    by (Some t) e = set_bare c.ram c.threads i t (thread_exec (asker c i room) c.icache c.dcache t).thread e a (exec_bare (asker c i room) t (a i t e) c.icache c.dcache)

turn_core : (c : CoreState) (room : ℕ) → AreBare c → AreBare (turn_of c room).core
unfolding turn_of
turn_core c room a = by (next_place c room)
  where
    by : (o : Option ℕ) → AreBare (turned_at c room o).core
    by None = a
    by (Some place) = exec_core c (slice_index c.turns place) room a

drain_core : (c : CoreState) (i room : ℕ) → AreBare c → AreBare (drain_of c i room).core
unfolding drain_of
drain_core c i room a = by (slice_get c.threads i) refl
  where
    by : (o : Option ThreadState) → slice_get c.threads i ≡ o → AreBare (drain_at c i room o).core
    by None e = a
    by (Some t) e = set_bare c.ram c.threads i t (thread_drain (asker c i room) t).thread e a (drain_bare (asker c i room) t (a i t e))

-- a kill leaves the strands
in_bare : (cache : Cache) (c : CoreState) (at way : ℕ) → AreBare c → AreBare (killed_in cache c at way)
in_bare Dcache c at way a = a
in_bare Icache c at way a = a

killed_bare : (c : CoreState) (ks : List KillData) → AreBare c → AreBare (killed c ks)
unfolding killed
killed_bare c [] a = a
killed_bare c (k ∷ ks) a =
    killed_bare (killed_by c k) ks (elim (cases_Bool (k.core == c.number)) [ inl e ↦ rw e (in_bare k.cache c k.set k.way a) | inr e ↦ rw e a ])

answered_bare : (c : CoreState) (n : ℕ) (o : Option ReplyData) → AreBare c → AreBare (answered c n o)
answered_bare c n None a = a
answered_bare c n (Some r) a = by (slice_get c.threads r.strand) refl
  where
    by : (o : Option ThreadState) → slice_get c.threads r.strand ≡ o → AreBare (answered_at c n r o)
    by None e = a
    by (Some t) e =
        set_bare c.ram c.threads r.strand t (thread_answer c.ram n r (record { thread = t; dcache = c.dcache; icache = c.icache })).thread e a
        (answer_bare c.chip c.ram n r (record { thread = t; dcache = c.dcache; icache = c.icache }) (a r.strand t e))

take_core : (c : CoreState) (p : Packet) → AreBare c → AreBare (take_of c p)
unfolding take_of
take_core c p a =
    elim (cases_Bool (nat_lt p.index c.time || (p.index == 2 ^ 32 - 1))) [
      | inl e ↦ rw e a
      | inr e ↦ rw e (answered_bare (killed c p.kills) p.index p.reply (killed_bare c p.kills a))
    ]

-- ---- histories

call_bare : (h : History) (call : Call) → AreBare h.core → AreBare (after_call h call).core
call_bare h (Exec i room) a = exec_core h.core i room a
call_bare h (Turn room) a = turn_core h.core room a
call_bare h (Drain i room) a = drain_core h.core i room a
call_bare h (Take p) a = take_core h.core p a

calls_bare : (h : History) (calls : List Call) → AreBare h.core → AreBare (after_calls h calls).core
unfolding after_calls
calls_bare h [] a = a
calls_bare h (call ∷ calls) a = calls_bare (after_call h call) calls (call_bare h call a)

begun_bare : (w : Setup) (core : ℕ) → AreBare (begun w core).core
unfolding new_core
begun_bare w core i t e =
    let first = thread_is w.config w.image.entry (core * w.config.strands) w.config.strands i t e in
    subst (λ (u : ThreadState). IsBare w.config.ram u) first (record { items = λ k x h. absurd (no_item k x h); stores = tt; asks = tt })
  where
    no_item : (k : ℕ) (x : Item) → slice_get [] k ≡ Some x → ⊥
    no_item k x h = let clash : ◌≡◌ {A = Option Item} None (Some x) = h in cc

-- each strand of a core, after any calls
pub history_bare : (w : Setup) (core : ℕ) (calls : List Call) → AreBare (history_of w core calls).core
history_bare w core calls = calls_bare (begun w core) calls (begun_bare w core)
