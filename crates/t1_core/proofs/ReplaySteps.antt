-- Exec and drain keep each strand the replay so far.
use Rattle.std.proofs.Common.{◌≡◌, ◌≢◌, ◌⊎◌, ◌+◌, ◌-◌, ◌*◌, ◌/◌, ◌%◌, ◌^◌, ◌<◌, ℕ, Bool, true, false, List, [], ◌∷◌, ◌++◌, Option, Some, None, refl, ap, sym, ◌∙◌, subst, zero, suc, set, length, inl, inr, nat_lt, arith, append-nil, if◌then◌else◌}
use Rattle.std.specs.List.{slice_get}
use Rattle.std.proofs.lemmas.Nat.{mod_below, pow_pos}
use Rattle.std.proofs.lemmas.Bool.{cases_Bool, lt-ltb}
use Rattle.t1_space.specs.Places.{is_io}
use Rattle.t1_decode.specs.Words.{insn_of}
use Rattle.t1_state.specs.declared.strand.Strand.{Strand}
use Rattle.t1_state.specs.Interrupts.{due_of}
use Rattle.t1_exec.specs.declared.need.Need.{Need}
use Rattle.t1_exec.specs.declared.need.Need.TheVariants as need
use Rattle.t1_exec.specs.Needs.{need_of}
use Rattle.t1_exec.specs.Meanings.{after_of}
use Rattle.t1_packet.specs.declared.op.Op.{Op}
use Rattle.t1_packet.specs.declared.op.Op.TheVariants as op
use Rattle.t1_packet.specs.Ops.{op_dest}
use Rattle.t1_sbuf.specs.declared.entry.Entry.{Entry}
use Rattle.t1_sbuf.specs.declared.entry.Look.{Look}
use Rattle.t1_sbuf.specs.declared.entry.Look.TheVariants as look
use Rattle.t1_sbuf.specs.Entries.{next_to_send_of}
use Rattle.t1_sbuf.specs.Looks.{overlaps, holds_all, bytes_in, answer_of, look_from, look_of}
use Rattle.t1_l1.specs.Cache.{CacheState, read_of, victim_at}
use Rattle.t1_event.specs.declared.item.Item.{Item}
use Rattle.t1_event.specs.declared.item.How.{How}
use Rattle.t1_event.specs.declared.item.How.TheVariants.{Forward, Hit}
use Rattle.t1_event.specs.Items.{load_item, store_item, membar_item, flush_item, reads_of, unplaced}
use Rattle.t1_joint.specs.Replay.{Bounds, Running, fetch_trap, is_fetchable, met, acted}
use Rattle.t1_joint.specs.Follows.{HasBegun}
use Rattle.t1_core.specs.declared.asker.Asker.{Asker}
use Rattle.t1_core.specs.declared.phase.Phase.{Phase}
use Rattle.t1_core.specs.declared.phase.Phase.TheVariants as phase
use Rattle.t1_core.specs.declared.plan.Plan.{Plan}
use Rattle.t1_core.specs.declared.plan.Plan.TheVariants as plan
use Rattle.t1_core.specs.Stores.{store_op}
use Rattle.t1_core.specs.Threads.{ThreadState, thread_need, unit_done, halted, trapped, word_came, load_came, value_came, stored, op_for, next_phase, placed}
use Rattle.t1_core.specs.Steps.{CoreState, asker, moved, is_fence, if_empty, plan_look, plan_of, has_room, asked, asked_fetch, asked_data, exec_fetch, exec_begin, exec_look, exec_plan, exec_phase, thread_exec, exec_at, exec_of, drain_next, drain_stores, thread_drain, drain_at, drain_of}
use Rattle.t1_core.specs.Replays.{IsReading, IsBetween, IsFetching, IsAsking, ReplaysAt, Replays, bare_items, AreByteLines, IsReplayed}
use Rattle.t1_core.proofs.ReplayUnits.{word_follows, unit_follows, value_follows, trap_follows, halt_follows, interrupt_follows, out_follows}
use Rattle.t1_core.proofs.ReplayBytes.{got_set, read_fits}

-- ---- what the buffer answers fits its size

abbrev IsFitting : ℕ → Look → Type 0
IsFitting size look.Clear = Unit {0}
IsFitting size (look.Covers v) = nat_lt v (2 ^ (8 * size)) ≡ true
IsFitting size (look.Overlaps place) = Unit {0}

answer_fits : (b : Bool) (v place size : ℕ) → IsFitting size (if b then look.Covers (v % 2 ^ (8 * size)) else look.Overlaps place)
answer_fits true v place size = lt-ltb (v % 2 ^ (8 * size)) (2 ^ (8 * size)) (mod_below v (2 ^ (8 * size)) (pow_pos (8 * size)))
answer_fits false v place size = tt

either_fits : (b : Bool) (size : ℕ) (x y : Look) → IsFitting size x → IsFitting size y → IsFitting size (if b then x else y)
either_fits true size x y f g = f
either_fits false size x y f g = g

look_from_fits : (older : Look) (place : ℕ) (es : List Entry) (addr size : ℕ) → IsFitting size older → IsFitting size (look_from older place es addr size)
unfolding look_from
look_from_fits older place [] addr size f = f
look_from_fits older place (e ∷ es) addr size f =
    look_from_fits (if overlaps e addr size then answer_of e place addr size else older) (place + 1) es addr size
    (either_fits (overlaps e addr size) size (answer_of e place addr size) older
    (answer_fits (holds_all e addr size) (e.value / 2 ^ (8 * (e.addr + e.size - (addr + size)))) place size) f)

look_fits : (es : List Entry) (addr size : ℕ) → IsFitting size (look_of es addr size)
look_fits es addr size = look_from_fits look.Clear 0 es addr size tt

-- ---- one strand of the list

abbrev pub AllReplay : (ℕ → Strand) → ℕ → List ThreadState → Type 0
AllReplay starts ram threads = (i : ℕ) (t : ThreadState) → slice_get threads i ≡ Some t → Replays ram (starts i) t

pub set_thread : (starts : ℕ → Strand) (ram : ℕ) (threads : List ThreadState) (i : ℕ) (t : ThreadState) → AllReplay starts ram threads → Replays ram (starts i) t → AllReplay starts ram (set threads i t)
set_thread starts ram threads i t all new j m e =
    elim (got_set threads i t j m e) [
      | inl p ↦
          let here : Replays ram (starts j) t = subst (λ (k : ℕ). Replays ram (starts k) t) (sym p.0) new in
          subst (λ (n : ThreadState). Replays ram (starts j) n) p.1 here
      | inr p ↦ all j m p.1
    ]

-- ---- exec

abbrev pub bounds : ℕ → ℕ → Bounds
bounds ram budget = record { ram = ram; budget = budget }

abbrev pub thread_at : Strand → Phase → List Entry → List ℕ → List Item → ℕ → ThreadState
thread_at s p es times xs budget = record { strand = s; phase = p; stores = es; times = times; items = xs; budget = budget }

module _ (y : Asker) (icache dcache : CacheState) (ib : AreByteLines icache.slots) (db : AreByteLines dcache.slots)
    (from s : Strand) (es : List Entry) (times : List ℕ) (xs : List Item) (budget : ℕ) where
  -- the strand in a phase
  abbrev at_phase : Phase → ThreadState
  at_phase p = thread_at s p es times xs budget

  asked_goes : (p q : Phase) (o : Op) → ReplaysAt (bounds y.ram budget) from s (bare_items xs) p → ReplaysAt (bounds y.ram budget) from s (bare_items xs) q
      → Replays y.ram from (asked y (at_phase p) o q).thread
  unfolding asked
  asked_goes p q o g f =
      elim (cases_Bool (has_room y.room (op_dest y.chip o))) [
        | inl e ↦ rw e f
        | inr e ↦ rw e g
      ]

  fetch_goes : (found : Option ℕ) → read_of icache s.pc 4 ≡ found → IsFetching (bounds y.ram budget) from s (bare_items xs)
      → Replays y.ram from (exec_fetch y icache (at_phase phase.Fetch) found).thread
  unfolding word_came asked_fetch
  fetch_goes (Some word) e f =
      let t : ThreadState = word_came (at_phase phase.Fetch) word (Hit y.time) in
      let g : Replays y.ram from t = word_follows (bounds y.ram budget) from s xs word (Hit y.time) f (read_fits icache s.pc 4 word ib e) in
      g
  fetch_goes None e f =
      let way : ℕ = victim_at icache s.pc in
      asked_goes phase.Fetch (phase.OutFetch way y.time) (op.Fetch s.pc way) f.between f

  begin_goes : (due : Option ℕ) (can : Bool) → due_of s ≡ due → is_fetchable y.ram s.pc ≡ can → IsBetween (bounds y.ram budget) from s (bare_items xs)
      → Replays y.ram from (exec_begin y icache (at_phase phase.Fetch) due can).thread
  unfolding trapped
  begin_goes (Some number) can d f b =
      let t : ThreadState = trapped (at_phase phase.Fetch) number in
      let g : Replays y.ram from t = interrupt_follows (bounds y.ram budget) from s xs number b d in
      g
  begin_goes None false d f b =
      let t : ThreadState = trapped (at_phase phase.Fetch) fetch_trap in
      let g : Replays y.ram from t = out_follows (bounds y.ram budget) from s xs b d f in
      g
  begin_goes None true d f b =
      fetch_goes (read_of icache s.pc 4) refl (record { between = b; not_due = d; in_ram = f })

  data_goes : (word addr : ℕ) → IsAsking (bounds y.ram budget) from s (bare_items xs) word → Replays y.ram from (asked_data y dcache (at_phase (phase.Have word)) addr).thread
  unfolding asked_data thread_need
  data_goes word addr a =
      let way : ℕ = victim_at dcache addr in
      asked_goes (phase.Have word) (phase.OutData word way y.time) (op_for (need_of s (insn_of word) y.ram) way) a.begun a

  load_goes : (word addr size v : ℕ) (how : How) → need_of s (insn_of word) y.ram ≡ need.Load addr size → HasBegun (bounds y.ram budget) from s (bare_items xs) word
      → nat_lt v (2 ^ (8 * size)) ≡ true → Replays y.ram from (load_came (at_phase (phase.Have word)) addr size v how)
  unfolding load_came unit_done
  load_goes word addr size v how e h f =
      let t : ThreadState = load_came (at_phase (phase.Have word)) addr size v how in
      let g : Replays y.ram from t = value_follows (bounds y.ram budget) from s xs word v how (need.Load addr size) e h tt f in
      g

  look_goes : (word addr size : ℕ) (found : Option ℕ) → read_of dcache addr size ≡ found → need_of s (insn_of word) y.ram ≡ need.Load addr size
      → IsAsking (bounds y.ram budget) from s (bare_items xs) word → Replays y.ram from (exec_look y dcache (at_phase (phase.Have word)) addr size found).thread
  look_goes word addr size (Some v) r e a = load_goes word addr size v (Hit y.time) e a.begun (read_fits dcache addr size v db r)
  look_goes word addr size None r e a = data_goes word addr a

  plan_look_goes : (word addr size : ℕ) (l : Look) → IsFitting size l → need_of s (insn_of word) y.ram ≡ need.Load addr size
      → IsAsking (bounds y.ram budget) from s (bare_items xs) word → Replays y.ram from (exec_plan y dcache (at_phase (phase.Have word)) (plan_look addr size l)).thread
  plan_look_goes word addr size look.Clear f e a = look_goes word addr size (read_of dcache addr size) refl e a
  plan_look_goes word addr size (look.Covers v) f e a = load_goes word addr size v (Forward y.time) e a.begun f
  plan_look_goes word addr size (look.Overlaps place) f e a = a.begun

  empty_goes : (word : ℕ) (bs : List Entry) (p : Plan) → HasBegun (bounds y.ram budget) from s (bare_items xs) word → Replays y.ram from (exec_plan y dcache (at_phase (phase.Have word)) p).thread
      → Replays y.ram from (exec_plan y dcache (at_phase (phase.Have word)) (if_empty bs p)).thread
  empty_goes word [] p h g = g
  empty_goes word (e ∷ bs) p h g = h

  -- a unit with an item that reads nothing
  note_goes : (word : ℕ) (x : Item) → HasBegun (bounds y.ram budget) from s (bare_items xs) word
      → met s word (bare_items xs) [] (need_of s (insn_of word) y.ram) ≡ acted s word 0 (bare_items xs ++ unplaced x ∷ []) [] Running
      → reads_of (unplaced x ∷ []) ≡ []
      → Replays y.ram from (unit_done (at_phase (phase.Have word)) 0 (x ∷ []))
  unfolding unit_done
  note_goes word x h e r =
      let t : ThreadState = unit_done (at_phase (phase.Have word)) 0 (x ∷ []) in
      let g : Replays y.ram from t = unit_follows (bounds y.ram budget) from s xs (x ∷ []) word 0 [] h e r in
      g

  need_goes : (word : ℕ) (n : Need) → need_of s (insn_of word) y.ram ≡ n → HasBegun (bounds y.ram budget) from s (bare_items xs) word
      → Replays y.ram from (exec_plan y dcache (at_phase (phase.Have word)) (plan_of es n)).thread
  unfolding unit_done halted trapped stored reads_of
  need_goes word need.Plain e h =
      let t : ThreadState = unit_done (at_phase (phase.Have word)) 0 [] in
      let acts : met s word (bare_items xs) [] (need_of s (insn_of word) y.ram) ≡ acted s word 0 (bare_items xs ++ []) [] Running =
      ap (λ (n : Need). met s word (bare_items xs) [] n) e ∙ ap (λ (ys : List Item). acted s word 0 ys [] Running) (sym (append-nil (bare_items xs))) in
      let g : Replays y.ram from t = unit_follows (bounds y.ram budget) from s xs [] word 0 [] h acts refl in
      g
  need_goes word need.Halt e h =
      let t : ThreadState = halted (at_phase (phase.Have word)) in
      let g : Replays y.ram from t = halt_follows (bounds y.ram budget) from s xs word h e in
      g
  need_goes word (need.Trap number) e h =
      let t : ThreadState = trapped (at_phase (phase.Have word)) number in
      let g : Replays y.ram from t = trap_follows (bounds y.ram budget) from s xs word number h e in
      g
  need_goes word (need.Membar mask) e h =
      let acts = ap (λ (n : Need). met s word (bare_items xs) [] n) e in
      let g = note_goes word (membar_item mask) h acts refl in
      elim (cases_Bool (is_fence mask)) [
        | inl f ↦ rw f (empty_goes word es (plan.Membar mask) h g)
        | inr f ↦ rw f g
      ]
  need_goes word need.Flush e h =
      let acts = ap (λ (n : Need). met s word (bare_items xs) [] n) e in
      empty_goes word es plan.Flush h (note_goes word flush_item h acts refl)
  need_goes word (need.Store addr size v) e h =
      let t : ThreadState = stored y.chip (at_phase (phase.Have word)) addr size v in
      let acts = ap (λ (n : Need). met s word (bare_items xs) [] n) e in
      let g : Replays y.ram from t = unit_follows (bounds y.ram budget) from s xs (store_item addr size v ∷ []) word 0 [] h acts refl in
      elim (cases_Bool (nat_lt (length es) 8)) [
        | inl f ↦ rw f g
        | inr f ↦ rw f h
      ]
  need_goes word (need.Load addr size) e h =
      let asks : IsAsking (bounds y.ram budget) from s (bare_items xs) word = record { begun = h; reads = subst (λ (n : Need). IsReading n) (sym e) tt } in
      elim (cases_Bool (is_io addr)) [
        | inl f ↦ rw f (empty_goes word es (plan.Send addr) h (data_goes word addr asks))
        | inr f ↦ rw f (plan_look_goes word addr size (look_of es addr size) (look_fits es addr size) e asks)
      ]
  need_goes word (need.Atomic addr size o) e h =
      let asks : IsAsking (bounds y.ram budget) from s (bare_items xs) word = record { begun = h; reads = subst (λ (n : Need). IsReading n) (sym e) tt } in
      empty_goes word es (plan.Send addr) h (data_goes word addr asks)

  phase_goes : (p : Phase) → ReplaysAt (bounds y.ram budget) from s (bare_items xs) p → Replays y.ram from (exec_phase y icache dcache (at_phase p) p).thread
  unfolding thread_need
  phase_goes phase.Fetch f = begin_goes (due_of s) (is_fetchable y.ram s.pc) refl refl f
  phase_goes (phase.Have word) f = need_goes word (need_of s (insn_of word) y.ram) refl f
  phase_goes (phase.OutFetch way seen) f = f
  phase_goes (phase.OutData word way seen) f = f
  phase_goes (phase.Ended e) f = f

pub thread_exec_replays : (y : Asker) (icache dcache : CacheState) (from : Strand) (t : ThreadState) → AreByteLines icache.slots → AreByteLines dcache.slots
    → Replays y.ram from t → Replays y.ram from (thread_exec y icache dcache t).thread
unfolding thread_exec
thread_exec_replays y icache dcache from t ib db f = phase_goes y icache dcache ib db from t.strand t.stores t.times t.items t.budget t.phase f

exec_at_replays : (starts : ℕ → Strand) (c : CoreState) (i room : ℕ) (o : Option ThreadState) → IsReplayed starts c → slice_get c.threads i ≡ o → IsReplayed starts (exec_at c i room o).core
exec_at_replays starts c i room None r e = r
exec_at_replays starts c i room (Some t) r e = record {
  each = set_thread starts c.ram c.threads i (thread_exec (asker c i room) c.icache c.dcache t).thread r.each
      (thread_exec_replays (asker c i room) c.icache c.dcache (starts i) t r.icache r.dcache (r.each i t e));
  dcache = r.dcache;
  icache = r.icache;
}

pub exec_replays : (starts : ℕ → Strand) (c : CoreState) (i room : ℕ) → IsReplayed starts c → IsReplayed starts (exec_of c i room).core
unfolding exec_of
exec_replays starts c i room r = exec_at_replays starts c i room (slice_get c.threads i) r refl

-- ---- drain

drain_next_replays : (y : Asker) (from : Strand) (t : ThreadState) (o : Option Entry) → Replays y.ram from t → Replays y.ram from (drain_next y t o).thread
drain_next_replays y from t None f = f
drain_next_replays y from t (Some e) f =
    elim (cases_Bool (has_room y.room (op_dest y.chip (store_op e)))) [
      | inl r ↦ rw r f
      | inr r ↦ rw r f
    ]

drain_stores_replays : (y : Asker) (from : Strand) (t : ThreadState) (es : List Entry) → Replays y.ram from t → Replays y.ram from (drain_stores y t es).thread
drain_stores_replays y from t [] f = f
drain_stores_replays y from t (e ∷ es) f = drain_next_replays y from t (next_to_send_of (e ∷ es)) f

drain_at_replays : (starts : ℕ → Strand) (c : CoreState) (i room : ℕ) (o : Option ThreadState) → IsReplayed starts c → slice_get c.threads i ≡ o → IsReplayed starts (drain_at c i room o).core
unfolding thread_drain
drain_at_replays starts c i room None r e = r
drain_at_replays starts c i room (Some t) r e = record {
  each = set_thread starts c.ram c.threads i (thread_drain (asker c i room) t).thread r.each (drain_stores_replays (asker c i room) (starts i) t t.stores (r.each i t e));
  dcache = r.dcache;
  icache = r.icache;
}

pub drain_replays : (starts : ℕ → Strand) (c : CoreState) (i room : ℕ) → IsReplayed starts c → IsReplayed starts (drain_of c i room).core
unfolding drain_of
drain_replays starts c i room r = drain_at_replays starts c i room (slice_get c.threads i) r refl
