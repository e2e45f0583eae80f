-- Where each ring has room, a strand with an empty buffer acts unless it awaits a reply or has ended.
use Rattle.std.proofs.Common.{◌≡◌, ◌<◌, ℕ, zero, suc, Bool, true, false, is_none, List, [], ◌∷◌, length, slice_index, Option, Some, None, refl, sym, ◌∙◌, subst, inl, inr, arith}
use Rattle.std.specs.List.{slice_get}
use Rattle.std.proofs.lemmas.Bool.{cases_Bool}
use Rattle.t1_space.specs.Places.{is_io}
use Rattle.t1_state.specs.declared.strand.Strand.{Strand}
use Rattle.t1_state.specs.Interrupts.{due_of}
use Rattle.t1_exec.specs.declared.need.Need.{Need}
use Rattle.t1_exec.specs.declared.need.Need.TheVariants as need
use Rattle.t1_packet.specs.declared.op.Op.{Op}
use Rattle.t1_packet.specs.Data.{RequestData}
use Rattle.t1_packet.specs.Ops.{op_addr, op_dest}
use Rattle.t1_sbuf.specs.declared.entry.Entry.{Entry}
use Rattle.t1_sbuf.specs.declared.entry.Look.{Look}
use Rattle.t1_sbuf.specs.declared.entry.Look.TheVariants as look
use Rattle.t1_sbuf.specs.Looks.{look_from, look_of}
use Rattle.t1_l1.specs.Cache.{CacheState, read_of}
use Rattle.t1_event.specs.declared.trace.Ending.{Ending}
use Rattle.t1_joint.specs.Start.{Setup}
use Rattle.t1_joint.specs.Replay.{is_fetchable}
use Rattle.t1_joint.specs.Parts.{Standing, Out, Ended}
use Rattle.t1_joint.specs.Fit.{HasEnded}
use Rattle.t1_core.specs.declared.asker.Asker.{Asker}
use Rattle.t1_core.specs.declared.phase.Phase.{Phase}
use Rattle.t1_core.specs.declared.phase.Phase.TheVariants as phase
use Rattle.t1_core.specs.declared.answers.Did.{Did}
use Rattle.t1_core.specs.declared.answers.Did.TheVariants as did
use Rattle.t1_core.specs.declared.plan.Plan.{Plan}
use Rattle.t1_core.specs.Threads.{ThreadState, thread_need}
use Rattle.t1_core.specs.Steps.{CoreState, asker, is_fence, plan_look, plan_of, asked, asked_fetch, asked_data, exec_fetch, exec_begin, exec_look, exec_plan, exec_phase, thread_exec, exec_at, exec_of, waited}
use Rattle.t1_core.specs.Quick.{IsWait}
use Rattle.t1_core.specs.Turns.{is_ready, next_place, turned_at, turn_of}
use Rattle.t1_packet.proofs.Caches.{dest_below}
use Rattle.t1_core_rule.specs.Histories.{History}
use Rattle.t1_core_rule.specs.Outs.{numbers_of}
use Rattle.t1_core_rule.specs.Parts.{standing_of, standing_at, waiting_at, part_of}
use Rattle.t1_core_rule.specs.Steady.{IsSteady}
use Rattle.t1_core_rule.specs.Laws.{history_of}
use Rattle.t1_core_rule.proofs.Walks.{history_steady}
use Rattle.t1_core_idle.specs.Laws.{HasAllRoom, WaitingStrandsHaveEnded}
use Rattle.t1_core_idle.proofs.Queues.{none_ready, HasQueue, history_queue}

module _ (x : Asker) (icache dcache : CacheState) (t : ThreadState) (room : HasAllRoom x.room) where
  asked_acts : (o : Op) (p : Phase) → IsWait (asked x t o p).did → ⊥
  unfolding asked
  asked_acts o p h =
      let g : IsWait (asked x t o p).did → ⊥ = rw (room (op_dest x.chip o) (dest_below x.chip (op_addr o))) (λ k. k) in
      g h

  fetch_acts : (word : Option ℕ) → IsWait (exec_fetch x icache t word).did → ⊥
  unfolding asked_fetch
  fetch_acts (Some word) h = h
  fetch_acts None h = asked_acts _ _ h

  begin_acts : (due : Option ℕ) (can : Bool) → IsWait (exec_begin x icache t due can).did → ⊥
  begin_acts (Some number) can h = h
  begin_acts None false h = h
  begin_acts None true h = fetch_acts (read_of icache t.strand.pc 4) h

  data_acts : (addr : ℕ) → IsWait (asked_data x dcache t addr).did → ⊥
  unfolding asked_data
  data_acts addr h = asked_acts _ _ h

  look_acts : (addr size : ℕ) (found : Option ℕ) → IsWait (exec_look x dcache t addr size found).did → ⊥
  look_acts addr size (Some v) h = h
  look_acts addr size None h = data_acts addr h

  abbrev Acts : Plan → Type 0
  Acts p = IsWait (exec_plan x dcache t p).did → ⊥

  none_overlaps : (addr size : ℕ) → look_of [] addr size ≡ look.Clear
  unfolding look_from
  none_overlaps addr size = refl

  need_acts : (n : Need) → Acts (plan_of [] n)
  need_acts need.Plain = λ h. h
  need_acts need.Halt = λ h. h
  need_acts (need.Trap number) = λ h. h
  need_acts (need.Membar mask) = elim (cases_Bool (is_fence mask)) [ inl e ↦ rw e (λ h. h) | inr e ↦ rw e (λ h. h) ]
  need_acts need.Flush = λ h. h
  need_acts (need.Store addr size value) = λ h. h
  need_acts (need.Load addr size) =
      elim (cases_Bool (is_io addr)) [
        | inl e ↦ rw e (data_acts addr)
        | inr e ↦ rw e (subst (λ (l : Look). Acts (plan_look addr size l)) (sym (none_overlaps addr size)) (look_acts addr size (read_of dcache addr size)))
      ]
  need_acts (need.Atomic addr size o) = data_acts addr

  have_acts : (es : List Entry) (n : Need) → es ≡ [] → Acts (plan_of es n)
  have_acts es n empty = subst (λ (ds : List Entry). Acts (plan_of ds n)) (sym empty) (need_acts n)

  -- a strand that waits with an empty buffer
  phase_waits : (p : Phase) (core strand ram k : ℕ) (s : Strand) → t.stores ≡ [] → IsWait (exec_phase x icache dcache t p).did
      → ((r : RequestData) → standing_of core strand ram s k p ≡ Out r → ⊥) → (e : Ending) × (standing_of core strand ram s k p ≡ Ended e)
  phase_waits phase.Fetch core strand ram k s empty h out = absurd (begin_acts (due_of t.strand) (is_fetchable x.ram t.strand.pc) h)
  phase_waits (phase.Have word) core strand ram k s empty h out = absurd (have_acts t.stores (thread_need x.ram t) empty h)
  phase_waits (phase.OutFetch way seen) core strand ram k s empty h out = absurd (out _ refl)
  phase_waits (phase.OutData word way seen) core strand ram k s empty h out = absurd (out _ refl)
  phase_waits (phase.Ended e) core strand ram k s empty h out = (e, refl)

  thread_waits : (core strand ram k : ℕ) (s : Strand) → t.stores ≡ [] → IsWait (thread_exec x icache dcache t).did
      → ((r : RequestData) → standing_of core strand ram s k t.phase ≡ Out r → ⊥) → (e : Ending) × (standing_of core strand ram s k t.phase ≡ Ended e)
  unfolding thread_exec
  thread_waits core strand ram k s empty h out = phase_waits t.phase core strand ram k s empty h out

-- ---- each strand waits where none acts at a turn

none_next : (c : CoreState) (room : ℕ) → (turn_of c room).did ≡ None → next_place c room ≡ None
unfolding turn_of
none_next c room e = by (next_place c room) refl e
  where
    by : (o : Option ℕ) → next_place c room ≡ o → (turned_at c room o).did ≡ None → next_place c room ≡ None
    by None is f = is
    by (Some place) is f = let clash : ◌≡◌ {A = Option Did} (Some (exec_of c (slice_index c.turns place) room).did) None = f in cc

waiting : (d : Did) → is_none (waited d) ≡ false → IsWait d
waiting did.Moved e = let clash : true ≡ false = e in cc
waiting (did.Sent dest r) e = let clash : true ≡ false = e in cc
waiting (did.Waits w) e = tt

all_wait : (w : Setup) (c : CoreState) (room s : ℕ) → HasQueue w c.turns → s < w.config.strands → (turn_of c room).did ≡ None → IsWait (exec_of c s room).did
all_wait w c room s q l e = waiting (exec_of c s room).did (none_ready (λ i. is_ready c room i) c.turns s (none_next c room e) (q s l))

no_entries : (es : List Entry) → numbers_of es ≡ [] → es ≡ []
no_entries [] e = refl
no_entries (d ∷ ds) e = let clash : ◌≡◌ {A = List ℕ} (d.item ∷ numbers_of ds) [] = e in cc

-- a strand that the core has
pub has_strand : {A : Type 0} (xs : List A) (i : ℕ) → i < length xs → (x : A) × (slice_get xs i ≡ Some x)
has_strand [] i l = absurd (omega (arith, l))
has_strand (x ∷ xs) zero l = (x, refl)
has_strand (x ∷ xs) (suc i) l = has_strand xs i (omega (arith, l))

exec_waits : (c : CoreState) (i room : ℕ) (t : ThreadState) → slice_get c.threads i ≡ Some t → IsWait (exec_of c i room).did → IsWait (thread_exec (asker c i room) c.icache c.dcache t).did
unfolding exec_of
exec_waits c i room t e h = subst (λ (o : Option ThreadState). IsWait (exec_at c i room o).did) e h

module _ (w : Setup) (core : ℕ) (h : History) (strand room : ℕ) (s : IsSteady w core h) (q : HasQueue w h.core.turns) (l : strand < w.config.strands) (all : HasAllRoom room) (none : (turn_of h.core room).did ≡ None) where
  abbrev threads : List ThreadState
  threads = h.core.threads

  abbrev standing : Option ThreadState → Standing
  standing o = standing_at h.core.number strand h.core.ram o

  ended_in : (o : Option ThreadState) → slice_get threads strand ≡ o → ((r : RequestData) → standing o ≡ Out r → ⊥) → waiting_at o ≡ [] → (e : Ending) × (standing o ≡ Ended e)
  ended_in None e out empty =
      let size = s.size in
      let t = has_strand threads strand (omega (arith, size, l)) in
      let clash : ◌≡◌ {A = Option ThreadState} None (Some t.0) = sym e ∙ t.1 in
      cc
  ended_in (Some t) e out empty =
      thread_waits (asker h.core strand room) h.core.icache h.core.dcache t all h.core.number strand h.core.ram (length t.items) t.strand (no_entries t.stores empty)
      (exec_waits h.core strand room t e (all_wait w h.core room strand q l none)) out

  -- a strand that awaits no reply, and whose buffer is empty, has ended
  pub has_ended : ((r : RequestData) → (part_of w.config.chip h).standing strand ≡ Out r → ⊥) → (part_of w.config.chip h).waiting strand ≡ [] → HasEnded (part_of w.config.chip h) strand
  has_ended out empty = let e = ended_in (slice_get threads strand) refl out empty in record { ending = e.0; is = e.1; empty = empty }

pub waiting_strands_have_ended : WaitingStrandsHaveEnded
waiting_strands_have_ended w core strand room calls whole l all none out empty =
    has_ended w core (history_of w core calls) strand room (history_steady w core calls whole) (history_queue w core calls) l all none out empty
