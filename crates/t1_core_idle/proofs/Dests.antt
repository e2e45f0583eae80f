-- Where a core's requests go.
use Rattle.std.proofs.Common.{◌≡◌, ◌<◌, ℕ, ◌%◌, Bool, true, false, List, [], ◌∷◌, ◌++◌, slice_index, Option, Some, None, refl, sym, subst, inl, inr}
use Rattle.std.specs.List.{slice_get}
use Rattle.std.proofs.lemmas.Bool.{cases_Bool}
use Rattle.t1_shape.specs.Shapes.{Shape}
use Rattle.t1_state.specs.Interrupts.{due_of}
use Rattle.t1_packet.specs.declared.op.Op.{Op}
use Rattle.t1_packet.specs.Data.{RequestData}
use Rattle.t1_packet.specs.Ops.{op_dest}
use Rattle.t1_sbuf.specs.declared.entry.Entry.{Entry}
use Rattle.t1_sbuf.specs.Entries.{next_to_send_of}
use Rattle.t1_l1.specs.Cache.{CacheState, read_of}
use Rattle.t1_joint.specs.Lists.{IsIn}
use Rattle.t1_joint.specs.Start.{Setup}
use Rattle.t1_joint.specs.Replay.{is_fetchable}
use Rattle.t1_joint.specs.CoreRule.{IsAsked, IsMeant}
use Rattle.t1_core.specs.declared.asker.Asker.{Asker}
use Rattle.t1_core.specs.declared.phase.Phase.{Phase}
use Rattle.t1_core.specs.declared.phase.Phase.TheVariants as phase
use Rattle.t1_core.specs.declared.answers.Did.{Did}
use Rattle.t1_core.specs.declared.answers.Did.TheVariants as did
use Rattle.t1_core.specs.declared.answers.Drained.{Drained}
use Rattle.t1_core.specs.declared.answers.Drained.TheVariants as drained
use Rattle.t1_core.specs.declared.plan.Plan.{Plan}
use Rattle.t1_core.specs.declared.plan.Plan.TheVariants as plan
use Rattle.t1_core.specs.Stores.{store_op}
use Rattle.t1_core.specs.Threads.{ThreadState, thread_need}
use Rattle.t1_core.specs.Steps.{CoreState, asker, has_room, asked, asked_fetch, asked_data, exec_fetch, exec_begin, exec_look, exec_plan, exec_phase, plan_of, thread_exec, exec_at, exec_of, drain_next, drain_stores, thread_drain, drain_at, drain_of}
use Rattle.t1_core.specs.Turns.{next_place, turned_at, turn_of}
use Rattle.t1_core.specs.Told.{HasRing, HasDrainRing}
use Rattle.t1_core.proofs.Quiet.{exec_ring, drain_ring}
use Rattle.t1_core_rule.specs.Histories.{History, Exec, Drain, asked_by, drained_by, after_exec, after_drain}
use Rattle.t1_core_rule.specs.Steady.{IsOwn, IsSteady}
use Rattle.t1_core_rule.specs.Laws.{history_of}
use Rattle.t1_core_rule.proofs.Walks.{call_steady, history_steady}
use Rattle.t1_received.proofs.Lists.{in_last}
use Rattle.t1_core_idle.specs.Laws.{GoesOut, RequestsGoOut}

-- a request goes to its own destination
abbrev pub IsToDest : Shape → Did → Type 0
IsToDest chip did.Moved = Unit {0}
IsToDest chip (did.Waits wait) = Unit {0}
IsToDest chip (did.Sent dest request) = op_dest chip request.op ≡ dest

abbrev pub IsDrainedTo : Shape → Drained → Type 0
IsDrainedTo chip drained.Empty = Unit {0}
IsDrainedTo chip drained.Out = Unit {0}
IsDrainedTo chip (drained.NoRoom dest) = Unit {0}
IsDrainedTo chip (drained.Sent dest request) = op_dest chip request.op ≡ dest

module _ (x : Asker) (icache dcache : CacheState) (t : ThreadState) where
  asked_dest : (o : Op) (p : Phase) → IsToDest x.chip (asked x t o p).did
  unfolding asked
  asked_dest o p = elim (cases_Bool (has_room x.room (op_dest x.chip o))) [ inl e ↦ rw e refl | inr e ↦ rw e tt ]

  fetch_dest : (word : Option ℕ) → IsToDest x.chip (exec_fetch x icache t word).did
  unfolding asked_fetch
  fetch_dest (Some word) = tt
  fetch_dest None = asked_dest _ _

  begin_dest : (due : Option ℕ) (can : Bool) → IsToDest x.chip (exec_begin x icache t due can).did
  begin_dest (Some number) can = tt
  begin_dest None false = tt
  begin_dest None true = fetch_dest (read_of icache t.strand.pc 4)

  data_dest : (addr : ℕ) → IsToDest x.chip (asked_data x dcache t addr).did
  unfolding asked_data
  data_dest addr = asked_dest _ _

  look_dest : (addr size : ℕ) (found : Option ℕ) → IsToDest x.chip (exec_look x dcache t addr size found).did
  look_dest addr size (Some v) = tt
  look_dest addr size None = data_dest addr

  plan_dest : (p : Plan) → IsToDest x.chip (exec_plan x dcache t p).did
  plan_dest (plan.Waits w) = tt
  plan_dest (plan.Trap number) = tt
  plan_dest plan.Act = tt
  plan_dest plan.Halt = tt
  plan_dest (plan.Membar mask) = tt
  plan_dest plan.Flush = tt
  plan_dest (plan.Store addr size value) = tt
  plan_dest (plan.Forward addr size value) = tt
  plan_dest (plan.Look addr size) = look_dest addr size (read_of dcache addr size)
  plan_dest (plan.Send addr) = data_dest addr

  phase_dest : (p : Phase) → IsToDest x.chip (exec_phase x icache dcache t p).did
  phase_dest phase.Fetch = begin_dest (due_of t.strand) (is_fetchable x.ram t.strand.pc)
  phase_dest (phase.Have word) = plan_dest (plan_of t.stores (thread_need x.ram t))
  phase_dest (phase.OutFetch way seen) = tt
  phase_dest (phase.OutData word way seen) = tt
  phase_dest (phase.Ended e) = tt

  thread_dest : IsToDest x.chip (thread_exec x icache dcache t).did
  unfolding thread_exec
  thread_dest = phase_dest t.phase

exec_dest : (c : CoreState) (i room : ℕ) → IsToDest c.chip (exec_of c i room).did
unfolding exec_of
exec_dest c i room = by (slice_get c.threads i)
  where
    by : (o : Option ThreadState) → IsToDest c.chip (exec_at c i room o).did
    by None = tt
    by (Some t) = thread_dest (asker c i room) c.icache c.dcache t

module _ (x : Asker) (t : ThreadState) where
  next_dest : (o : Option Entry) → IsDrainedTo x.chip (drain_next x t o).did
  next_dest None = tt
  next_dest (Some e) = elim (cases_Bool (has_room x.room (op_dest x.chip (store_op e)))) [ inl r ↦ rw r refl | inr r ↦ rw r tt ]

  stores_dest : (es : List Entry) → IsDrainedTo x.chip (drain_stores x t es).did
  stores_dest [] = tt
  stores_dest (e ∷ es) = next_dest (next_to_send_of (e ∷ es))

  drained_dest : IsDrainedTo x.chip (thread_drain x t).did
  unfolding thread_drain
  drained_dest = stores_dest t.stores

drain_dest : (c : CoreState) (i room : ℕ) → IsDrainedTo c.chip (drain_of c i room).did
unfolding drain_of
drain_dest c i room = by (slice_get c.threads i)
  where
    by : (o : Option ThreadState) → IsDrainedTo c.chip (drain_at c i room o).did
    by None = tt
    by (Some t) = drained_dest (asker c i room) t

-- ---- the laws

-- a request of this core
meant : (w : Setup) (core dest : ℕ) (time : ℕ) (r : RequestData) → IsOwn w core time r → op_dest w.config.chip r.op ≡ dest → IsMeant w core dest r
meant w core dest time r own to = record { core_is = own.core_is; strand_is = own.strand_is; dest_is = to; asked = own.asked }

module _ (w : Setup) (core : ℕ) (h : History) (room dest : ℕ) (r : RequestData) (whole : w.config.ram % 65536 ≡ 0) (s : IsSteady w core h) where
  goes : (to : op_dest h.core.chip r.op ≡ dest) → (has_room room dest ≡ true) × (dest < 9) → (after : History) → IsSteady w core after → IsIn r after.sent → GoesOut w core room dest r
  goes to ring after steady among = record { dest_is = ring.1; room_is = ring.0; meant = meant w core dest after.core.time r (steady.own r among) (subst (λ (v : Shape). op_dest v r.op ≡ dest) s.chip to) }

  -- what an exec sends
  pub exec_sends : (strand : ℕ) → (exec_of h.core strand room).did ≡ did.Sent dest r → GoesOut w core room dest r
  exec_sends strand sent =
      goes (subst (λ (d : Did). IsToDest h.core.chip d) sent (exec_dest h.core strand room)) (subst (λ (d : Did). HasRing room d) sent (exec_ring h.core strand room))
      (after_exec h strand room) (call_steady w core h (Exec strand room) whole s) (subst (λ (d : Did). IsIn r (h.sent ++ asked_by d)) (sym sent) (in_last r h.sent))

  -- what a turn sends
  pub turn_sends : (turn_of h.core room).did ≡ Some (did.Sent dest r) → GoesOut w core room dest r
  unfolding turn_of
  turn_sends sent = by (next_place h.core room) sent
    where
      by : (o : Option ℕ) → (turned_at h.core room o).did ≡ Some (did.Sent dest r) → GoesOut w core room dest r
      by None e = let clash : ◌≡◌ {A = Option Did} None (Some (did.Sent dest r)) = e in cc
      by (Some place) e = exec_sends (slice_index h.core.turns place) (cc (e))

  -- what a drain sends
  pub drain_sends : (strand : ℕ) → (drain_of h.core strand room).did ≡ drained.Sent dest r → GoesOut w core room dest r
  drain_sends strand sent =
      goes (subst (λ (d : Drained). IsDrainedTo h.core.chip d) sent (drain_dest h.core strand room)) (subst (λ (d : Drained). HasDrainRing room d) sent (drain_ring h.core strand room))
      (after_drain h strand room) (call_steady w core h (Drain strand room) whole s) (subst (λ (d : Drained). IsIn r (h.sent ++ drained_by d)) (sym sent) (in_last r h.sent))

pub requests_go_out : RequestsGoOut
requests_go_out = record {
  exec = λ w core strand room dest calls r whole sent. exec_sends w core (history_of w core calls) room dest r whole (history_steady w core calls whole) strand sent;
  turn = λ w core room dest calls r whole sent. turn_sends w core (history_of w core calls) room dest r whole (history_steady w core calls whole) sent;
  drain = λ w core strand room dest calls r whole sent. drain_sends w core (history_of w core calls) room dest r whole (history_steady w core calls whole) strand sent;
}
