-- Where the machine is over, no slot is enabled.
use Rattle.std.proofs.Common.{◌≡◌, ℕ, zero, suc, ◌<◌, nat_lt, Bool, true, false, is_none, List, [], ◌∷◌, length, get_or, Option, Some, None, refl, ap, subst, arith}
use Rattle.std.specs.List.{slice_get}
use Rattle.std.proofs.lemmas.Bool.{and_parts}
use Rattle.t1_packet.specs.declared.packet.Packet.{Packet}
use Rattle.t1_packet.specs.declared.served.Served.{Served}
use Rattle.t1_sbuf.specs.declared.entry.Entry.{Entry}
use Rattle.t1_event.specs.declared.trace.Ending.{Ending}
use Rattle.t1_joint.specs.Start.{Setup}
use Rattle.t1_select.proofs.Places.{first_ready_none}
use Rattle.t1_core.specs.declared.phase.Phase.{Phase}
use Rattle.t1_core.specs.declared.phase.Phase.TheVariants as phase
use Rattle.t1_core.specs.declared.answers.Did.{Did}
use Rattle.t1_core.specs.declared.answers.Drained.{Drained}
use Rattle.t1_core.specs.declared.answers.Drained.TheVariants as drained
use Rattle.t1_core.specs.Threads.{ThreadState}
use Rattle.t1_core.specs.Steps.{CoreState, asker, waited, exec_phase, exec_at, exec_of, thread_exec, drain_stores, thread_drain, drain_at, drain_of}
use Rattle.t1_core.specs.Turns.{is_ready, next_place, turned_at, turn_of}
use Rattle.t1_core.specs.Ends.{finished_of, is_over, is_over_in, all_over}
use Rattle.t1_machine.specs.declared.slot.Slot.{Slot}
use Rattle.t1_machine.specs.declared.slot.Slot.TheVariants as slot
use Rattle.t1_machine.specs.Machine.{MachineState, request_rooms, exec_did, exec_in, drain_did, drain_in, take_from, take_in, serve_core, serve_if, admit_from, stepped, is_enabled}
use Rattle.t1_machine_rule.specs.Kept.{Kept}
use Rattle.t1_machine_rule.specs.Ends.{NoneEnabled, IsOver}
use Rattle.t1_machine_rule.proofs.Slots.{slot_cases, none_some}
use Rattle.t1_machine_rule.proofs.Askers.{asks_none}
use Rattle.std.proofs.lemmas.Option.{slice_get_within}

-- ---- strands that are over

over_at : (ts : List ThreadState) (s : ℕ) (t : ThreadState) → all_over ts ≡ true → slice_get ts s ≡ Some t → is_over t ≡ true
over_at [] s t a e = let clash : ◌≡◌ {A = Option ThreadState} None (Some t) = e in cc
over_at (u ∷ ts) zero t a e =
    let same : u ≡ t = cc (e) in subst (λ (v : ThreadState). is_over v ≡ true) same (and_parts (is_over u) (all_over ts) a).0
over_at (u ∷ ts) (suc s) t a e = over_at ts s t (and_parts (is_over u) (all_over ts) a).1 e

-- what it is for a strand to be over
record IsOverAt (p : Phase) (es : List Entry) : Type 0 where
  pub ending : Ending
  pub ended : p ≡ phase.Ended ending
  pub empty : es ≡ []

over_is : (p : Phase) (es : List Entry) → is_over_in p es ≡ true → IsOverAt p es
over_is (phase.Ended e) [] h = record { ending = e; ended = refl; empty = refl }
over_is (phase.Ended e) (x ∷ es) h = let clash : false ≡ true = h in cc
over_is phase.Fetch es h = let clash : false ≡ true = h in cc
over_is (phase.Have word) es h = let clash : false ≡ true = h in cc
over_is (phase.OutFetch way seen) es h = let clash : false ≡ true = h in cc
over_is (phase.OutData word way seen) es h = let clash : false ≡ true = h in cc

-- ---- a finished core

module _ (core : CoreState) (room : ℕ) (over : finished_of core ≡ true) where
  over_here : (i : ℕ) (t : ThreadState) → slice_get core.threads i ≡ Some t → IsOverAt t.phase t.stores
  over_here i t e = over_is t.phase t.stores (over_at core.threads i t over e)

  waits_on : (i : ℕ) → is_ready core room i ≡ false
  unfolding exec_of thread_exec
  waits_on i = by (slice_get core.threads i) refl
    where
      by : (o : Option ThreadState) → slice_get core.threads i ≡ o → is_none (waited (exec_at core i room o).did) ≡ false
      by None e = refl
      by (Some t) e =
          ap (λ (p : Phase). is_none (waited (exec_phase (asker core i room) core.icache core.dcache t p).did)) (over_here i t e).ended

  pub no_turn : (turn_of core room).did ≡ None
  unfolding turn_of
  no_turn =
      let first : next_place core room ≡ None = first_ready_none (λ i. is_ready core room i) core.turns (λ k l. waits_on (get_or core.turns k 0)) in
      ap (λ (o : Option ℕ). (turned_at core room o).did) first

  pub drains_none : (i : ℕ) → (drain_of core i room).did ≡ drained.Empty
  unfolding drain_of thread_drain
  drains_none i = by (slice_get core.threads i) refl
    where
      by : (o : Option ThreadState) → slice_get core.threads i ≡ o → (drain_at core i room o).did ≡ drained.Empty
      by None e = refl
      by (Some t) e = ap (λ (es : List Entry). (drain_stores (asker core i room) t es).did) (over_here i t e).empty

-- ---- the machine

module _ (w : Setup) (m : MachineState) (g : Kept w m) (over : IsOver w m) where
  within : (c : ℕ) (core : CoreState) → slice_get m.cores c ≡ Some core → c < w.config.cores
  within c core is = let l = slice_get_within m.cores c core is in omega (arith, l, g.parts.cores)

  exec_none : (c : ℕ) → exec_in m c (slice_get m.cores c) ≡ None
  exec_none c = by (slice_get m.cores c) refl
    where
      by : (o : Option CoreState) → slice_get m.cores c ≡ o → exec_in m c o ≡ None
      by None e = refl
      by (Some core) e =
          let room : ℕ = request_rooms m.requests c in
          ap (λ (o : Option Did). exec_did m c (turn_of core room).core o) (no_turn core room (over.cores c core e))

  drain_none : (c s : ℕ) → drain_in m c s (slice_get m.cores c) ≡ None
  drain_none c s = by (slice_get m.cores c) refl
    where
      by : (o : Option CoreState) → slice_get m.cores c ≡ o → drain_in m c s o ≡ None
      by None e = refl
      by (Some core) e =
          let room : ℕ = request_rooms m.requests c in
          ap (λ (o : Drained). drain_did m c (drain_of core s room).core o) (drains_none core room (over.cores c core e) s)

  take_none : (c : ℕ) → take_in m c (slice_get m.cores c) ≡ None
  take_none c = by (slice_get m.cores c) refl
    where
      by : (o : Option CoreState) → slice_get m.cores c ≡ o → take_in m c o ≡ None
      by None e = refl
      by (Some core) e = ap (λ (ps : List Packet). take_from m c core ps) (over.replies c (within c core e))

  serve_none : (d : ℕ) → d < 9 → (b : Bool) → serve_if m d b ≡ None
  serve_none d l false = refl
  serve_none d l true =
      let first : get_or m.tried d 0 < length m.cores = (let t = g.parts.tried d in let e = g.parts.cores in omega (arith, t, e)) in
      ap (λ (o : Option ℕ). serve_core m d o)
      (asks_none m.requests (length m.cores) d (get_or m.tried d 0) (length m.cores) first (λ j lj. over.requests j d (let e = g.parts.cores in omega (arith, lj, e)) l))

  admit_none : (d : ℕ) → d < 9 → admit_from m d (get_or m.served d []) ≡ None
  admit_none d l = ap (λ (ss : List Served). admit_from m d ss) (over.served d l)

  pub no_slot_is_left : NoneEnabled m
  no_slot_is_left n l =
      slot_cases m.chip (λ (s : Slot). is_enabled m s ≡ false) n l
      (λ c lc. none_some (stepped m (slot.Exec c)) (exec_none c))
      (λ c s lc ls. none_some (stepped m (slot.Drain c s)) (drain_none c s))
      (λ c lc. none_some (stepped m (slot.Take c)) (take_none c))
      (λ d ld. none_some (stepped m (slot.Serve d)) (serve_none d ld (nat_lt (length (get_or m.served d [])) 2)))
      (λ d ld. none_some (stepped m (slot.Admit d)) (admit_none d ld))
