-- What waits changes nothing, and what is sent has room.
use Rattle.std.proofs.Common.{◌≡◌, ◌<◌, ◌/◌, ◌%◌, arith, length, get_or, ℕ, zero, suc, Bool, true, false, List, [], ◌∷◌, set, Option, Some, None, refl, ap, sym, ◌∙◌, subst, if◌then◌else◌}
use Rattle.std.specs.Prelude.{IsSome}
use Rattle.std.specs.List.{slice_get}
use Rattle.t1_packet.proofs.Caches.{dest_below}
use Rattle.t1_space.specs.Places.{is_io}
use Rattle.t1_state.specs.Interrupts.{due_of}
use Rattle.t1_packet.specs.declared.op.Op.{Op}
use Rattle.t1_packet.specs.Ops.{op_addr, op_dest, dest_of}
use Rattle.t1_sbuf.specs.declared.entry.Entry.{Entry}
use Rattle.t1_sbuf.specs.Entries.{next_to_send_of}
use Rattle.t1_l1.specs.Cache.{CacheState, read_of}
use Rattle.t1_joint.specs.Replay.{is_fetchable}
use Rattle.t1_select.specs.Queue.{moved_last}
use Rattle.t1_core.specs.declared.asker.Asker.{Asker}
use Rattle.t1_core.specs.declared.phase.Phase.{Phase}
use Rattle.t1_core.specs.declared.phase.Phase.TheVariants as phase
use Rattle.t1_core.specs.declared.answers.Wait.{Wait}
use Rattle.t1_core.specs.declared.answers.Did.{Did}
use Rattle.t1_core.specs.declared.answers.Did.TheVariants as did
use Rattle.t1_core.specs.declared.answers.Drained.{Drained}
use Rattle.t1_core.specs.declared.answers.Drained.TheVariants as drained
use Rattle.t1_core.specs.declared.plan.Plan.{Plan}
use Rattle.t1_core.specs.declared.plan.Plan.TheVariants as plan
use Rattle.t1_core.specs.Stores.{store_op}
use Rattle.t1_core.specs.Threads.{ThreadState, thread_need, store_sent}
use Rattle.t1_core.specs.Steps.{CoreState, ThreadActed, ThreadDrained, CoreDrained, with_thread, asker, has_room, asked, asked_fetch, asked_data, exec_fetch, exec_begin, exec_look, exec_plan, exec_phase, plan_of, thread_exec, exec_at, exec_of, stays, drain_next, drain_stores, thread_drain, drain_at, drain_of}
use Rattle.t1_core.specs.Turns.{next_place, Turned, with_turns, turned_at, turn_of}
use Rattle.t1_core.specs.Told.{HasRing, HasDrainRing, WaitsStill, DrainsStill, ActedAt}

-- what a strand's act tells of itself
pub record Tells (room : ℕ) (t : ThreadState) (a : ThreadActed) : Type 0 where
  pub ring : HasRing room a.did
  pub still : WaitsStill t a.thread a.did

tells_if : (b : Bool) (room : ℕ) (t : ThreadState) (y z : ThreadActed) → (b ≡ true → Tells room t y) → Tells room t z → Tells room t (if b then y else z)
tells_if true room t y z p q = p refl
tells_if false room t y z p q = q

asked_tells : (x : Asker) (t : ThreadState) (o : Op) (p : Phase) → Tells x.room t (asked x t o p)
unfolding asked
asked_tells x t o p = tells_if (has_room x.room (op_dest x.chip o)) x.room t _ _ (λ e. record { ring = (e, dest_below x.chip (op_addr o)); still = tt }) (record { ring = tt; still = refl })

fetch_tells : (x : Asker) (icache : CacheState) (t : ThreadState) (h : Option ℕ) → Tells x.room t (exec_fetch x icache t h)
unfolding asked_fetch
fetch_tells x icache t (Some word) = record { ring = tt; still = tt }
fetch_tells x icache t None = asked_tells x t _ _

data_tells : (x : Asker) (dcache : CacheState) (t : ThreadState) (addr : ℕ) → Tells x.room t (asked_data x dcache t addr)
unfolding asked_data
data_tells x dcache t addr = asked_tells x t _ _

begin_tells : (x : Asker) (icache : CacheState) (t : ThreadState) (o : Option ℕ) (b : Bool) → Tells x.room t (exec_begin x icache t o b)
begin_tells x icache t (Some number) b = record { ring = tt; still = tt }
begin_tells x icache t None false = record { ring = tt; still = tt }
begin_tells x icache t None true = fetch_tells x icache t (read_of icache t.strand.pc 4)

look_tells : (x : Asker) (dcache : CacheState) (t : ThreadState) (addr size : ℕ) (h : Option ℕ) → Tells x.room t (exec_look x dcache t addr size h)
look_tells x dcache t addr size (Some v) = record { ring = tt; still = tt }
look_tells x dcache t addr size None = data_tells x dcache t addr

plan_tells : (x : Asker) (dcache : CacheState) (t : ThreadState) (p : Plan) → Tells x.room t (exec_plan x dcache t p)
plan_tells x dcache t (plan.Waits v) = record { ring = tt; still = refl }
plan_tells x dcache t (plan.Trap number) = record { ring = tt; still = tt }
plan_tells x dcache t plan.Act = record { ring = tt; still = tt }
plan_tells x dcache t plan.Halt = record { ring = tt; still = tt }
plan_tells x dcache t (plan.Membar mask) = record { ring = tt; still = tt }
plan_tells x dcache t plan.Flush = record { ring = tt; still = tt }
plan_tells x dcache t (plan.Store addr size value) = record { ring = tt; still = tt }
plan_tells x dcache t (plan.Forward addr size value) = record { ring = tt; still = tt }
plan_tells x dcache t (plan.Look addr size) = look_tells x dcache t addr size (read_of dcache addr size)
plan_tells x dcache t (plan.Send addr) = data_tells x dcache t addr

phase_tells : (x : Asker) (icache dcache : CacheState) (t : ThreadState) (p : Phase) → Tells x.room t (exec_phase x icache dcache t p)
phase_tells x icache dcache t phase.Fetch = begin_tells x icache t (due_of t.strand) (is_fetchable x.ram t.strand.pc)
phase_tells x icache dcache t (phase.Have word) = plan_tells x dcache t (plan_of t.stores (thread_need x.ram t))
phase_tells x icache dcache t (phase.OutFetch way seen) = record { ring = tt; still = refl }
phase_tells x icache dcache t (phase.OutData word way seen) = record { ring = tt; still = refl }
phase_tells x icache dcache t (phase.Ended e) = record { ring = tt; still = refl }

thread_tells : (x : Asker) (icache dcache : CacheState) (t : ThreadState) → Tells x.room t (thread_exec x icache dcache t)
unfolding thread_exec
thread_tells x icache dcache t = phase_tells x icache dcache t t.phase

pub set_back : {A : Type 0} (xs : List A) (i : ℕ) (x : A) → slice_get xs i ≡ Some x → set xs i x ≡ xs
set_back [] i x e = refl
set_back (y ∷ ys) zero x e = let same : y ≡ x = cc in ap (λ z. z ∷ ys) (sym same)
set_back (y ∷ ys) (suc i) x e = ap (λ zs. y ∷ zs) (set_back ys i x e)

pub within : {A : Type 0} (xs : List A) (i : ℕ) (x : A) → slice_get xs i ≡ Some x → i < length xs
within {A} [] i x e = let clash : ◌≡◌ {A = Option A} None (Some x) = e in cc
within (y ∷ ys) zero x e = omega arith
within (y ∷ ys) (suc i) x e = let h = within ys i x e in omega arith

core_still : (c : CoreState) (i : ℕ) (t u : ThreadState) (d : Did) → slice_get c.threads i ≡ Some t → WaitsStill t u d → WaitsStill c (with_thread c i u) d
core_still c i t u did.Moved at s = tt
core_still c i t u (did.Sent d r) at s = tt
core_still c i t u (did.Waits w) at s =
    let back : set c.threads i u ≡ c.threads = ap (λ (v : ThreadState). set c.threads i v) s ∙ set_back c.threads i t at in
    ap (λ (ts : List ThreadState). record c { threads = ts }) back

still_at : (c : CoreState) (i room : ℕ) (o : Option ThreadState) → slice_get c.threads i ≡ o → WaitsStill c (exec_at c i room o).core (exec_at c i room o).did
still_at c i room None e = refl
still_at c i room (Some t) e = core_still c i t _ _ e (thread_tells (asker c i room) c.icache c.dcache t).still

-- what waits changes nothing
pub exec_still : (c : CoreState) (i room : ℕ) → WaitsStill c (exec_of c i room).core (exec_of c i room).did
unfolding exec_of
exec_still c i room = still_at c i room (slice_get c.threads i) refl

ring_at : (c : CoreState) (i room : ℕ) (o : Option ThreadState) → HasRing room (exec_at c i room o).did
ring_at c i room None = tt
ring_at c i room (Some t) = (thread_tells (asker c i room) c.icache c.dcache t).ring

-- what is sent has room
pub exec_ring : (c : CoreState) (i room : ℕ) → HasRing room (exec_of c i room).did
unfolding exec_of
exec_ring c i room = ring_at c i room (slice_get c.threads i)

still_from : (c k : CoreState) (d e : Did) (w : Wait) → WaitsStill c k e → e ≡ d → d ≡ did.Waits w → k ≡ c
still_from c k d did.Moved w s f g = cc
still_from c k d (did.Sent n r) w s f g = cc
still_from c k d (did.Waits v) w s f g = s

pub exec_quiet : (c : CoreState) (i room : ℕ) (w : Wait) → (exec_of c i room).did ≡ did.Waits w → (exec_of c i room).core ≡ c
exec_quiet c i room w h = still_from c (exec_of c i room).core (did.Waits w) (exec_of c i room).did w (exec_still c i room) h refl

-- ---- drain

-- what is sent is the next store
abbrev pub SendsNext : Asker → ThreadState → ThreadState → Drained → Type 0
SendsNext x t after (drained.Sent d r) = IsSome (next_to_send_of t.stores) × (after ≡ store_sent t x.time)
SendsNext x t after drained.Empty = Unit {0}
SendsNext x t after drained.Out = Unit {0}
SendsNext x t after (drained.NoRoom d) = Unit {0}

pub record TellsDrain (x : Asker) (t : ThreadState) (a : ThreadDrained) : Type 0 where
  pub ring : HasDrainRing x.room a.did
  pub still : DrainsStill t a.thread a.did
  pub sends : SendsNext x t a.thread a.did

drain_if : (b : Bool) (x : Asker) (t : ThreadState) (y z : ThreadDrained) → (b ≡ true → TellsDrain x t y) → TellsDrain x t z → TellsDrain x t (if b then y else z)
drain_if true x t y z p q = p refl
drain_if false x t y z p q = q

next_tells : (x : Asker) (t : ThreadState) (o : Option Entry) → next_to_send_of t.stores ≡ o → TellsDrain x t (drain_next x t o)
next_tells x t None is = record { ring = tt; still = refl; sends = tt }
next_tells x t (Some e) is =
    drain_if (has_room x.room (op_dest x.chip (store_op e))) x t _ _
    (λ h. record { ring = (h, dest_below x.chip (op_addr (store_op e))); still = tt; sends = (subst IsSome (sym is) refl, refl) })
    (record { ring = tt; still = refl; sends = tt })

stores_tell : (x : Asker) (t : ThreadState) (es : List Entry) → t.stores ≡ es → TellsDrain x t (drain_stores x t es)
stores_tell x t [] is = record { ring = tt; still = refl; sends = tt }
stores_tell x t (e ∷ es) is = next_tells x t (next_to_send_of (e ∷ es)) (ap (λ (fs : List Entry). next_to_send_of fs) is)

pub drained_tells : (x : Asker) (t : ThreadState) → TellsDrain x t (thread_drain x t)
unfolding thread_drain
drained_tells x t = stores_tell x t t.stores refl

core_drain : (c : CoreState) (i : ℕ) (t u : ThreadState) (d : Drained) → slice_get c.threads i ≡ Some t → DrainsStill t u d → DrainsStill c (with_thread c i u) d
core_drain c i t u (drained.Sent d r) at s = tt
core_drain c i t u drained.Empty at s = ap (λ (ts : List ThreadState). record c { threads = ts }) (ap (λ (v : ThreadState). set c.threads i v) s ∙ set_back c.threads i t at)
core_drain c i t u drained.Out at s = ap (λ (ts : List ThreadState). record c { threads = ts }) (ap (λ (v : ThreadState). set c.threads i v) s ∙ set_back c.threads i t at)
core_drain c i t u (drained.NoRoom d) at s = ap (λ (ts : List ThreadState). record c { threads = ts }) (ap (λ (v : ThreadState). set c.threads i v) s ∙ set_back c.threads i t at)

drain_still_at : (c : CoreState) (i room : ℕ) (o : Option ThreadState) → slice_get c.threads i ≡ o → DrainsStill c (drain_at c i room o).core (drain_at c i room o).did
drain_still_at c i room None e = refl
drain_still_at c i room (Some t) e = core_drain c i t _ _ e (drained_tells (asker c i room) t).still

pub drain_still : (c : CoreState) (i room : ℕ) → DrainsStill c (drain_of c i room).core (drain_of c i room).did
unfolding drain_of
drain_still c i room = drain_still_at c i room (slice_get c.threads i) refl

drain_ring_at : (c : CoreState) (i room : ℕ) (o : Option ThreadState) → HasDrainRing room (drain_at c i room o).did
drain_ring_at c i room None = tt
drain_ring_at c i room (Some t) = (drained_tells (asker c i room) t).ring

pub drain_ring : (c : CoreState) (i room : ℕ) → HasDrainRing room (drain_of c i room).did
unfolding drain_of
drain_ring c i room = drain_ring_at c i room (slice_get c.threads i)

-- ---- turns

turns_at : (c : CoreState) (i room : ℕ) (o : Option ThreadState) → (exec_at c i room o).core.turns ≡ c.turns
turns_at c i room None = refl
turns_at c i room (Some t) = refl

pub exec_turns : (c : CoreState) (i room : ℕ) → (exec_of c i room).core.turns ≡ c.turns
unfolding exec_of
exec_turns c i room = turns_at c i room (slice_get c.threads i)

pub turn_some : (c : CoreState) (room p : ℕ) → next_place c room ≡ Some p → turn_of c room ≡ turned_at c room (Some p)
unfolding turn_of
turn_some c room p e = ap (λ (o : Option ℕ). turned_at c room o) e

pub turn_none : (c : CoreState) (room : ℕ) → next_place c room ≡ None → turn_of c room ≡ turned_at c room None
unfolding turn_of
turn_none c room e = ap (λ (o : Option ℕ). turned_at c room o) e

pub acted_turns : (c : CoreState) (room p : ℕ) (d : Did) (after : CoreState) → ActedAt c room p d after → after.turns ≡ c.turns
acted_turns c room p d after a = ap (λ (k : CoreState). k.turns) a.core_is ∙ exec_turns c (get_or c.turns p 0) room

pub turn_core : (c : CoreState) (room p : ℕ) (d : Did) (after : CoreState) → ActedAt c room p d after → with_turns after (moved_last after.turns p) ≡ (turn_of c room).core
turn_core c room p d after a =
    rw (turn_some c room p a.first)
    (ap (λ (ts : List ℕ). with_turns after (moved_last ts p)) (acted_turns c room p d after a) ∙ ap (λ (k : CoreState). with_turns k (moved_last c.turns p)) a.core_is)

pub turn_did : (c : CoreState) (room p : ℕ) (d : Did) (after : CoreState) → ActedAt c room p d after → Some d ≡ (turn_of c room).did
turn_did c room p d after a = rw (turn_some c room p a.first) (ap (λ (k : Did). Some k) a.did_is)
