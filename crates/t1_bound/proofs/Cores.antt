-- A core pays for each exec, turn and drain of its strands.
use Rattle.std.proofs.Common.{◌≡◌, ◌≤◌, ◌+◌, ◌*◌, ℕ, Bool, true, false, is_none, List, [], ◌∷◌, set, get_or, Option, Some, None, refl, ap, sym, subst, arith, if◌then◌else◌}
use Rattle.std.specs.Prelude.{IsSome}
use Rattle.std.specs.List.{slice_get, All}
use Rattle.std.proofs.lemmas.List.Elements.{All-set}
use Rattle.t1_packet.specs.Ops.{op_dest}
use Rattle.t1_sbuf.specs.declared.entry.Entry.{Entry}
use Rattle.t1_sbuf.specs.Entries.{next_unsent, next_to_send_of, sent_next}
use Rattle.t1_sbuf.proofs.Sent.{next_if}
use Rattle.t1_select.proofs.Places.{is_first}
use Rattle.t1_core.specs.declared.asker.Asker.{Asker}
use Rattle.t1_core.specs.declared.answers.Did.{Did}
use Rattle.t1_core.specs.declared.answers.Did.TheVariants as did
use Rattle.t1_core.specs.declared.answers.Drained.{Drained}
use Rattle.t1_core.specs.declared.answers.Drained.TheVariants as drained
use Rattle.t1_core.specs.Stores.{store_op}
use Rattle.t1_core.specs.Threads.{ThreadState}
use Rattle.t1_core.specs.Steps.{CoreState, ThreadDrained, asker, has_room, exec_at, exec_of, waited, drain_next, drain_stores, thread_drain, drain_at, drain_of}
use Rattle.t1_core.specs.Turns.{is_ready, next_place, turned_at, turn_of}
use Rattle.t1_bound.specs.Weights.{Weights, Falls, total, store_weight, buffer_weight, thread_weight, thread_tokens}
use Rattle.t1_bound.specs.Sound.{IsLive}
use Rattle.t1_bound.proofs.Lists.{total_set, all_at, times_moved}
use Rattle.t1_bound.proofs.Pays.{Pays, buffer_pays}
use Rattle.t1_bound.proofs.Execs.{DidPays, thread_pays}

-- the strands of a core pay
pub record CorePays (w : Weights) (paid : ℕ) (before after : List ThreadState) : Type 0 where
  pub weight : total (λ t. thread_weight w t) after + paid ≤ total (λ t. thread_weight w t) before
  pub tokens : total (λ t. thread_tokens w t) after + w.fetch * total (λ t. t.strand.units) before + paid
      ≤ total (λ t. thread_tokens w t) before + w.fetch * total (λ t. t.strand.units) after
  pub live : All IsLive after

pub core_pays : (w : Weights) (paid : ℕ) (ts : List ThreadState) (i : ℕ) (t u : ThreadState) → slice_get ts i ≡ Some t → All IsLive ts → Pays w paid t u → CorePays w paid ts (set ts i u)
core_pays w paid ts i t u e live p =
    let a = total_set (λ t. thread_weight w t) ts i t u e in
    let b = total_set (λ t. thread_tokens w t) ts i t u e in
    let c = times_moved w.fetch _ _ _ _ (total_set (λ t. t.strand.units) ts i t u e) in
    record { weight = omega (arith, a, p.weight); tokens = omega (arith, b, c, p.tokens); live = All-set IsLive ts i u p.live live }

-- ---- exec

-- what a core pays by what its strand did
abbrev pub CoreDid : Weights → List ThreadState → List ThreadState → Did → Type 0
CoreDid w before after did.Moved = CorePays w w.drop before after
CoreDid w before after (did.Sent d r) = CorePays w (w.request + w.drop) before after
CoreDid w before after (did.Waits v) = Unit {0}

did_pays : (w : Weights) (ts : List ThreadState) (i : ℕ) (t u : ThreadState) (d : Did) → slice_get ts i ≡ Some t → All IsLive ts → DidPays w t u d → CoreDid w ts (set ts i u) d
did_pays w ts i t u did.Moved e live p = core_pays w w.drop ts i t u e live p
did_pays w ts i t u (did.Sent d r) e live p = core_pays w (w.request + w.drop) ts i t u e live p
did_pays w ts i t u (did.Waits v) e live p = tt

exec_at_pays : (w : Weights) → Falls w → (c : CoreState) (i room : ℕ) (o : Option ThreadState) → slice_get c.threads i ≡ o → All IsLive c.threads
    → CoreDid w c.threads (exec_at c i room o).core.threads (exec_at c i room o).did
exec_at_pays w f c i room None e live = tt
exec_at_pays w f c i room (Some t) e live =
    did_pays w c.threads i t _ _ e live (thread_pays w f (asker c i room) c.icache c.dcache t (all_at IsLive c.threads i t e live))

pub exec_pays : (w : Weights) → Falls w → (c : CoreState) (i room : ℕ) → All IsLive c.threads → CoreDid w c.threads (exec_of c i room).core.threads (exec_of c i room).did
unfolding exec_of
exec_pays w f c i room live = exec_at_pays w f c i room (slice_get c.threads i) refl live

-- ---- turn

-- what a core pays by what its turn did: no strand that waits is picked
abbrev pub TurnDid : Weights → List ThreadState → List ThreadState → Did → Type 0
TurnDid w before after did.Moved = CorePays w w.drop before after
TurnDid w before after (did.Sent d r) = CorePays w (w.request + w.drop) before after
TurnDid w before after (did.Waits v) = ⊥

abbrev pub TurnPays : Weights → List ThreadState → List ThreadState → Option Did → Type 0
TurnPays w before after None = Unit {0}
TurnPays w before after (Some d) = TurnDid w before after d

turn_did : (w : Weights) (before after : List ThreadState) (d : Did) → CoreDid w before after d → is_none (waited d) ≡ true → TurnDid w before after d
turn_did w before after did.Moved p ready = p
turn_did w before after (did.Sent d r) p ready = p
turn_did w before after (did.Waits v) p ready = let clash : false ≡ true = ready in cc

turned_pays : (w : Weights) → Falls w → (c : CoreState) (room : ℕ) (o : Option ℕ) → next_place c room ≡ o → All IsLive c.threads
    → TurnPays w c.threads (turned_at c room o).core.threads (turned_at c room o).did
turned_pays w f c room None e live = tt
turned_pays w f c room (Some place) e live =
    turn_did w c.threads _ _ (exec_pays w f c (get_or c.turns place 0) room live) (is_first (λ i. is_ready c room i) c.turns place e).here

pub turn_pays : (w : Weights) → Falls w → (c : CoreState) (room : ℕ) → All IsLive c.threads → TurnPays w c.threads (turn_of c room).core.threads (turn_of c room).did
unfolding turn_of
turn_pays w f c room live = turned_pays w f c room (next_place c room) refl live

-- ---- drain

abbrev DrainDid : Weights → ThreadState → ThreadState → Drained → Type 0
DrainDid w t u (drained.Sent d r) = Pays w (w.request + w.drop) t u
DrainDid w t u drained.Empty = Unit {0}
DrainDid w t u drained.Out = Unit {0}
DrainDid w t u (drained.NoRoom d) = Unit {0}

abbrev Drains : Weights → ThreadState → ThreadDrained → Type 0
Drains w t a = DrainDid w t a.thread a.did

drains_if : (b : Bool) (w : Weights) (t : ThreadState) (y z : ThreadDrained) → Drains w t y → Drains w t z → Drains w t (if b then y else z)
drains_if true w t y z p q = p
drains_if false w t y z p q = q

-- the oldest entry that is not sent weighs nothing once it is
sent_if : (b : Bool) (w : Weights) (e g : Entry) (es : List Entry) → e.sent ≡ b → (next_unsent es ≡ Some g → buffer_weight w (sent_next es) + w.store ≡ buffer_weight w es)
    → (if b then next_unsent es else Some e) ≡ Some g
    → buffer_weight w (if b then e ∷ sent_next es else record e { sent = true } ∷ es) + w.store ≡ store_weight w e.sent + buffer_weight w es
sent_if true w e g es s rest h = let k = rest h in omega (arith, k)
sent_if false w e g es s rest h = rw s (omega arith)

next_sent : (w : Weights) (es : List Entry) (g : Entry) → next_unsent es ≡ Some g → buffer_weight w (sent_next es) + w.store ≡ buffer_weight w es
unfolding sent_next
next_sent w [] g h = let clash : ◌≡◌ {A = Option Entry} None (Some g) = h in cc
next_sent w (e ∷ es) g h = sent_if e.sent w e g es refl (λ k. next_sent w es g k) h

sent_weight : (w : Weights) (es : List Entry) (g : Entry) → next_to_send_of es ≡ Some g → buffer_weight w (sent_next es) + w.store ≡ buffer_weight w es
sent_weight w es g h = let n = next_if es (subst IsSome (sym h) refl) in next_sent w es n.0 n.1.is

next_pays : (w : Weights) → Falls w → (x : Asker) (t : ThreadState) (o : Option Entry) → next_to_send_of t.stores ≡ o → IsLive t → Drains w t (drain_next x t o)
next_pays w f x t None e live = tt
next_pays w f x t (Some g) e live =
    let k = sent_weight w t.stores g e in
    drains_if (has_room x.room (op_dest x.chip (store_op g))) w t _ _ (buffer_pays w (w.request + w.drop) t (sent_next t.stores) _ t.items live (omega (arith, k, f.drains))) tt

stores_pay : (w : Weights) → Falls w → (x : Asker) (t : ThreadState) (es : List Entry) → t.stores ≡ es → IsLive t → Drains w t (drain_stores x t es)
stores_pay w f x t [] e live = tt
stores_pay w f x t (g ∷ es) e live = next_pays w f x t (next_to_send_of (g ∷ es)) (ap (λ (l : List Entry). next_to_send_of l) e) live

-- what a core pays by what its drain did
abbrev pub CoreDrained : Weights → List ThreadState → List ThreadState → Drained → Type 0
CoreDrained w before after (drained.Sent d r) = CorePays w (w.request + w.drop) before after
CoreDrained w before after drained.Empty = Unit {0}
CoreDrained w before after drained.Out = Unit {0}
CoreDrained w before after (drained.NoRoom d) = Unit {0}

drained_pays : (w : Weights) (ts : List ThreadState) (i : ℕ) (t u : ThreadState) (d : Drained) → slice_get ts i ≡ Some t → All IsLive ts → DrainDid w t u d → CoreDrained w ts (set ts i u) d
drained_pays w ts i t u (drained.Sent d r) e live p = core_pays w (w.request + w.drop) ts i t u e live p
drained_pays w ts i t u drained.Empty e live p = tt
drained_pays w ts i t u drained.Out e live p = tt
drained_pays w ts i t u (drained.NoRoom d) e live p = tt

drain_at_pays : (w : Weights) → Falls w → (c : CoreState) (i room : ℕ) (o : Option ThreadState) → slice_get c.threads i ≡ o → All IsLive c.threads
    → CoreDrained w c.threads (drain_at c i room o).core.threads (drain_at c i room o).did
unfolding thread_drain
drain_at_pays w f c i room None e live = tt
drain_at_pays w f c i room (Some t) e live =
    drained_pays w c.threads i t _ _ e live (stores_pay w f (asker c i room) t t.stores refl (all_at IsLive c.threads i t e live))

pub drain_pays : (w : Weights) → Falls w → (c : CoreState) (i room : ℕ) → All IsLive c.threads → CoreDrained w c.threads (drain_of c i room).core.threads (drain_of c i room).did
unfolding drain_of
drain_pays w f c i room live = drain_at_pays w f c i room (slice_get c.threads i) refl live
