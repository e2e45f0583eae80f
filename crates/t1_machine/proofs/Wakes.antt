-- What each kind of step wakes.
use Rattle.std.proofs.Common.{◌≡◌, ◌∙◌, ◌+◌, ◌*◌, ◌==◌, ◌<◌, ◌≤◌, ℕ, zero, suc, Bool, true, false, List, [], ◌∷◌, ◌++◌, length, set, get_or, Option, Some, None, refl, ap, sym, subst, arith}
use Rattle.std.specs.List.{slice_get}
use Rattle.std.specs.Prelude.{is_some}
use Rattle.std.specs.Int.{bit_at}
use Rattle.std.proofs.lemmas.Bool.{eqb-true, eqb-false}
use Rattle.std.proofs.lemmas.List.{get_or-set_other, length-set}
use Rattle.std.proofs.lemmas.Nat.Bits.{bit_at-lt}
use Rattle.circular_buffer.proofs.Places.{slice_get-set_same, slice_get-set_other}
use Rattle.t1_packet.specs.declared.packet.Packet.{Packet}
use Rattle.t1_packet.specs.declared.served.Served.{Served}
use Rattle.t1_packet.specs.Data.{RequestData}
use Rattle.t1_event.specs.BankRule.{BankState}
use Rattle.t1_core.specs.declared.answers.Did.{Did}
use Rattle.t1_core.specs.declared.answers.Did.TheVariants as did
use Rattle.t1_core.specs.declared.answers.Drained.{Drained}
use Rattle.t1_core.specs.declared.answers.Drained.TheVariants as drained
use Rattle.t1_core.specs.declared.asker.Asker.{Asker}
use Rattle.t1_core.specs.Quick.{HoldNoStore}
use Rattle.t1_core.specs.Steps.{CoreState, asker, thread_drain, drain_at, drain_of}
use Rattle.t1_core.specs.Threads.{ThreadState}
use Rattle.t1_xbar.specs.Admission.{XbarState}
use Rattle.t1_machine.specs.declared.slot.Slot.{Slot}
use Rattle.t1_machine.specs.declared.slot.Slot.TheVariants as slot
use Rattle.t1_machine.specs.declared.woken.Woken.TheVariants as woken
use Rattle.t1_shape.proofs.Numbers.{banks_are}
use Rattle.t1_machine.specs.Slots.{IsSlot}
use Rattle.t1_machine.specs.Machine.{MachineState, ring_of, ring_place, with_core, requests_after, request_rooms, drain_did, is_enabled}
use Rattle.t1_machine.specs.Wakes.{WakesOnly, woken_by}
use Rattle.t1_machine.proofs.Unchanged.{ring_other, rooms_same, exec_same, drain_same, take_same, present, serve_same, admit_same}

-- a slot that was enabled was not off
at_other : (m n : MachineState) (done s : Slot) (k i : ℕ) → (k ≡ i → s ≡ done) → is_enabled m done ≡ true → is_enabled m s ≡ false
    → ((k ≡ i → ⊥) → is_enabled n s ≡ is_enabled m s) → is_enabled n s ≡ false
at_other m n done s k i same on off others =
    others (λ e. let clash : true ≡ false = sym on ∙ (ap (λ (t : Slot). is_enabled m t) (sym (same e)) ∙ off) in cc) ∙ off

-- a core changed
pub core_wakes : (m : MachineState) (i : ℕ) (v : CoreState) → WakesOnly m (record m { cores = set m.cores i v }) (woken.Core i)
core_wakes m i v (slot.Exec k) in_ h off = exec_same m _ k (slice_get-set_other m.cores i k v h) refl ∙ off
core_wakes m i v (slot.Drain k s) in_ h off = drain_same m _ k s (slice_get-set_other m.cores i k v h) refl ∙ off
core_wakes m i v (slot.Take k) in_ h off = take_same m _ k (present m.cores i k v) refl ∙ off
core_wakes m i v (slot.Serve d) in_ h off = serve_same m _ d (λ k. refl) (length-set m.cores i v) refl refl ∙ off
core_wakes m i v (slot.Admit d) in_ h off = admit_same m _ d refl refl refl ∙ off

-- a core that holds no store drains none
empty_drains : (x : Asker) (t : ThreadState) → t.stores ≡ [] → (thread_drain x t).did ≡ drained.Empty
unfolding thread_drain
empty_drains x t e = rw e refl

drain_at_none : (c : CoreState) (s room : ℕ) (o : Option ThreadState) → slice_get c.threads s ≡ o → HoldNoStore c.threads → (drain_at c s room o).did ≡ drained.Empty
drain_at_none c s room None e h = refl
drain_at_none c s room (Some t) e h = empty_drains (asker c s room) t (h.each s t e)

drain_none : (c : CoreState) (s room : ℕ) → HoldNoStore c.threads → (drain_of c s room).did ≡ drained.Empty
unfolding drain_of
drain_none c s room h = drain_at_none c s room (slice_get c.threads s) refl h

drain_did_none : (m : MachineState) (i : ℕ) (core : CoreState) (o : Drained) → o ≡ drained.Empty → is_some (drain_did m i core o) ≡ false
drain_did_none m i core o e = rw e refl

drain_off : (m : MachineState) (i s : ℕ) (v : CoreState) → i < length m.cores → HoldNoStore v.threads → is_enabled (record m { cores = set m.cores i v }) (slot.Drain i s) ≡ false
drain_off m i s v within h =
    rw (slice_get-set_same m.cores i v within) (drain_did_none _ i _ _ (drain_none v s (request_rooms m.requests i) h))

-- a core changed that holds no store, by its exec
pub quiet_wakes : (m : MachineState) (i : ℕ) (v : CoreState) → i < length m.cores → HoldNoStore v.threads → is_enabled m (slot.Exec i) ≡ true
    → WakesOnly m (record m { cores = set m.cores i v }) woken.Nothing
quiet_wakes m i v within none on (slot.Exec k) in_ h off =
    at_other m _ (slot.Exec i) (slot.Exec k) k i (λ e. ap (λ (j : ℕ). slot.Exec j) e) on off (λ other. exec_same m _ k (slice_get-set_other m.cores i k v other) refl)
quiet_wakes m i v within none on (slot.Drain k s) in_ h off = at (k == i) refl where
  at : (b : Bool) → (k == i) ≡ b → is_enabled (record m { cores = set m.cores i v }) (slot.Drain k s) ≡ false
  at true e = subst (λ (j : ℕ). is_enabled (record m { cores = set m.cores i v }) (slot.Drain j s) ≡ false) (sym (eqb-true k i e)) (drain_off m i s v within none)
  at false e = drain_same m _ k s (slice_get-set_other m.cores i k v (eqb-false k i e)) refl ∙ off
quiet_wakes m i v within none on (slot.Take k) in_ h off = take_same m _ k (present m.cores i k v) refl ∙ off
quiet_wakes m i v within none on (slot.Serve d) in_ h off = serve_same m _ d (λ k. refl) (length-set m.cores i v) refl refl ∙ off
quiet_wakes m i v within none on (slot.Admit d) in_ h off = admit_same m _ d refl refl refl ∙ off

dest_small : (m : MachineState) (e : ℕ) → IsSlot m.chip (slot.Serve e) → e < 9
dest_small m e within = let few = (banks_are m.chip).1 in omega (arith, within, few)

-- a core changed, and its ring to a destination
pub sent_wakes : (m : MachineState) (i d : ℕ) (v : CoreState) (ring : List RequestData) → d < 9
    → WakesOnly m (record m { cores = set m.cores i v; requests = set m.requests (ring_place i d) ring }) (woken.Sent i d)
sent_wakes m i d v ring hd (slot.Exec k) in_ h off =
    exec_same m _ k (slice_get-set_other m.cores i k v h.0) (rooms_same _ m.requests k (λ e he. ring_other m.requests i d k e ring hd he (λ same other. h.0 same))) ∙ off
sent_wakes m i d v ring hd (slot.Drain k s) in_ h off =
    drain_same m _ k s (slice_get-set_other m.cores i k v h.0) (rooms_same _ m.requests k (λ e he. ring_other m.requests i d k e ring hd he (λ same other. h.0 same))) ∙ off
sent_wakes m i d v ring hd (slot.Take k) in_ h off = take_same m _ k (present m.cores i k v) refl ∙ off
sent_wakes m i d v ring hd (slot.Serve e) in_ h off =
    serve_same m _ e (λ k. ring_other m.requests i d k e ring hd (dest_small m e in_) (λ other same. h.1 same)) (length-set m.cores i v) refl refl ∙ off
sent_wakes m i d v ring hd (slot.Admit e) in_ h off = admit_same m _ e refl refl refl ∙ off

-- what an exec did
pub did_wakes : (m : MachineState) (i : ℕ) (v : CoreState) (o : Did) → ((d : ℕ) (r : RequestData) → o ≡ did.Sent d r → d < 9)
    → WakesOnly m (with_core m i v (requests_after m.requests i o)) (woken_by i o)
did_wakes m i v did.Moved h = core_wakes m i v
did_wakes m i v (did.Waits w) h = core_wakes m i v
did_wakes m i v (did.Sent d r) h = sent_wakes m i d v (ring_of m.requests i d ++ r ∷ []) (h d r refl)

-- a core took a packet
pub took_wakes : (m : MachineState) (i : ℕ) (v : CoreState) (rest : List Packet) → is_enabled m (slot.Take i) ≡ true
    → WakesOnly m (record m { cores = set m.cores i v; replies = set m.replies i rest }) (woken.Took i)
took_wakes m i v rest on (slot.Exec k) in_ h off = exec_same m _ k (slice_get-set_other m.cores i k v h.0) refl ∙ off
took_wakes m i v rest on (slot.Drain k s) in_ h off = drain_same m _ k s (slice_get-set_other m.cores i k v h.0) refl ∙ off
took_wakes m i v rest on (slot.Take k) in_ h off =
    at_other m _ (slot.Take i) (slot.Take k) k i (λ e. ap (λ (j : ℕ). slot.Take j) e) on off
    (λ other. take_same m _ k (present m.cores i k v) (get_or-set_other m.replies i k rest [] other))
took_wakes m i v rest on (slot.Serve d) in_ h off = serve_same m _ d (λ k. refl) (length-set m.cores i v) refl refl ∙ off
took_wakes m i v rest on (slot.Admit d) in_ h off = elim (h.1 tt) [ ]

-- a destination served a core's request
pub served_wakes : (m : MachineState) (c d after : ℕ) (rest : List RequestData) (ring : List Served) (banks : List BankState) → d < 9 → is_enabled m (slot.Serve d) ≡ true
    → WakesOnly m (record m { requests = set m.requests (ring_place c d) rest; served = set m.served d ring; banks = banks; tried = set m.tried d after }) (woken.Served c d)
served_wakes m c d after rest ring banks hd on (slot.Exec k) in_ h off =
    exec_same m _ k refl (rooms_same _ m.requests k (λ e he. ring_other m.requests c d k e rest hd he (λ same other. h.0 same))) ∙ off
served_wakes m c d after rest ring banks hd on (slot.Drain k s) in_ h off =
    drain_same m _ k s refl (rooms_same _ m.requests k (λ e he. ring_other m.requests c d k e rest hd he (λ same other. h.0 same))) ∙ off
served_wakes m c d after rest ring banks hd on (slot.Take k) in_ h off = take_same m _ k refl refl ∙ off
served_wakes m c d after rest ring banks hd on (slot.Serve e) in_ h off =
    at_other m _ (slot.Serve d) (slot.Serve e) e d (λ same. ap (λ (j : ℕ). slot.Serve j) same) on off
    (λ other. serve_same m _ e (λ k. ring_other m.requests c d k e rest hd (dest_small m e in_) (λ same both. other both)) refl
    (get_or-set_other m.tried d e after 0 other) (get_or-set_other m.served d e ring [] other))
served_wakes m c d after rest ring banks hd on (slot.Admit e) in_ h off = admit_same m _ e (get_or-set_other m.served d e ring [] h.1) refl refl ∙ off

no_bit : (cores k : ℕ) → (bit_at cores k ≡ 1 → ⊥) → bit_at cores k ≡ 0
no_bit cores k h = let few = bit_at-lt cores k in at (bit_at cores k) few h where
  at : (b : ℕ) → b < 2 → (b ≡ 1 → ⊥) → ◌≡◌ {A = ℕ} b 0
  at zero f g = refl
  at (suc zero) f g = absurd (g refl)
  at (suc (suc b)) f g = absurd (omega arith)

-- the crossbar admitted an access of a destination, and posted to the cores that have their bit
pub admitted_wakes : (m : MachineState) (d cores : ℕ) (rest : List Served) (replies : List (List Packet)) (x : XbarState)
    → ((k : ℕ) → bit_at cores k ≡ 0 → get_or replies k [] ≡ get_or m.replies k [])
    → WakesOnly m (record m { served = set m.served d rest; replies = replies; xbar = x }) (woken.Admitted d cores)
admitted_wakes m d cores rest replies x same (slot.Exec k) in_ h off = exec_same m _ k refl refl ∙ off
admitted_wakes m d cores rest replies x same (slot.Drain k s) in_ h off = drain_same m _ k s refl refl ∙ off
admitted_wakes m d cores rest replies x same (slot.Take k) in_ h off = take_same m _ k refl (same k (no_bit cores k h.2)) ∙ off
admitted_wakes m d cores rest replies x same (slot.Serve e) in_ h off = serve_same m _ e (λ k. refl) refl refl (get_or-set_other m.served d e rest [] h.0) ∙ off
admitted_wakes m d cores rest replies x same (slot.Admit e) in_ h off = elim (h.1 tt) [ ]
