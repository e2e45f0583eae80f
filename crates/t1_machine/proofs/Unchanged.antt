-- Whether a slot is enabled rests on some parts of the machine alone.
use Rattle.std.proofs.Common.{◌≡◌, ◌∙◌, ◌+◌, ◌*◌, ◌<◌, ◌≤◌, ℕ, zero, suc, Bool, true, false, List, [], ◌∷◌, length, set, get_or, nat_lt, Option, Some, None, refl, ap, sym, arith}
use Rattle.std.specs.List.{slice_get}
use Rattle.std.specs.Prelude.{is_some}
use Rattle.std.proofs.lemmas.List.{get_or-set_other}
use Rattle.t1_packet.specs.declared.packet.Packet.{Packet}
use Rattle.t1_packet.specs.declared.served.Served.{Served}
use Rattle.t1_packet.specs.Data.{RequestData}
use Rattle.t1_core.specs.declared.answers.Did.{Did}
use Rattle.t1_core.specs.declared.answers.Drained.{Drained}
use Rattle.t1_core.specs.declared.answers.Drained.TheVariants as drained
use Rattle.t1_core.specs.Steps.{CoreState, drain_of}
use Rattle.t1_core.specs.Turns.{turn_of}
use Rattle.t1_xbar.specs.declared.admitted.Admitted.{Admitted}
use Rattle.t1_xbar.specs.declared.admitted.Admitted.TheVariants as admitted
use Rattle.t1_xbar.specs.Admission.{XbarState, admission}
use Rattle.t1_machine.specs.declared.slot.Slot.TheVariants as slot
use Rattle.t1_machine.specs.Machine.{MachineState, ring_of, ring_place, rooms_from, request_rooms, reply_rooms, asker_from, core_after, exec_did, exec_in, drain_did, drain_in, take_from, take_in, serve_ring, serve_core, serve_if, admit_answer, admit_from, is_enabled}

-- ---- rings

-- a ring that was not written
pub ring_other : (rings : List (List RequestData)) (c d k e : ℕ) (ring : List RequestData) → d < 9 → e < 9 → (k ≡ c → e ≡ d → ⊥)
    → ring_of (set rings (ring_place c d) ring) k e ≡ ring_of rings k e
ring_other rings c d k e ring hd he h =
    get_or-set_other rings (9 * c + d) (9 * k + e) ring [] (λ same. h (omega (arith, same, hd, he)) (omega (arith, same, hd, he)))

rooms_from_same : (q r : List (List RequestData)) (k d n : ℕ) → d + n ≤ 9 → ((e : ℕ) → e < 9 → ring_of q k e ≡ ring_of r k e) → rooms_from q k d n ≡ rooms_from r k d n
rooms_from_same q r k d zero few h = refl
rooms_from_same q r k d (suc n) few h =
    let here : ring_of q k d ≡ ring_of r k d = h d (omega arith) in
    let rest : rooms_from q k (d + 1) n ≡ rooms_from r k (d + 1) n = rooms_from_same q r k (d + 1) n (omega arith) h in
    rw (here, rest) refl

pub rooms_same : (q r : List (List RequestData)) (k : ℕ) → ((e : ℕ) → e < 9 → ring_of q k e ≡ ring_of r k e) → request_rooms q k ≡ request_rooms r k
unfolding request_rooms
rooms_same q r k h = rooms_from_same q r k 0 9 (omega arith) h

asker_same : (q r : List (List RequestData)) (cores d c n : ℕ) → ((k : ℕ) → ring_of q k d ≡ ring_of r k d) → asker_from q cores d c n ≡ asker_from r cores d c n
unfolding asker_from
asker_same q r cores d c zero h = refl
asker_same q r cores d c (suc n) h =
    let here : ring_of q c d ≡ ring_of r c d = h c in
    let rest : asker_from q cores d (core_after cores c) n ≡ asker_from r cores d (core_after cores c) n = asker_same q r cores d (core_after cores c) n h in
    rw (here, rest) refl

-- ---- exec and drain: the core, and the room of its rings

exec_did_same : (m n : MachineState) (k : ℕ) (a b : CoreState) (o : Option Did) → is_some (exec_did m k a o) ≡ is_some (exec_did n k b o)
exec_did_same m n k a b None = refl
exec_did_same m n k a b (Some did) = refl

exec_in_same : (m n : MachineState) (k : ℕ) (o : Option CoreState) → request_rooms n.requests k ≡ request_rooms m.requests k → is_some (exec_in n k o) ≡ is_some (exec_in m k o)
exec_in_same m n k None r = refl
exec_in_same m n k (Some core) r = rw r (exec_did_same n m k _ _ (turn_of core (request_rooms m.requests k)).did)

pub exec_same : (m n : MachineState) (k : ℕ) → slice_get n.cores k ≡ slice_get m.cores k → request_rooms n.requests k ≡ request_rooms m.requests k
    → is_enabled n (slot.Exec k) ≡ is_enabled m (slot.Exec k)
exec_same m n k c r = rw c (exec_in_same m n k (slice_get m.cores k) r)

drain_did_same : (m n : MachineState) (k : ℕ) (a b : CoreState) (o : Drained) → is_some (drain_did m k a o) ≡ is_some (drain_did n k b o)
drain_did_same m n k a b (drained.Sent d r) = refl
drain_did_same m n k a b drained.Empty = refl
drain_did_same m n k a b drained.Out = refl
drain_did_same m n k a b (drained.NoRoom d) = refl

drain_in_same : (m n : MachineState) (k s : ℕ) (o : Option CoreState) → request_rooms n.requests k ≡ request_rooms m.requests k → is_some (drain_in n k s o) ≡ is_some (drain_in m k s o)
drain_in_same m n k s None r = refl
drain_in_same m n k s (Some core) r = rw r (drain_did_same n m k _ _ (drain_of core s (request_rooms m.requests k)).did)

pub drain_same : (m n : MachineState) (k s : ℕ) → slice_get n.cores k ≡ slice_get m.cores k → request_rooms n.requests k ≡ request_rooms m.requests k
    → is_enabled n (slot.Drain k s) ≡ is_enabled m (slot.Drain k s)
drain_same m n k s c r = rw c (drain_in_same m n k s (slice_get m.cores k) r)

-- ---- take: whether there is the core, and its reply ring

take_from_same : (m n : MachineState) (k : ℕ) (a b : CoreState) (ps : List Packet) → is_some (take_from n k a ps) ≡ is_some (take_from m k b ps)
take_from_same m n k a b [] = refl
take_from_same m n k a b (p ∷ ps) = refl

take_in_same : (m n : MachineState) (k : ℕ) (o p : Option CoreState) → is_some o ≡ is_some p → get_or n.replies k [] ≡ get_or m.replies k []
    → is_some (take_in n k o) ≡ is_some (take_in m k p)
take_in_same m n k None None e r = refl
take_in_same m n k None (Some b) e r = let clash : false ≡ true = e in cc
take_in_same m n k (Some a) None e r = let clash : true ≡ false = e in cc
take_in_same m n k (Some a) (Some b) e r = rw r (take_from_same m n k a b (get_or m.replies k []))

pub take_same : (m n : MachineState) (k : ℕ) → is_some (slice_get n.cores k) ≡ is_some (slice_get m.cores k) → get_or n.replies k [] ≡ get_or m.replies k []
    → is_enabled n (slot.Take k) ≡ is_enabled m (slot.Take k)
take_same m n k c r = take_in_same m n k (slice_get n.cores k) (slice_get m.cores k) c r

pub present : (cs : List CoreState) (i k : ℕ) (v : CoreState) → is_some (slice_get (set cs i v) k) ≡ is_some (slice_get cs k)
present [] i k v = refl
present (x ∷ xs) zero zero v = refl
present (x ∷ xs) zero (suc k) v = refl
present (x ∷ xs) (suc i) zero v = refl
present (x ∷ xs) (suc i) (suc k) v = present xs i k v

-- ---- serve: the rings to the destination, the core that it tries first, its served ring

serve_ring_same : (m n : MachineState) (e c : ℕ) (rs : List RequestData) → is_some (serve_ring n e c rs) ≡ is_some (serve_ring m e c rs)
serve_ring_same m n e c [] = refl
serve_ring_same m n e c (r ∷ rest) = refl

serve_core_same : (m n : MachineState) (e : ℕ) (o : Option ℕ) → ((k : ℕ) → ring_of n.requests k e ≡ ring_of m.requests k e)
    → is_some (serve_core n e o) ≡ is_some (serve_core m e o)
serve_core_same m n e None h = refl
serve_core_same m n e (Some c) h = rw (h c) (serve_ring_same m n e c (ring_of m.requests c e))

serve_if_same : (m n : MachineState) (e : ℕ) (b : Bool) → ((k : ℕ) → ring_of n.requests k e ≡ ring_of m.requests k e) → length n.cores ≡ length m.cores
    → get_or n.tried e 0 ≡ get_or m.tried e 0 → is_some (serve_if n e b) ≡ is_some (serve_if m e b)
serve_if_same m n e false h long tried = refl
serve_if_same m n e true h long tried =
    let rings : asker_from n.requests (length m.cores) e (get_or m.tried e 0) (length m.cores) ≡ asker_from m.requests (length m.cores) e (get_or m.tried e 0) (length m.cores) =
    asker_same n.requests m.requests (length m.cores) e (get_or m.tried e 0) (length m.cores) h in
    let asker : asker_from n.requests (length n.cores) e (get_or n.tried e 0) (length n.cores) ≡ asker_from m.requests (length m.cores) e (get_or m.tried e 0) (length m.cores) =
    rw (long, tried) rings in
    rw asker (serve_core_same m n e (asker_from m.requests (length m.cores) e (get_or m.tried e 0) (length m.cores)) h)

pub serve_same : (m n : MachineState) (e : ℕ) → ((k : ℕ) → ring_of n.requests k e ≡ ring_of m.requests k e) → length n.cores ≡ length m.cores
    → get_or n.tried e 0 ≡ get_or m.tried e 0 → get_or n.served e [] ≡ get_or m.served e [] → is_enabled n (slot.Serve e) ≡ is_enabled m (slot.Serve e)
serve_same m n e h long tried served = rw served (serve_if_same m n e (nat_lt (length (get_or m.served e [])) 2) h long tried)

-- ---- admit: the served ring, the crossbar, the room of the reply rings

admit_answer_same : (m n : MachineState) (e : ℕ) (rest : List Served) (x : XbarState) (o : Admitted) → is_some (admit_answer n e rest x o) ≡ is_some (admit_answer m e rest x o)
admit_answer_same m n e rest x (admitted.Done index posts) = refl
admit_answer_same m n e rest x (admitted.NotSeen seen len) = refl
admit_answer_same m n e rest x (admitted.NoRoom c) = refl

admit_from_same : (m n : MachineState) (e : ℕ) (ss : List Served) → n.xbar ≡ m.xbar → reply_rooms n.replies ≡ reply_rooms m.replies
    → is_some (admit_from n e ss) ≡ is_some (admit_from m e ss)
admit_from_same m n e [] x r = refl
admit_from_same m n e (a ∷ rest) x r =
    rw (x, r) (admit_answer_same m n e rest (admission m.xbar e a (reply_rooms m.replies)).xbar (admission m.xbar e a (reply_rooms m.replies)).answer)

pub admit_same : (m n : MachineState) (e : ℕ) → get_or n.served e [] ≡ get_or m.served e [] → n.xbar ≡ m.xbar → reply_rooms n.replies ≡ reply_rooms m.replies
    → is_enabled n (slot.Admit e) ≡ is_enabled m (slot.Admit e)
admit_same m n e served x r = rw served (admit_from_same m n e (get_or m.served e []) x r)
