-- What the slots of a core come to.
use Rattle.std.proofs.Common.{◌≡◌, ◌∙◌, ◌<◌, ◌≤◌, ℕ, zero, suc, true, false, List, [], ◌∷◌, ◌++◌, length, set, get_or, Option, Some, None, refl, sym, ap, subst, arith}
use Rattle.std.proofs.lemmas.Option.{slice_get-get_or}
use Rattle.std.specs.List.{slice_get}
use Rattle.std.specs.Prelude.{is_some, nat_lt}
use Rattle.std.specs.Int.{bit_at}
use Rattle.t1_packet.specs.declared.packet.Packet.{Packet}
use Rattle.t1_packet.specs.declared.served.Served.{Served}
use Rattle.t1_packet.specs.Data.{RequestData}
use Rattle.t1_event.specs.BankRule.{BankState}
use Rattle.t1_core.specs.declared.answers.Did.{Did}
use Rattle.t1_core.specs.declared.answers.Did.TheVariants as did
use Rattle.t1_core.specs.declared.answers.Drained.{Drained}
use Rattle.t1_core.specs.declared.answers.Drained.TheVariants as drained
use Rattle.t1_core.specs.Steps.{CoreState, drain_of}
use Rattle.t1_core.specs.Quick.{TurnMovedTo, HoldNoStore}
use Rattle.t1_core.specs.Told.{HasRing}
use Rattle.t1_core.specs.Turns.{turn_of}
use Rattle.t1_xbar.specs.Admission.{XbarState}
use Rattle.t1_machine.specs.declared.slot.Slot.{Slot}
use Rattle.t1_machine.specs.declared.slot.Slot.TheVariants as slot
use Rattle.t1_machine.specs.declared.woken.Woken.{Woken}
use Rattle.t1_machine.specs.declared.woken.Woken.TheVariants as woken
use Rattle.t1_machine.specs.Machine.{MachineState, request_rooms, requests_after, request_pushed, ring_of, ring_place, asker_from, most_served, with_core, drain_did, stepped, or_same, is_enabled}
use Rattle.t1_machine.specs.Wakes.{Wakes, WakesOnly, IsWithin, woken_by}
use Rattle.t1_machine.proofs.Wakes.{core_wakes, quiet_wakes, did_wakes, sent_wakes, took_wakes, served_wakes, admitted_wakes}

pub core_here : {A : Type 0} (xs : List A) (i : ℕ) (x : A) → i < length xs → x ≡ get_or xs i x → slice_get xs i ≡ Some x
core_here xs i x h e = slice_get-get_or xs i x h ∙ ap (λ y. Some y) (sym e)

pub core_none : {A : Type 0} (xs : List A) (i : ℕ) → length xs ≤ i → slice_get xs i ≡ None
core_none [] i h = refl
core_none (x ∷ xs) zero h = absurd (omega arith)
core_none (x ∷ xs) (suc i) h = core_none xs i (omega arith)

-- what is put back where it stands changes nothing
set_back : {A : Type 0} (xs : List A) (i : ℕ) (x y : A) → slice_get xs i ≡ Some x → y ≡ x → set xs i y ≡ xs
set_back [] i x y e f = refl
set_back {A} (z ∷ zs) zero x y e f = let same : y ≡ z = cc in ap (λ w. w ∷ zs) same
set_back (z ∷ zs) (suc i) x y e f = ap (λ ws. z ∷ ws) (set_back zs i x y e f)

-- a slot that is done: the machine after it, and what it wakes
pub record Moves (m n : MachineState) (s : Slot) (w : Woken) : Type 0 where
  pub state : n ≡ or_same m (stepped m s)
  pub done : true ≡ is_enabled m s
  pub woken : Wakes m n w

-- a slot that is not enabled
pub record Idles (m n : MachineState) (s : Slot) : Type 0 where
  pub state : n ≡ or_same m (stepped m s)
  pub done : false ≡ is_enabled m s

moves : (m n next : MachineState) (s : Slot) (w : Woken) → stepped m s ≡ Some next → n ≡ next → Wakes m n w → Moves m n s w
moves m n next s w e f g = record { state = rw e f; done = rw e refl; woken = g }

idles : (m n : MachineState) (s : Slot) → stepped m s ≡ None → n ≡ m → Idles m n s
idles m n s e f = record { state = rw e f; done = rw e refl }

-- a core that is there, as a call hands it out, with the room of its request rings
pub record IsCoreAt (m : MachineState) (i : ℕ) (core : CoreState) (room : ℕ) : Type 0 where
  pub here : slice_get m.cores i ≡ Some core
  pub room_is : room ≡ request_rooms m.requests i

pub is_core_at : (m : MachineState) (i : ℕ) (core : CoreState) (room : ℕ) → i < length m.cores → core ≡ get_or m.cores i core → room ≡ request_rooms m.requests i → IsCoreAt m i core room
is_core_at m i core room h e r = record { here = core_here m.cores i core h e; room_is = r }

-- ---- exec

exec_idle_here : (m : MachineState) (i : ℕ) (core after : CoreState) (room : ℕ) → IsCoreAt m i core room → None ≡ (turn_of core room).did → after ≡ core
    → Idles m (record m { cores = set m.cores i after }) (slot.Exec i)
exec_idle_here m i core after room at d e =
    let none : stepped m (slot.Exec i) ≡ None = rw at.here (rw (← at.room_is) (rw (← d) refl)) in
    idles m _ (slot.Exec i) none (ap (λ (cs : List CoreState). record m { cores = cs }) (set_back m.cores i core after at.here e))

pub exec_idle : (v m : MachineState) → v ≡ m → (i : ℕ) (core after : CoreState) (room : ℕ) → IsCoreAt v i core room → None ≡ (turn_of core room).did → after ≡ core
    → Idles m (record v { cores = set v.cores i after }) (slot.Exec i)
exec_idle v m is i core after room at d e =
    subst (λ (k : MachineState). Idles k (record v { cores = set v.cores i after }) (slot.Exec i)) is (exec_idle_here v i core after room at d e)

sent_dest : (room : ℕ) (o : Did) → HasRing room o → (d : ℕ) (r : RequestData) → o ≡ did.Sent d r → d < 9
sent_dest room did.Moved h d r e = let clash : ◌≡◌ {A = Did} did.Moved (did.Sent d r) = e in cc
sent_dest room (did.Waits w) h d r e = let clash : ◌≡◌ {A = Did} (did.Waits w) (did.Sent d r) = e in cc
sent_dest room (did.Sent c q) h d r e = let same : c ≡ d = cc in subst (λ (k : ℕ). k < 9) same h.1

did_within : (i room : ℕ) (o : Did) → HasRing room o → i < 8 → IsWithin (woken_by i o)
did_within i room did.Moved h few = few
did_within i room (did.Waits w) h few = few
did_within i room (did.Sent d r) h few = (few, h.1)

exec_moves_here : (m : MachineState) (i : ℕ) (core after : CoreState) (room : ℕ) (o : Did) (requests : List (List RequestData)) → i < 8 → IsCoreAt m i core room
    → Some o ≡ (turn_of core room).did → after ≡ (turn_of core room).core → requests ≡ requests_after m.requests i o → HasRing room o
    → Moves m (with_core m i after requests) (slot.Exec i) (woken_by i o)
exec_moves_here m i core after room o requests few at d e q ring =
    let some : stepped m (slot.Exec i) ≡ Some (with_core m i (turn_of core room).core (requests_after m.requests i o)) = rw at.here (rw (← at.room_is) (rw (← d) refl)) in
    let wakes = did_wakes m i after o (sent_dest room o ring) in
    moves m _ _ (slot.Exec i) (woken_by i o) some
    (ap (λ (k : CoreState). with_core m i k requests) e ∙ ap (λ (rs : List (List RequestData)). with_core m i (turn_of core room).core rs) q)
    (record { within = did_within i room o ring few; only = subst (λ (rs : List (List RequestData)). WakesOnly m (with_core m i after rs) (woken_by i o)) (sym q) wakes })

pub exec_moves : (v m : MachineState) → v ≡ m → (i : ℕ) (core after : CoreState) (room : ℕ) (o : Did) (requests : List (List RequestData)) → i < 8 → IsCoreAt v i core room
    → Some o ≡ (turn_of core room).did → after ≡ (turn_of core room).core → requests ≡ requests_after v.requests i o → HasRing room o
    → Moves m (with_core v i after requests) (slot.Exec i) (woken_by i o)
exec_moves v m is i core after room o requests few at d e q ring =
    subst (λ (k : MachineState). Moves k (with_core v i after requests) (slot.Exec i) (woken_by i o)) is (exec_moves_here v i core after room o requests few at d e q ring)

-- ---- drain

abbrev pub IsIdle : Drained → Type 0
IsIdle (drained.Sent d r) = ⊥
IsIdle drained.Empty = Unit {0}
IsIdle drained.Out = Unit {0}
IsIdle (drained.NoRoom d) = Unit {0}

idle_did : (m : MachineState) (i : ℕ) (core : CoreState) (o : Drained) → IsIdle o → drain_did m i core o ≡ None
idle_did m i core (drained.Sent d r) h = elim h [ ]
idle_did m i core drained.Empty h = refl
idle_did m i core drained.Out h = refl
idle_did m i core (drained.NoRoom d) h = refl

drain_idle_here : (m : MachineState) (i s : ℕ) (core after : CoreState) (room : ℕ) (o : Drained) → IsCoreAt m i core room → o ≡ (drain_of core s room).did → IsIdle o → after ≡ core
    → Idles m (record m { cores = set m.cores i after }) (slot.Drain i s)
drain_idle_here m i s core after room o at d h e =
    let none : stepped m (slot.Drain i s) ≡ None = rw at.here (rw (← at.room_is) (rw (← d) (idle_did m i _ o h))) in
    idles m _ (slot.Drain i s) none (ap (λ (cs : List CoreState). record m { cores = cs }) (set_back m.cores i core after at.here e))

pub drain_idle : (v m : MachineState) → v ≡ m → (i s : ℕ) (core after : CoreState) (room : ℕ) (o : Drained) → IsCoreAt v i core room → o ≡ (drain_of core s room).did → IsIdle o → after ≡ core
    → Idles m (record v { cores = set v.cores i after }) (slot.Drain i s)
drain_idle v m is i s core after room o at d h e =
    subst (λ (k : MachineState). Idles k (record v { cores = set v.cores i after }) (slot.Drain i s)) is (drain_idle_here v i s core after room o at d h e)

drain_moves_here : (m : MachineState) (i s : ℕ) (core after : CoreState) (room d : ℕ) (r : RequestData) (requests : List (List RequestData)) → i < 8 → IsCoreAt m i core room
    → drained.Sent d r ≡ (drain_of core s room).did → after ≡ (drain_of core s room).core → requests ≡ request_pushed m.requests i d r → d < 9
    → Moves m (with_core m i after requests) (slot.Drain i s) (woken.Sent i d)
drain_moves_here m i s core after room d r requests few at f e q h =
    let some : stepped m (slot.Drain i s) ≡ Some (with_core m i (drain_of core s room).core (request_pushed m.requests i d r)) = rw at.here (rw (← at.room_is) (rw (← f) refl)) in
    let wakes = sent_wakes m i d after (ring_of m.requests i d ++ r ∷ []) h in
    moves m _ _ (slot.Drain i s) (woken.Sent i d) some
    (ap (λ (k : CoreState). with_core m i k requests) e ∙ ap (λ (rs : List (List RequestData)). with_core m i (drain_of core s room).core rs) q)
    (record { within = (few, h); only = subst (λ (rs : List (List RequestData)). WakesOnly m (with_core m i after rs) (woken.Sent i d)) (sym q) wakes })

pub drain_moves : (v m : MachineState) → v ≡ m → (i s : ℕ) (core after : CoreState) (room d : ℕ) (r : RequestData) (requests : List (List RequestData)) → i < 8 → IsCoreAt v i core room
    → drained.Sent d r ≡ (drain_of core s room).did → after ≡ (drain_of core s room).core → requests ≡ request_pushed v.requests i d r → d < 9
    → Moves m (with_core v i after requests) (slot.Drain i s) (woken.Sent i d)
drain_moves v m is i s core after room d r requests few at f e q h =
    subst (λ (k : MachineState). Moves k (with_core v i after requests) (slot.Drain i s) (woken.Sent i d)) is (drain_moves_here v i s core after room d r requests few at f e q h)

-- ---- take, serve, admit: what they wake

take_wakes_here : (m : MachineState) (i : ℕ) (core after : CoreState) (packet : Packet) (rest : List Packet) → i < length m.cores → core ≡ get_or m.cores i core
    → get_or m.replies i [] ≡ packet ∷ rest → WakesOnly m (record m { cores = set m.cores i after; replies = set m.replies i rest }) (woken.Took i)
take_wakes_here m i core after packet rest h e ring =
    let on : is_enabled m (slot.Take i) ≡ true = rw (core_here m.cores i core h e) (rw ring refl) in
    took_wakes m i after rest on

pub take_wakes : (v m : MachineState) → v ≡ m → (i : ℕ) (core after : CoreState) (packet : Packet) (rest : List Packet) → i < 8 → i < length v.cores → core ≡ get_or v.cores i core
    → get_or v.replies i [] ≡ packet ∷ rest → Wakes m (record v { cores = set v.cores i after; replies = set v.replies i rest }) (woken.Took i)
take_wakes v m is i core after packet rest few h e ring =
    subst (λ (k : MachineState). Wakes k (record v { cores = set v.cores i after; replies = set v.replies i rest }) (woken.Took i)) is
    (record { within = few; only = take_wakes_here v i core after packet rest h e ring })

serve_wakes_here : (m : MachineState) (d c after : ℕ) (r : RequestData) (rest : List RequestData) (ring : List Served) (banks : List BankState) → d < 9
    → nat_lt (length (get_or m.served d [])) most_served ≡ true → asker_from m.requests (length m.cores) d (get_or m.tried d 0) (length m.cores) ≡ Some c
    → ring_of m.requests c d ≡ r ∷ rest
    → WakesOnly m (record m { requests = set m.requests (ring_place c d) rest; served = set m.served d ring; banks = banks; tried = set m.tried d after }) (woken.Served c d)
serve_wakes_here m d c after r rest ring banks few room asker asks =
    let on : is_enabled m (slot.Serve d) ≡ true = rw room (rw asker (rw asks refl)) in
    served_wakes m c d after rest ring banks few on

pub serve_wakes : (v m : MachineState) → v ≡ m → (d c after : ℕ) (r : RequestData) (rest : List RequestData) (ring : List Served) (banks : List BankState) → c < 8 → d < 9
    → nat_lt (length (get_or v.served d [])) most_served ≡ true → asker_from v.requests (length v.cores) d (get_or v.tried d 0) (length v.cores) ≡ Some c
    → ring_of v.requests c d ≡ r ∷ rest
    → Wakes m (record v { requests = set v.requests (ring_place c d) rest; served = set v.served d ring; banks = banks; tried = set v.tried d after }) (woken.Served c d)
serve_wakes v m is d c after r rest ring banks core few room asker asks =
    subst (λ (k : MachineState). Wakes k (record v { requests = set v.requests (ring_place c d) rest; served = set v.served d ring; banks = banks; tried = set v.tried d after }) (woken.Served c d)) is
    (record { within = (core, few); only = serve_wakes_here v d c after r rest ring banks few room asker asks })

pub admit_wakes : (v m : MachineState) → v ≡ m → (d cores : ℕ) (rest : List Served) (replies : List (List Packet)) (x : XbarState) → d < 9
    → ((k : ℕ) → bit_at cores k ≡ 0 → get_or replies k [] ≡ get_or v.replies k [])
    → Wakes m (record v { served = set v.served d rest; replies = replies; xbar = x }) (woken.Admitted d cores)
admit_wakes v m is d cores rest replies x few same =
    subst (λ (k : MachineState). Wakes k (record v { served = set v.served d rest; replies = replies; xbar = x }) (woken.Admitted d cores)) is
    (record { within = few; only = admitted_wakes v d cores rest replies x same })

-- ---- a quick turn

quick_some : (m : MachineState) (i : ℕ) (core after : CoreState) (room : ℕ) → IsCoreAt m i core room → TurnMovedTo after (turn_of core room)
    → stepped m (slot.Exec i) ≡ Some (record m { cores = set m.cores i after })
quick_some m i core after room at t =
    let some : stepped m (slot.Exec i) ≡ Some (record m { cores = set m.cores i (turn_of core room).core }) = rw at.here (rw (← at.room_is) (rw t.did refl)) in
    some ∙ ap (λ (k : CoreState). Some (record m { cores = set m.cores i k })) (sym t.core)

-- a turn that was done, and what it wakes
pub record IsQuick (m n : MachineState) (i : ℕ) (after : CoreState) : Type 0 where
  pub state : stepped m (slot.Exec i) ≡ Some n
  pub core : Wakes m n (woken.Core i)
  pub nothing : HoldNoStore after.threads → Wakes m n woken.Nothing

quick_is_here : (m : MachineState) (i : ℕ) (core after : CoreState) (room : ℕ) → i < 8 → i < length m.cores → IsCoreAt m i core room → TurnMovedTo after (turn_of core room)
    → IsQuick m (record m { cores = set m.cores i after }) i after
quick_is_here m i core after room few within at t =
    let some = quick_some m i core after room at t in record {
      state = some;
      core = record { within = few; only = core_wakes m i after };
      nothing = λ none. record { within = tt; only = quiet_wakes m i after within none (rw some refl) };
    }

pub quick_is : (v m : MachineState) → v ≡ m → (i : ℕ) (core after : CoreState) → i < 8 → i < length v.cores → core ≡ get_or v.cores i core
    → ((room : ℕ) → TurnMovedTo after (turn_of core room)) → IsQuick m (record v { cores = set v.cores i after }) i after
quick_is v m is i core after few within e t =
    let room : ℕ = request_rooms v.requests i in
    subst (λ (k : MachineState). IsQuick k (record v { cores = set v.cores i after }) i after) is
    (quick_is_here v i core after room few within (is_core_at v i core room within e refl) (t room))

pub quick_stays : (v m : MachineState) → v ≡ m → (i : ℕ) (core after : CoreState) → i < length v.cores → core ≡ get_or v.cores i core → after ≡ core
    → record v { cores = set v.cores i after } ≡ m
quick_stays v m is i core after within e same =
    ap (λ (cs : List CoreState). record v { cores = cs }) (set_back v.cores i core after (core_here v.cores i core within e) same) ∙ is
