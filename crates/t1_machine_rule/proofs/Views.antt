-- What a slot that is enabled does, by its kind.
use Rattle.t1_num.specs.declared.chip.ChipKind.TheVariants.{T1, T2}
use Rattle.t1_shape.specs.Shapes.{Shape}
use Rattle.std.proofs.Common.{◌≡◌, ℕ, ◌<◌, ◌≤◌, nat_lt, Bool, true, false, cond, List, [], ◌∷◌, length, set, get_or, Option, Some, None, refl, subst, inl, inr, arith}
use Rattle.std.specs.List.{slice_get}
use Rattle.std.proofs.lemmas.Bool.{ltb-true, ltb-false, cases_Bool}
use Rattle.t1_packet.specs.declared.packet.Packet.{Packet}
use Rattle.t1_packet.specs.declared.served.Served.{Served}
use Rattle.t1_packet.specs.Data.{RequestData}
use Rattle.t1_core.specs.declared.answers.Did.{Did}
use Rattle.t1_core.specs.declared.answers.Drained.{Drained}
use Rattle.t1_core.specs.declared.answers.Drained.TheVariants as drained
use Rattle.t1_core.specs.Steps.{CoreState, drain_of}
use Rattle.t1_core.specs.Takes.{take_of}
use Rattle.t1_core.specs.Turns.{turn_of}
use Rattle.t1_xbar.specs.declared.admitted.Admitted.TheVariants.{NotSeen}
use Rattle.t1_xbar.specs.Admission.{posts_from, full_from, with_record, admitted_unless, admission}
use Rattle.t1_machine.specs.declared.slot.Slot.{Slot}
use Rattle.t1_machine.specs.declared.slot.Slot.TheVariants as slot
use Rattle.t1_machine.specs.Slots.{slot_at}
use Rattle.t1_machine.specs.Machine.{MachineState, with_core, requests_after, request_pushed, request_rooms, ring_of, most_served, serving, serve_ring, serve_core, serve_if, asker_from, exec_did, exec_in, drain_did, drain_in, take_from, take_in, posts_pushed, reply_rooms, admit_as, admit_from, stepped}

-- the machine after an access is admitted
abbrev pub admitting : MachineState → ℕ → Served → List Served → MachineState
admitting m d access rest = record m {
  served = set m.served d rest;
  replies = posts_pushed (posts_from (length m.xbar.log) access 0 m.xbar.cores) m.replies;
  xbar = with_record m.xbar d access;
}

-- and after a core takes a packet
abbrev pub taking : MachineState → ℕ → CoreState → Packet → List Packet → MachineState
taking m c core packet rest = record m { cores = set m.cores c (take_of core packet); replies = set m.replies c rest }

pub data IsStep (m : MachineState) : MachineState → Type 0 where
  IsExec : (c : ℕ) (core : CoreState) (x : Did) → slice_get m.cores c ≡ Some core → (turn_of core (request_rooms m.requests c)).did ≡ Some x
      → IsStep m (with_core m c (turn_of core (request_rooms m.requests c)).core (requests_after m.requests c x))
  IsDrain : (c s d : ℕ) (core : CoreState) (r : RequestData) → slice_get m.cores c ≡ Some core → (drain_of core s (request_rooms m.requests c)).did ≡ drained.Sent d r
      → IsStep m (with_core m c (drain_of core s (request_rooms m.requests c)).core (request_pushed m.requests c d r))
  IsTake : (c : ℕ) (core : CoreState) (packet : Packet) (rest : List Packet) → slice_get m.cores c ≡ Some core → get_or m.replies c [] ≡ packet ∷ rest
      → IsStep m (taking m c core packet rest)
  IsServe : (d c : ℕ) (r : RequestData) (rest : List RequestData) → d < 9 → length (get_or m.served d []) < most_served → ring_of m.requests c d ≡ r ∷ rest
      → IsStep m (serving m d c r rest)
  IsAdmit : (d : ℕ) (access : Served) (rest : List Served) → get_or m.served d [] ≡ access ∷ rest → access.request.seen ≤ length m.xbar.log
      → IsStep m (admitting m d access rest)

no_step : (m next : MachineState) → ◌≡◌ {A = Option MachineState} None (Some next) → IsStep m next
no_step m next e = let clash : ◌≡◌ {A = Option MachineState} None (Some next) = e in cc

step_of : (m made next : MachineState) → Some made ≡ Some next → IsStep m made → IsStep m next
step_of m made next e s = let same : made ≡ next = cc (e) in subst (λ (x : MachineState). IsStep m x) same s

-- a serve is of a destination
abbrev pub IsWithin : Slot → Type 0
IsWithin (slot.Exec c) = Unit {0}
IsWithin (slot.Drain c s) = Unit {0}
IsWithin (slot.Take c) = Unit {0}
IsWithin (slot.Serve d) = d < 9
IsWithin (slot.Admit d) = Unit {0}

pub slot_within : (chip : Shape) (n : ℕ) → IsWithin (slot_at chip n)
slot_within T1 n =
    elim (cases_Bool (nat_lt n 8)) [
      | inl a ↦ rw a tt
      | inr a ↦ elim (cases_Bool (nat_lt n 40)) [
        | inl b ↦ rw (a, b) tt
        | inr b ↦ elim (cases_Bool (nat_lt n 48)) [
          | inl c ↦ rw (a, b, c) tt
          | inr c ↦ elim (cases_Bool (nat_lt n 53)) [
            | inl d ↦ rw (a, b, c, d) (let low : 48 ≤ n = ltb-false n 48 c in let high : n < 53 = ltb-true n 53 d in omega (arith, low, high))
            | inr d ↦ rw (a, b, c, d) tt
          ]
        ]
      ]
    ]
slot_within T2 n =
    elim (cases_Bool (nat_lt n 8)) [
      | inl a ↦ rw a tt
      | inr a ↦ elim (cases_Bool (nat_lt n 72)) [
        | inl b ↦ rw (a, b) tt
        | inr b ↦ elim (cases_Bool (nat_lt n 80)) [
          | inl c ↦ rw (a, b, c) tt
          | inr c ↦ elim (cases_Bool (nat_lt n 89)) [
            | inl d ↦ rw (a, b, c, d) (let low : 80 ≤ n = ltb-false n 80 c in let high : n < 89 = ltb-true n 89 d in omega (arith, low, high))
            | inr d ↦ rw (a, b, c, d) tt
          ]
        ]
      ]
    ]

module _ (m : MachineState) where
  exec_step : (c : ℕ) (next : MachineState) → exec_in m c (slice_get m.cores c) ≡ Some next → IsStep m next
  exec_step c next e = at (slice_get m.cores c) refl e
    where
      by : (core : CoreState) → slice_get m.cores c ≡ Some core → (o : Option Did) → (turn_of core (request_rooms m.requests c)).did ≡ o
          → exec_did m c (turn_of core (request_rooms m.requests c)).core o ≡ Some next → IsStep m next
      by core is None d h = no_step m next h
      by core is (Some x) d h = step_of m _ next h (IsExec c core x is d)

      at : (o : Option CoreState) → slice_get m.cores c ≡ o → exec_in m c o ≡ Some next → IsStep m next
      at None is h = no_step m next h
      at (Some core) is h = by core is (turn_of core (request_rooms m.requests c)).did refl h

  drain_step : (c s : ℕ) (next : MachineState) → drain_in m c s (slice_get m.cores c) ≡ Some next → IsStep m next
  drain_step c s next e = at (slice_get m.cores c) refl e
    where
      by : (core : CoreState) → slice_get m.cores c ≡ Some core → (o : Drained) → (drain_of core s (request_rooms m.requests c)).did ≡ o
          → drain_did m c (drain_of core s (request_rooms m.requests c)).core o ≡ Some next → IsStep m next
      by core is (drained.Sent d r) x h = step_of m _ next h (IsDrain c s d core r is x)
      by core is drained.Empty x h = no_step m next h
      by core is drained.Out x h = no_step m next h
      by core is (drained.NoRoom d) x h = no_step m next h

      at : (o : Option CoreState) → slice_get m.cores c ≡ o → drain_in m c s o ≡ Some next → IsStep m next
      at None is h = no_step m next h
      at (Some core) is h = by core is (drain_of core s (request_rooms m.requests c)).did refl h

  take_step : (c : ℕ) (next : MachineState) → take_in m c (slice_get m.cores c) ≡ Some next → IsStep m next
  take_step c next e = at (slice_get m.cores c) refl e
    where
      by : (core : CoreState) → slice_get m.cores c ≡ Some core → (ps : List Packet) → get_or m.replies c [] ≡ ps → take_from m c core ps ≡ Some next → IsStep m next
      by core is [] head h = no_step m next h
      by core is (packet ∷ rest) head h = step_of m _ next h (IsTake c core packet rest is head)

      at : (o : Option CoreState) → slice_get m.cores c ≡ o → take_in m c o ≡ Some next → IsStep m next
      at None is h = no_step m next h
      at (Some core) is h = by core is (get_or m.replies c []) refl h

  serve_step : (d : ℕ) (next : MachineState) → d < 9 → serve_if m d (nat_lt (length (get_or m.served d [])) most_served) ≡ Some next → IsStep m next
  serve_step d next ld e = free (nat_lt (length (get_or m.served d [])) most_served) refl e
    where
      by : length (get_or m.served d []) < most_served → (c : ℕ) (rs : List RequestData) → ring_of m.requests c d ≡ rs → serve_ring m d c rs ≡ Some next → IsStep m next
      by room c [] head h = no_step m next h
      by room c (r ∷ rest) head h = step_of m _ next h (IsServe d c r rest ld room head)

      at : length (get_or m.served d []) < most_served → (o : Option ℕ) → serve_core m d o ≡ Some next → IsStep m next
      at room None h = no_step m next h
      at room (Some c) h = by room c (ring_of m.requests c d) refl h

      free : (t : Bool) → nat_lt (length (get_or m.served d [])) most_served ≡ t → serve_if m d t ≡ Some next → IsStep m next
      free false t h = no_step m next h
      free true t h = at (ltb-true (length (get_or m.served d [])) most_served t) (asker_from m.requests (length m.cores) d (get_or m.tried d 0) (length m.cores)) h

  admit_step : (d : ℕ) (next : MachineState) → admit_from m d (get_or m.served d []) ≡ Some next → IsStep m next
  unfolding admission
  admit_step d next e = at (get_or m.served d []) refl e
    where
      by : (access : Served) (rest : List Served) → get_or m.served d [] ≡ access ∷ rest → access.request.seen ≤ length m.xbar.log → (o : Option ℕ)
          → admit_as m d rest (admitted_unless m.xbar d access o) ≡ Some next → IsStep m next
      by access rest head past None h = step_of m _ next h (IsAdmit d access rest head past)
      by access rest head past (Some core) h = no_step m next h

      seen : (access : Served) (rest : List Served) → get_or m.served d [] ≡ access ∷ rest → (t : Bool) → nat_lt (length m.xbar.log) access.request.seen ≡ t
          → admit_as m d rest (cond t (record { xbar = m.xbar; answer = NotSeen access.request.seen (length m.xbar.log) })
          (admitted_unless m.xbar d access (full_from (reply_rooms m.replies) (length m.xbar.log) access 0 m.xbar.cores))) ≡ Some next → IsStep m next
      seen access rest head true t h = no_step m next h
      seen access rest head false t h =
          by access rest head (ltb-false (length m.xbar.log) access.request.seen t) (full_from (reply_rooms m.replies) (length m.xbar.log) access 0 m.xbar.cores) h

      at : (ss : List Served) → get_or m.served d [] ≡ ss → admit_from m d ss ≡ Some next → IsStep m next
      at [] is h = no_step m next h
      at (access ∷ rest) is h = seen access rest is (nat_lt (length m.xbar.log) access.request.seen) refl h

  pub step_is : (s : Slot) (next : MachineState) → IsWithin s → stepped m s ≡ Some next → IsStep m next
  step_is (slot.Exec c) next w e = exec_step c next e
  step_is (slot.Drain c s) next w e = drain_step c s next e
  step_is (slot.Take c) next w e = take_step c next e
  step_is (slot.Serve d) next w e = serve_step d next w e
  step_is (slot.Admit d) next w e = admit_step d next e
