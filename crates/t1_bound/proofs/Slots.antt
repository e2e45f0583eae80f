-- Each step of a machine takes weight away.
use Rattle.std.proofs.Common.{◌≡◌, ◌≤◌, ◌+◌, ◌*◌, ℕ, Bool, true, false, nat_lt, List, [], ◌∷◌, ◌++◌, length, set, get_or, Option, Some, None, refl, subst, arith}
use Rattle.std.specs.List.{slice_get, All}
use Rattle.std.proofs.lemmas.List.Elements.{All-set}
use Rattle.t1_packet.specs.declared.packet.Packet.{Packet}
use Rattle.t1_packet.specs.declared.served.Served.{Served}
use Rattle.t1_packet.specs.Data.{RequestData}
use Rattle.t1_joint.specs.Fit.{serves}
use Rattle.t1_core.specs.declared.answers.Did.{Did}
use Rattle.t1_core.specs.declared.answers.Did.TheVariants as did
use Rattle.t1_core.specs.declared.answers.Drained.{Drained}
use Rattle.t1_core.specs.declared.answers.Drained.TheVariants as drained
use Rattle.t1_core.specs.Steps.{CoreState}
use Rattle.t1_core.specs.Takes.{take_of}
use Rattle.t1_xbar.specs.declared.admitted.Admitted.{Admitted}
use Rattle.t1_xbar.specs.declared.admitted.Admitted.TheVariants as admitted
use Rattle.t1_xbar.specs.Admission.{XbarState}
use Rattle.t1_machine.specs.declared.slot.Slot.{Slot}
use Rattle.t1_machine.specs.declared.slot.Slot.TheVariants as slot
use Rattle.t1_machine.specs.Machine.{MachineState, most_served, ring_place, ring_of, request_pushed, request_rooms, reply_rooms, with_core, exec_did, exec_in, drain_did, drain_in, take_from, take_in, bank_of, serving, serve_ring, serve_core, serve_if, posts_pushed, admit_answer, admit_from, stepped}
use Rattle.t1_bound.specs.Weights.{Weights, Falls, total, lengths, core_weight, core_tokens, core_units, machine_weight, machine_tokens, units_done}
use Rattle.t1_bound.specs.Sound.{IsLive, IsLiveCore}
use Rattle.t1_bound.proofs.Lists.{total_set, all_at, push_length, pop_length, times_more, times_less, times_eight, times_moved}
use Rattle.t1_bound.proofs.Cores.{CorePays, TurnPays, CoreDrained, turn_pays, drain_pays}
use Rattle.t1_bound.proofs.Takes.{take_pays}
use Rattle.t1_bound.proofs.Admits.{IsAdmitted, posts_length, is_admitted}

-- a step takes weight away, whether units that may still come are counted or those that are done
pub record StepPays (w : Weights) (m n : MachineState) : Type 0 where
  pub weight : machine_weight w n + w.drop ≤ machine_weight w m
  pub tokens : machine_tokens w n + w.fetch * units_done m + w.drop ≤ machine_tokens w m + w.fetch * units_done n
  pub live : All IsLiveCore n.cores
  pub cores : n.xbar.cores ≡ m.xbar.cores
  pub room : n.xbar.room ≡ m.xbar.room
  pub log : length n.xbar.log ≤ length m.xbar.log + 1

-- what the cores of a machine pay
record CoresPay (w : Weights) (paid : ℕ) (before after : List CoreState) : Type 0 where
  weight : total (λ c. core_weight w c) after + paid ≤ total (λ c. core_weight w c) before
  tokens : total (λ c. core_tokens w c) after + w.fetch * total (λ c. core_units c) before + paid ≤ total (λ c. core_tokens w c) before + w.fetch * total (λ c. core_units c) after
  live : All IsLiveCore after

cores_pay : (w : Weights) (paid : ℕ) (cs : List CoreState) (i : ℕ) (c d : CoreState) → slice_get cs i ≡ Some c → All IsLiveCore cs → CorePays w paid c.threads d.threads
    → CoresPay w paid cs (set cs i d)
cores_pay w paid cs i c d e live p =
    let a = total_set (λ k. core_weight w k) cs i c d e in
    let b = total_set (λ k. core_tokens w k) cs i c d e in
    let u = times_moved w.fetch _ _ _ _ (total_set (λ k. core_units k) cs i c d e) in
    record { weight = omega (arith, a, p.weight); tokens = omega (arith, b, u, p.tokens); live = All-set IsLiveCore cs i d p.live live }

live_core : (m : MachineState) (i : ℕ) (c : CoreState) → slice_get m.cores i ≡ Some c → All IsLiveCore m.cores → All IsLive c.threads
live_core m i c e live = all_at IsLiveCore m.cores i c e live

no_step : (n : MachineState) (P : Type 0) → ◌≡◌ {A = Option MachineState} None (Some n) → P
no_step n P e = cc

is_step : (w : Weights) (m k n : MachineState) → ◌≡◌ {A = Option MachineState} (Some k) (Some n) → StepPays w m k → StepPays w m n
is_step w m k n e p = let same : k ≡ n = cc in subst (λ (j : MachineState). StepPays w m j) same p

module _ (w : Weights) (f : Falls w) (m n : MachineState) (live : All IsLiveCore m.cores) where
  -- ---- exec and drain

  sent_step : (i : ℕ) (c d : CoreState) (dest : ℕ) (r : RequestData) → slice_get m.cores i ≡ Some c → CorePays w (w.request + w.drop) c.threads d.threads
      → StepPays w m (with_core m i d (request_pushed m.requests i dest r))
  sent_step i c d dest r e p =
      let k = cores_pay w (w.request + w.drop) m.cores i c d e live p in
      let j = times_more w.request (lengths (request_pushed m.requests i dest r)) (lengths m.requests) (push_length m.requests (ring_place i dest) r) in
      record { weight = omega (arith, k.weight, j); tokens = omega (arith, k.tokens, j); live = k.live; cores = refl; room = refl; log = omega arith }

  exec_did_pays : (i : ℕ) (c d : CoreState) (o : Option Did) → slice_get m.cores i ≡ Some c → TurnPays w c.threads d.threads o → exec_did m i d o ≡ Some n → StepPays w m n
  exec_did_pays i c d None e p s = no_step n (StepPays w m n) s
  exec_did_pays i c d (Some did.Moved) e p s =
      let k = cores_pay w w.drop m.cores i c d e live p in
      is_step w m (with_core m i d m.requests) n s
      (record { weight = omega (arith, k.weight); tokens = omega (arith, k.tokens); live = k.live; cores = refl; room = refl; log = omega arith })
  exec_did_pays i c d (Some (did.Sent dest r)) e p s = is_step w m (with_core m i d (request_pushed m.requests i dest r)) n s (sent_step i c d dest r e p)
  exec_did_pays i c d (Some (did.Waits v)) e p s = elim p [ ]

  exec_in_pays : (i : ℕ) (o : Option CoreState) → slice_get m.cores i ≡ o → exec_in m i o ≡ Some n → StepPays w m n
  exec_in_pays i None e s = no_step n (StepPays w m n) s
  exec_in_pays i (Some c) e s = exec_did_pays i c _ _ e (turn_pays w f c (request_rooms m.requests i) (live_core m i c e live)) s

  drain_did_pays : (i : ℕ) (c d : CoreState) (o : Drained) → slice_get m.cores i ≡ Some c → CoreDrained w c.threads d.threads o → drain_did m i d o ≡ Some n → StepPays w m n
  drain_did_pays i c d (drained.Sent dest r) e p s = is_step w m (with_core m i d (request_pushed m.requests i dest r)) n s (sent_step i c d dest r e p)
  drain_did_pays i c d drained.Empty e p s = no_step n (StepPays w m n) s
  drain_did_pays i c d drained.Out e p s = no_step n (StepPays w m n) s
  drain_did_pays i c d (drained.NoRoom dest) e p s = no_step n (StepPays w m n) s

  drain_in_pays : (i k : ℕ) (o : Option CoreState) → slice_get m.cores i ≡ o → drain_in m i k o ≡ Some n → StepPays w m n
  drain_in_pays i k None e s = no_step n (StepPays w m n) s
  drain_in_pays i k (Some c) e s = drain_did_pays i c _ _ e (drain_pays w f c k (request_rooms m.requests i) (live_core m i c e live)) s

  -- ---- take

  take_from_pays : (i : ℕ) (c : CoreState) (ps : List Packet) → slice_get m.cores i ≡ Some c → get_or m.replies i [] ≡ ps → take_from m i c ps ≡ Some n → StepPays w m n
  take_from_pays i c [] e h s = no_step n (StepPays w m n) s
  take_from_pays i c (p ∷ rest) e h s =
      let k = cores_pay w 0 m.cores i c (take_of c p) e live (take_pays w f c p (live_core m i c e live)) in
      let j = times_less w.packet (lengths (set m.replies i rest)) (lengths m.replies) (pop_length m.replies i p rest h) in
      is_step w m (record m { cores = set m.cores i (take_of c p); replies = set m.replies i rest }) n s
      (record { weight = omega (arith, k.weight, j, f.takes); tokens = omega (arith, k.tokens, j, f.takes); live = k.live; cores = refl; room = refl; log = omega arith })

  take_in_pays : (i : ℕ) (o : Option CoreState) → slice_get m.cores i ≡ o → take_in m i o ≡ Some n → StepPays w m n
  take_in_pays i None e s = no_step n (StepPays w m n) s
  take_in_pays i (Some c) e s = take_from_pays i c (get_or m.replies i []) e refl s

  -- ---- serve

  serve_ring_pays : (d c : ℕ) (rs : List RequestData) → ring_of m.requests c d ≡ rs → serve_ring m d c rs ≡ Some n → StepPays w m n
  serve_ring_pays d c [] h s = no_step n (StepPays w m n) s
  serve_ring_pays d c (r ∷ rest) h s =
      let access : Served = serves m.chip d (bank_of m.banks d) r in
      let k = times_less w.request (lengths (set m.requests (ring_place c d) rest)) (lengths m.requests) (pop_length m.requests (ring_place c d) r rest h) in
      let j = times_more w.served (lengths (set m.served d (get_or m.served d [] ++ access ∷ []))) (lengths m.served) (push_length m.served d access) in
      is_step w m (serving m d c r rest) n s
      (record { weight = omega (arith, k, j, f.serves); tokens = omega (arith, k, j, f.serves); live = live; cores = refl; room = refl; log = omega arith })

  serve_core_pays : (d : ℕ) (o : Option ℕ) → serve_core m d o ≡ Some n → StepPays w m n
  serve_core_pays d None s = no_step n (StepPays w m n) s
  serve_core_pays d (Some c) s = serve_ring_pays d c (ring_of m.requests c d) refl s

  serve_if_pays : (d : ℕ) (b : Bool) → serve_if m d b ≡ Some n → StepPays w m n
  serve_if_pays d false s = no_step n (StepPays w m n) s
  serve_if_pays d true s = serve_core_pays d _ s

  -- ---- admit

  admit_answer_pays : (d : ℕ) (access : Served) (rest : List Served) (x : XbarState) (o : Admitted) → get_or m.served d [] ≡ access ∷ rest → m.xbar.cores ≤ 8
      → IsAdmitted m.xbar x o → admit_answer m d rest x o ≡ Some n → StepPays w m n
  admit_answer_pays d access rest x (admitted.Done index posts) h few a s =
      let k = times_less w.served (lengths (set m.served d rest)) (lengths m.served) (pop_length m.served d access rest h) in
      let j = times_eight w.packet (lengths (posts_pushed posts m.replies)) (lengths m.replies) (length posts) (posts_length posts m.replies) (omega (arith, a.few, few)) in
      let l = times_more w.commit (length x.log) (length m.xbar.log) (omega (arith, a.log)) in
      is_step w m (record m { served = set m.served d rest; replies = posts_pushed posts m.replies; xbar = x }) n s
      (record {
        weight = omega (arith, k, j, l, f.admits);
        tokens = omega (arith, k, j, l, f.admits);
        live = live;
        cores = a.cores;
        room = a.room;
        log = omega (arith, a.log);
      })
  admit_answer_pays d access rest x (admitted.NotSeen seen len) h few a s = no_step n (StepPays w m n) s
  admit_answer_pays d access rest x (admitted.NoRoom core) h few a s = no_step n (StepPays w m n) s

  admit_from_pays : (d : ℕ) (accesses : List Served) → get_or m.served d [] ≡ accesses → m.xbar.cores ≤ 8 → admit_from m d accesses ≡ Some n → StepPays w m n
  admit_from_pays d [] h few s = no_step n (StepPays w m n) s
  admit_from_pays d (access ∷ rest) h few s = admit_answer_pays d access rest _ _ h few (is_admitted m.xbar d access (reply_rooms m.replies)) s

  -- ---- all

  pub step_pays : (s : Slot) → m.xbar.cores ≤ 8 → stepped m s ≡ Some n → StepPays w m n
  step_pays (slot.Exec c) few s = exec_in_pays c (slice_get m.cores c) refl s
  step_pays (slot.Drain c k) few s = drain_in_pays c k (slice_get m.cores c) refl s
  step_pays (slot.Take c) few s = take_in_pays c (slice_get m.cores c) refl s
  step_pays (slot.Serve d) few s = serve_if_pays d (nat_lt (length (get_or m.served d [])) most_served) s
  step_pays (slot.Admit d) few s = admit_from_pays d (get_or m.served d []) refl few s
