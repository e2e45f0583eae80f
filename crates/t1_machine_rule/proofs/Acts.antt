-- A core executes or drains: what is kept.
use Rattle.std.proofs.Common.{◌≡◌, ℕ, ◌*◌, ◌+◌, ◌%◌, ◌<◌, ◌==◌, Bool, true, false, cond, List, [], ◌∷◌, ◌++◌, length, get_or, Option, Some, refl, ap, sym, ◌∙◌, subst, arith, append_assoc}
use Rattle.std.specs.List.{slice_get}
use Rattle.std.proofs.lemmas.List.{length-set, append-nil}
use Rattle.t1_packet.specs.declared.packet.Packet.{Packet}
use Rattle.t1_packet.specs.Data.{RequestData}
use Rattle.t1_event.specs.declared.report.Config.{Config}
use Rattle.t1_elf.specs.declared.object.Image.{Image}
use Rattle.t1_joint.specs.Start.{Setup}
use Rattle.t1_joint.specs.Parts.{requests_of, asked_by}
use Rattle.t1_received.specs.Requests.{sent_to}
use Rattle.t1_core.specs.declared.answers.Did.{Did}
use Rattle.t1_core.specs.declared.answers.Did.TheVariants as did
use Rattle.t1_core.specs.declared.answers.Drained.{Drained}
use Rattle.t1_core.specs.declared.answers.Drained.TheVariants as drained
use Rattle.t1_core.specs.Steps.{CoreState, drain_of}
use Rattle.t1_core.specs.Turns.{turn_of}
use Rattle.t1_core_rule.specs.Histories as history
use Rattle.t1_core_rule.specs.Histories.{History, Call, Turn, Drain, after_call, turned_by, drained_by}
use Rattle.t1_core_rule.specs.Laws.{IsWholeCall}
use Rattle.t1_machine.specs.Machine.{MachineState, with_core, ring_of, request_rooms, request_pushed, requests_after}
use Rattle.t1_machine.specs.Start.{setup_of}
use Rattle.t1_machine_rule.specs.Kept.{history_at, ever_served, Kept}
use Rattle.t1_core_idle.proofs.Dests.{requests_go_out}
use Rattle.t1_machine_rule.proofs.Rings.{IsPushed, Goes, did_pushed, one_pushed, length-requests_after}
use Rattle.t1_machine_rule.proofs.Cores.{calls_with, core_within, cores_now, whole_now, absent_now, sent_now, received_now}

module _ (config : Config) (image : Image) (blocks : config.ram % 65536 ≡ 0) (m : MachineState) (g : Kept (setup_of config image) m) where
  abbrev w : Setup
  w = setup_of config image

  -- core c becomes `next`, by a call that sends `new`
  module _ (c : ℕ) (core next : CoreState) (call : Call) (requests : List (List RequestData)) (new : List RequestData) (is : slice_get m.cores c ≡ Some core)
      (line : IsWholeCall call) (does : (h : History) → h.core ≡ core → (after_call h call).core ≡ next)
      (sends : (h : History) → h.core ≡ core → (after_call h call).sent ≡ h.sent ++ new) (receives : (h : History) → (after_call h call).received ≡ h.received ++ [])
      (same : length requests ≡ length m.requests) (pushed : IsPushed config.chip m.requests requests c new) where
    abbrev calls : ℕ → List Call
    calls = calls_with g.calls c call

    requests_now : (i e : ℕ) → e < 9
        → requests_of (asked_by i (ever_served config.chip g.admitted m.served e)) ++ ring_of requests i e ≡ sent_to config.chip e (history_at w calls i).sent
    requests_now i e le =
        let before : List RequestData = requests_of (asked_by i (ever_served config.chip g.admitted m.served e)) in
        let more : List RequestData = cond (i == c) (sent_to config.chip e new) [] in
        ap (λ (rs : List RequestData). before ++ rs) (pushed i e le)
        ∙ (sym (append_assoc before (ring_of m.requests i e) more)
        ∙ (ap (λ (rs : List RequestData). rs ++ more) (g.requests i e le) ∙ sym (sent_now w m g c core next call is new sends i e)))

    none_came : (b : Bool) → ◌≡◌ {A = List Packet} (cond b [] []) []
    none_came true = refl
    none_came false = refl

    came_now : (i : ℕ) → (history_at w calls i).received ≡ (history_at w g.calls i).received
    came_now i =
        let old : List Packet = (history_at w g.calls i).received in
        received_now w m g c core next call is [] receives i ∙ (ap (λ (ps : List Packet). old ++ ps) (none_came (i == c)) ∙ append-nil old)

    pub acting_kept : Kept w (with_core m c next requests)
    acting_kept = record {
      parts = record {
        cores = length-set m.cores c next ∙ g.parts.cores;
        shaped = record {
          some = (let l = g.parts.shaped.some in omega (arith, l, length-set m.cores c next));
          few = (let l = g.parts.shaped.few in omega (arith, l, length-set m.cores c next));
          all_requests = (let l = g.parts.shaped.all_requests in omega (arith, l, same, length-set m.cores c next));
          all_served = g.parts.shaped.all_served;
          all_replies = (let l = g.parts.shaped.all_replies in omega (arith, l, length-set m.cores c next));
          all_banks = g.parts.shaped.all_banks;
          all_tried = g.parts.shaped.all_tried;
        };
        tried = g.parts.tried;
        posted = g.parts.posted;
        strands = g.parts.strands;
        chip = g.parts.chip;
      };
      calls = calls;
      admitted = g.admitted;
      log = g.log;
      seen = g.seen;
      cores = cores_now w m g c core next call is does;
      whole = whole_now w m g c core next call is line;
      absent = absent_now w m g c core next call is;
      requests = requests_now;
      replies = λ i l. ap (λ (ps : List Packet). ps ++ get_or m.replies i []) (came_now i) ∙ g.replies i l;
      served = g.served;
      banks = g.banks;
    }

  -- ---- exec

  count : length m.requests ≡ 9 * config.cores
  count = let l = g.parts.shaped.all_requests in omega (arith, l, g.parts.cores)

  pub exec_kept : (c : ℕ) (core : CoreState) (x : Did) → slice_get m.cores c ≡ Some core → (turn_of core (request_rooms m.requests c)).did ≡ Some x
      → Kept w (with_core m c (turn_of core (request_rooms m.requests c)).core (requests_after m.requests c x))
  exec_kept c core x is e =
      let room : ℕ = request_rooms m.requests c in
      acting_kept c core (turn_of core room).core (Turn room) (requests_after m.requests c x) (history.asked_by x) is tt
      (λ h same. ap (λ (k : CoreState). (turn_of k room).core) same)
      (λ h same. ap (λ (k : CoreState). h.sent ++ turned_by (turn_of k room).did) same ∙ ap (λ (o : Option Did). h.sent ++ turned_by o) e)
      (λ h. sym (append-nil h.received))
      (length-requests_after m.requests c x)
      (did_pushed config.chip config.cores m.requests c x count (core_within w m g c core core (Turn room) is)
      (goes x (subst (λ (k : CoreState). (turn_of k room).did ≡ Some x) (g.cores c core is) e)))
    where
      goes : (y : Did) → (turn_of (history_at w g.calls c).core (request_rooms m.requests c)).did ≡ Some y → Goes config.chip y
      goes did.Moved h = tt
      goes (did.Waits wait) h = tt
      goes (did.Sent d r) h = (requests_go_out.turn w c (request_rooms m.requests c) d (g.calls c) r blocks h).meant.dest_is

  pub drain_kept : (c s d : ℕ) (core : CoreState) (r : RequestData) → slice_get m.cores c ≡ Some core → (drain_of core s (request_rooms m.requests c)).did ≡ drained.Sent d r
      → Kept w (with_core m c (drain_of core s (request_rooms m.requests c)).core (request_pushed m.requests c d r))
  drain_kept c s d core r is e =
      let room : ℕ = request_rooms m.requests c in
      acting_kept c core (drain_of core s room).core (Drain s room) (request_pushed m.requests c d r) (r ∷ []) is tt
      (λ h same. ap (λ (k : CoreState). (drain_of k s room).core) same)
      (λ h same. ap (λ (k : CoreState). h.sent ++ drained_by (drain_of k s room).did) same ∙ ap (λ (o : Drained). h.sent ++ drained_by o) e)
      (λ h. sym (append-nil h.received))
      (length-set m.requests (9 * c + d) (ring_of m.requests c d ++ r ∷ []))
      (one_pushed config.chip config.cores m.requests c d r count (core_within w m g c core core (Drain s room) is) (requests_go_out.drain w c s room d (g.calls c) r blocks (subst (λ (k : CoreState). (drain_of k s room).did ≡ drained.Sent d r) (g.cores c core is) e)).meant.dest_is)
