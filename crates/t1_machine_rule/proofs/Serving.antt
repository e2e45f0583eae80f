-- A destination serves a request: what is kept.
use Rattle.t1_shape.specs.Shapes.{Shape}
use Rattle.t1_shape.specs.Numbers.{banks}
use Rattle.std.proofs.Common.{◌≡◌, ◌≢◌, ℕ, ◌+◌, ◌*◌, ◌%◌, ◌<◌, ◌==◌, Bool, cond, List, [], ◌∷◌, ◌++◌, length, set, get_or, ap, sym, ◌∙◌, subst, inl, inr, arith, append_assoc}
use Rattle.std.proofs.lemmas.Bool.{cases_eq, cases_lt, cases_Bool, lt-ltb, eqb-false}
use Rattle.std.proofs.lemmas.List.{length-set, map-append, get_or-set_same, get_or-set_other}
use Rattle.t1_packet.specs.declared.served.Served.{Served}
use Rattle.t1_packet.specs.Data.{RequestData}
use Rattle.t1_event.specs.declared.report.Config.{Config}
use Rattle.t1_event.specs.BankRule.{BankState, bank_with, bank_after}
use Rattle.t1_elf.specs.declared.object.Image.{Image}
use Rattle.t1_joint.specs.Start.{Setup}
use Rattle.t1_joint.specs.Parts.{requests_of, asked_by, served_at}
use Rattle.t1_joint.specs.Fit.{destination_start, serves, destination_with, AreServed}
use Rattle.t1_fit.proofs.States.{after}
use Rattle.t1_received.specs.Requests.{sent_to}
use Rattle.t1_machine.specs.Machine.{MachineState, ring_of, bank_of, core_after, serving}
use Rattle.t1_machine.specs.Start.{setup_of}
use Rattle.t1_machine_rule.specs.Kept.{history_at, ever_served, Kept}
use Rattle.t1_machine_rule.proofs.Rings.{ring_here, ring_other, asker_within}
use Rattle.t1_machine_rule.proofs.Serves.{serves_request, served_push, after_is, bank_push, bridge_serves}
use Rattle.t1_machine_rule.proofs.Sent.{asked_push, asked_still, ring_sent}

after_within : (cores c : ℕ) → c < cores → core_after cores c < cores
after_within cores c l =
    elim (cases_Bool (c + 1 == cores)) [
      | inl e ↦ rw e (omega (arith, l))
      | inr e ↦ rw e (let ne = eqb-false (c + 1) cores e in omega (arith, l, ne))
    ]

module _ (config : Config) (image : Image) (blocks : config.ram % 65536 ≡ 0) (m : MachineState) (g : Kept (setup_of config image) m)
    (d c : ℕ) (r : RequestData) (rest : List RequestData) (ld : d < 9) (head : ring_of m.requests c d ≡ r ∷ rest) where
  abbrev w : Setup
  w = setup_of config image

  count : length m.requests ≡ 9 * config.cores
  count = let l = g.parts.shaped.all_requests in omega (arith, l, g.parts.cores)

  within : c < config.cores
  within = asker_within config.cores m.requests c d r rest count head

  abbrev bank : BankState
  bank = bank_of m.banks d

  abbrev new : Served
  new = serves config.chip d (bank_of m.banks d) r

  abbrev served_now : List (List Served)
  served_now = set m.served d (get_or m.served d [] ++ serves config.chip d (bank_of m.banks d) r ∷ [])

  abbrev old : List Served
  old = ever_served config.chip g.admitted m.served d

  abbrev start : BankState
  start = destination_start w d

  of_core : new.request.core ≡ c
  of_core = ap (λ (q : RequestData). q.core) (serves_request config.chip d bank r) ∙ (ring_sent config image blocks m g c d r rest ld head).meant.core_is

  ever_here : ever_served config.chip g.admitted served_now d ≡ old ++ new ∷ []
  ever_here =
      ap (λ (l : List Served). served_at config.chip d g.admitted ++ l) (get_or-set_same m.served d (get_or m.served d [] ++ new ∷ []) [] (omega (arith, ld, g.parts.shaped.all_served)))
      ∙ sym (append_assoc (served_at config.chip d g.admitted) (get_or m.served d []) (new ∷ []))

  ever_there : (e : ℕ) → e ≢ d → ever_served config.chip g.admitted served_now e ≡ ever_served config.chip g.admitted m.served e
  ever_there e ne = ap (λ (l : List Served). served_at config.chip e g.admitted ++ l) (get_or-set_other m.served d e (get_or m.served d [] ++ new ∷ []) [] ne)

  -- ---- requests

  abbrev requests_now : List (List RequestData)
  requests_now = set m.requests (9 * c + d) rest

  here_here : requests_of (asked_by c (ever_served config.chip g.admitted served_now d)) ++ ring_of requests_now c d ≡ sent_to config.chip d (history_at w g.calls c).sent
  here_here =
      let before : List RequestData = requests_of (asked_by c old) in
      ap (λ (l : List Served). requests_of (asked_by c l) ++ ring_of requests_now c d) ever_here
      ∙ (ap (λ (l : List RequestData). l ++ ring_of requests_now c d) (asked_push c old new of_core)
      ∙ (ap (λ (l : List RequestData). (before ++ new.request ∷ []) ++ l) (ring_here config.cores m.requests c d rest count within ld)
      ∙ (append_assoc before (new.request ∷ []) rest
      ∙ (ap (λ (q : RequestData). before ++ q ∷ rest) (serves_request config.chip d bank r)
      ∙ (ap (λ (l : List RequestData). before ++ l) (sym head) ∙ g.requests c d ld)))))

  there_here : (i : ℕ) → i ≢ c → requests_of (asked_by i (ever_served config.chip g.admitted served_now d)) ++ ring_of requests_now i d ≡ sent_to config.chip d (history_at w g.calls i).sent
  there_here i nc =
      ap (λ (l : List Served). requests_of (asked_by i l) ++ ring_of requests_now i d) ever_here
      ∙ (ap (λ (l : List RequestData). l ++ ring_of requests_now i d) (asked_still i old new (λ z. nc (sym z ∙ of_core)))
      ∙ (ap (λ (l : List RequestData). requests_of (asked_by i old) ++ l) (ring_other m.requests c d rest i d ld ld (λ z. nc z.0)) ∙ g.requests i d ld))

  there : (i e : ℕ) → e < 9 → e ≢ d → requests_of (asked_by i (ever_served config.chip g.admitted served_now e)) ++ ring_of requests_now i e ≡ sent_to config.chip e (history_at w g.calls i).sent
  there i e le ns =
      ap (λ (l : List Served). requests_of (asked_by i l) ++ ring_of requests_now i e) (ever_there e ns)
      ∙ (ap (λ (l : List RequestData). requests_of (asked_by i (ever_served config.chip g.admitted m.served e)) ++ l) (ring_other m.requests c d rest i e ld le (λ z. ns z.1)) ∙ g.requests i e le)

  asks : (i e : ℕ) → e < 9 → requests_of (asked_by i (ever_served config.chip g.admitted served_now e)) ++ ring_of requests_now i e ≡ sent_to config.chip e (history_at w g.calls i).sent
  asks i e le =
      elim (cases_eq e d) [
        | inl s ↦
            let goal : requests_of (asked_by i (ever_served config.chip g.admitted served_now d)) ++ ring_of requests_now i d ≡ sent_to config.chip d (history_at w g.calls i).sent = elim (cases_eq i c) [
              | inl q ↦ subst (λ (k : ℕ). requests_of (asked_by k (ever_served config.chip g.admitted served_now d)) ++ ring_of requests_now k d ≡ sent_to config.chip d (history_at w g.calls k).sent) (sym q) here_here
              | inr nc ↦ there_here i nc
            ] in
            subst (λ (k : ℕ). requests_of (asked_by i (ever_served config.chip g.admitted served_now k)) ++ ring_of requests_now i k ≡ sent_to config.chip k (history_at w g.calls i).sent) (sym s) goal
        | inr ns ↦ there i e le ns
      ]

  -- ---- destinations

  -- what is served is what the state that it came to serves
  self : new ≡ serves config.chip d (after config.chip d start old) new.request
  self =
      elim (cases_lt d (banks config.chip)) [
        | inl l ↦ ap (λ (b : BankState). serves config.chip d b r) (g.banks d l ∙ sym (after_is config.chip d start old l))
        | inr l ↦ bridge_serves config.chip d bank (after config.chip d start old) r l
      ]
      ∙ ap (λ (q : RequestData). serves config.chip d (after config.chip d start old) q) (sym (serves_request config.chip d bank r))

  served_by_now : (e : ℕ) → e < 9 → AreServed config.chip e (destination_start w e) (ever_served config.chip g.admitted served_now e)
  served_by_now e le =
      elim (cases_eq e d) [
        | inl s ↦
            let goal : AreServed config.chip d start (ever_served config.chip g.admitted served_now d) =
            subst (λ (l : List Served). AreServed config.chip d start l) (sym ever_here) (served_push config.chip d start old new (g.served d ld) self) in
            subst (λ (k : ℕ). AreServed config.chip k (destination_start w k) (ever_served config.chip g.admitted served_now k)) (sym s) goal
        | inr ns ↦ subst (λ (l : List Served). AreServed config.chip e (destination_start w e) l) (sym (ever_there e ns)) (g.served e le)
      ]

  abbrev banks_now : List BankState
  banks_now = set m.banks d (destination_with config.chip d (bank_of m.banks d) r)

  bank_here : d < banks config.chip → bank_of banks_now d ≡ bank_after start (requests_of (ever_served config.chip g.admitted served_now d))
  bank_here l =
      let one : destination_with config.chip d bank r ≡ bank_with bank r = ap (λ (t : Bool). cond t (bank_with bank r) bank) (lt-ltb d (banks config.chip) l) in
      get_or-set_same m.banks d (destination_with config.chip d bank r) _ (omega (arith, l, g.parts.shaped.all_banks))
      ∙ (one
      ∙ (ap (λ (b : BankState). bank_with b r) (g.banks d l)
      ∙ (sym (bank_push start (requests_of old) r)
      ∙ (ap (λ (q : RequestData). bank_after start (requests_of old ++ q ∷ [])) (sym (serves_request config.chip d bank r))
      ∙ (ap (λ (rs : List RequestData). bank_after start rs) (sym (map-append (λ (a : Served). a.request) old (new ∷ [])))
      ∙ ap (λ (xs : List Served). bank_after start (requests_of xs)) (sym ever_here))))))

  banks_by_now : (e : ℕ) → e < banks config.chip → bank_of banks_now e ≡ bank_after (destination_start w e) (requests_of (ever_served config.chip g.admitted served_now e))
  banks_by_now e le =
      elim (cases_eq e d) [
        | inl s ↦ subst (λ (k : ℕ). bank_of banks_now k ≡ bank_after (destination_start w k) (requests_of (ever_served config.chip g.admitted served_now k))) (sym s) (bank_here (omega (arith, s, le)))
        | inr ns ↦
            get_or-set_other m.banks d e (destination_with config.chip d bank r) _ ns
            ∙ (g.banks e le ∙ ap (λ (xs : List Served). bank_after (destination_start w e) (requests_of xs)) (sym (ever_there e ns)))
      ]

  tried_now : (e : ℕ) → get_or (set m.tried d (core_after (length m.cores) c)) e 0 < config.cores
  tried_now e =
      let low : core_after (length m.cores) c < config.cores =
      subst (λ (n : ℕ). core_after n c < config.cores) (sym g.parts.cores) (after_within config.cores c within) in
      elim (cases_eq e d) [
        | inl s ↦
            let now : get_or (set m.tried d (core_after (length m.cores) c)) e 0 ≡ core_after (length m.cores) c =
            ap (λ (k : ℕ). get_or (set m.tried d (core_after (length m.cores) c)) k 0) s
            ∙ get_or-set_same m.tried d (core_after (length m.cores) c) 0 (omega (arith, ld, g.parts.shaped.all_tried)) in
            omega (arith, now, low)
        | inr ns ↦ subst (λ (n : ℕ). n < config.cores) (sym (get_or-set_other m.tried d e (core_after (length m.cores) c) 0 ns)) (g.parts.tried e)
      ]

  -- the machine after the serve, by this chip's rule
  abbrev serving_by : Shape → MachineState
  serving_by k = record m {
    requests = set m.requests (9 * c + d) rest;
    served = set m.served d (get_or m.served d [] ++ serves k d (bank_of m.banks d) r ∷ []);
    banks = set m.banks d (destination_with k d (bank_of m.banks d) r);
    tried = set m.tried d (core_after (length m.cores) c);
  }

  by_config : Kept w (serving_by config.chip)
  by_config = record {
    parts = record {
      cores = g.parts.cores;
      shaped = record {
        some = g.parts.shaped.some;
        few = g.parts.shaped.few;
        all_requests = length-set m.requests (9 * c + d) rest ∙ g.parts.shaped.all_requests;
        all_served = length-set m.served d (get_or m.served d [] ++ new ∷ []) ∙ g.parts.shaped.all_served;
        all_replies = g.parts.shaped.all_replies;
        all_banks = length-set m.banks d (destination_with config.chip d bank r) ∙ g.parts.shaped.all_banks;
        all_tried = length-set m.tried d (core_after (length m.cores) c) ∙ g.parts.shaped.all_tried;
      };
      tried = tried_now;
      posted = g.parts.posted;
      strands = g.parts.strands;
      chip = g.parts.chip;
    };
    calls = g.calls;
    admitted = g.admitted;
    log = g.log;
    seen = g.seen;
    cores = g.cores;
    whole = g.whole;
    absent = g.absent;
    requests = asks;
    replies = g.replies;
    served = served_by_now;
    banks = banks_by_now;
  }

  pub serve_kept : Kept w (serving m d c r rest)
  serve_kept = subst (λ (k : Shape). Kept w (serving_by k)) (sym g.parts.chip) by_config
