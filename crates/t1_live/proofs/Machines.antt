-- Agents that fit are a machine that keeps what each slot keeps: its rings hold what was sent and not received.
use Rattle.std.proofs.Common.{◌≡◌, ℕ, zero, suc, ◌+◌, ◌*◌, ◌/◌, ◌%◌, ◌<◌, ◌≤◌, true, List, [], ◌∷◌, ◌++◌, length, get_or, replicate, Option, Some, None, refl, ap, sym, ◌∙◌, subst, inl, inr, arith}
use Rattle.std.specs.List.{slice_get}
use Rattle.std.proofs.lemmas.Bool.{cases_lt}
use Rattle.std.proofs.lemmas.List.{get_or_past, length-replicate}
use Rattle.std.proofs.lemmas.Option.{slice_get_within}
use Rattle.t1_shape.specs.Numbers.{banks}
use Rattle.t1_shape.proofs.Numbers.{banks_are as few_banks}
use Rattle.t1_packet.specs.declared.packet.Packet.{Packet}
use Rattle.t1_packet.specs.declared.served.Served.{Served}
use Rattle.t1_packet.specs.Data.{RequestData}
use Rattle.t1_event.specs.declared.report.Config.{Config}
use Rattle.t1_event.specs.BankRule.{BankState, bank_after}
use Rattle.t1_elf.specs.declared.object.Image.{Image}
use Rattle.t1_joint.specs.Lists.{IsPrefix}
use Rattle.t1_joint.specs.Start.{Setup}
use Rattle.t1_joint.specs.Parts.{Parts, posts_from, requests_of, asked_by, served_at}
use Rattle.t1_joint.specs.Fit.{destination_start, AreServed, HasAdmitted, Fit}
use Rattle.t1_joint.specs.JointHistory.{IsSetup}
use Rattle.t1_fit.proofs.Joins as joins
use Rattle.t1_fit.proofs.Lists.{in_prefix, prefix_trans}
use Rattle.t1_received.specs.Requests.{sent_to}
use Rattle.t1_core.specs.Steps.{CoreState}
use Rattle.t1_core.specs.Ends.{finished_of}
use Rattle.t1_core_rule.specs.Histories.{History, Call, after_calls}
use Rattle.t1_core_rule.specs.Laws.{history_of, AreWhole}
use Rattle.t1_machine.specs.Machine.{most_dests, MachineState, ring_of, bank_of}
use Rattle.t1_machine.specs.Start.{setup_of}
use Rattle.t1_machine.proofs.Starts.{zeros}
use Rattle.t1_machine_rule.specs.Kept.{ever_served, Kept}
use Rattle.t1_machine_rule.proofs.Fits.{setup_is}
use Rattle.t1_machine_rule.proofs.Lists.{slice_there}
use Rattle.t1_crew.specs.Slots.{AreOver}
use Rattle.t1_live.specs.Rules.{accesses_of}
use Rattle.t1_live.specs.Sides.{CoreSide, DestinationSide, CrossbarSide, is_core_over}
use Rattle.t1_live.specs.Whole.{core_part, parts_of, AreFitting, AreAgents, cores_of}
use Rattle.t1_live.proofs.Fitting.{core_here, crossbar_here}
use Rattle.t1_live.proofs.Tied.{same_at}

-- ---- lists

abbrev table : {A : Type 0} → (ℕ → A) → ℕ → ℕ → List A
table f k zero = []
table f k (suc n) = f k ∷ table f (suc k) n

table_at : {A : Type 0} (f : ℕ → A) (k n i : ℕ) (d : A) → i < n → get_or (table f k n) i d ≡ f (k + i)
table_at f k zero i d l = absurd (omega (arith, l))
table_at f k (suc n) zero d l = ap f (let z : k ≡ k + 0 = omega arith in z)
table_at f k (suc n) (suc i) d l = table_at f (suc k) n i d (omega (arith, l)) ∙ ap f (let z : suc k + i ≡ k + suc i = omega arith in z)

table_first : {A : Type 0} (f : ℕ → A) (n i : ℕ) (d : A) → i < n → get_or (table f 0 n) i d ≡ f i
table_first f n i d l = table_at f 0 n i d l ∙ ap f (let z : 0 + i ≡ i = omega arith in z)

table_length : {A : Type 0} (f : ℕ → A) (k n : ℕ) → length (table f k n) ≡ n
table_length f k zero = refl
table_length f k (suc n) = ap suc (table_length f (suc k) n)

pub cores_length : (cores : List CoreSide) → length (cores_of cores) ≡ length cores
cores_length [] = refl
cores_length (x ∷ xs) = ap suc (cores_length xs)

pub side_at : (cores : List CoreSide) (c : ℕ) (core : CoreState) → slice_get (cores_of cores) c ≡ Some core → (side : CoreSide) × (slice_get cores c ≡ Some side) × (side.core ≡ core)
side_at [] c core e = let clash : ◌≡◌ {A = Option CoreState} None (Some core) = e in cc
side_at (x ∷ xs) zero core e = (x, refl, (let q : x.core ≡ core = cc (e) in q))
side_at (x ∷ xs) (suc c) core e = side_at xs c core e

over_at : (cores : List CoreSide) (c : ℕ) (side : CoreSide) → AreOver is_core_over cores → slice_get cores c ≡ Some side → finished_of side.core ≡ true
over_at [] c side over e = let clash : ◌≡◌ {A = Option CoreSide} None (Some side) = e in cc
over_at (x ∷ xs) zero side over e = let q : x ≡ side = cc (e) in subst (λ (y : CoreSide). finished_of y.core ≡ true) q over.0
over_at (x ∷ xs) (suc c) side over e = over_at xs c side over.1 e

nothing_before : {A : Type 0} (xs ys : List A) → xs ++ ys ≡ [] → xs ≡ []
nothing_before [] ys e = refl
nothing_before {A} (x ∷ xs) ys e = let clash : ◌≡◌ {A = List A} (x ∷ (xs ++ ys)) [] = e in cc

module _ (config : Config) (image : Image) (cores : List CoreSide) (dests : List DestinationSide) (crossbar : CrossbarSide) (a : AreAgents (setup_of config image) cores dests crossbar)
    (g : AreFitting (setup_of config image) cores dests crossbar) where
  abbrev w : Setup
  w = setup_of config image

  abbrev admitted : List Served
  admitted = accesses_of g.crossbar_keeps.admissions

  abbrev p : Parts
  p = parts_of cores dests crossbar g.crossbar_keeps.admissions

  abbrev f : Fit w p
  f = g.fits

  pub setup : IsSetup w
  setup = setup_is config image a.runs a.bytes

  -- ---- the calls of each core

  record CallsOf (c : ℕ) : Type 0 where
    pub calls : List Call
    pub whole : AreWhole calls
    pub absent : config.cores ≤ c → calls ≡ []
    pub requests : List RequestData
    pub is : (side : CoreSide) → slice_get cores c ≡ Some side → history_of w c calls ≡ record { core = side.core; received = side.received; sent = requests }
    pub each : (side : CoreSide) → slice_get cores c ≡ Some side → (d : ℕ) → get_or side.sent d [] ≡ sent_to config.chip d requests

  calls_of : (c : ℕ) → CallsOf c
  calls_of c =
      elim (cases_lt c (length cores)) [
        | inl l ↦
            let x = slice_there cores c l in
            let k = core_here w cores _ _ a.wired c x.0 x.1 (g.core_keeps c x.0 x.1) in
            record {
              calls = k.history.calls;
              whole = k.history.whole;
              absent = λ past. absurd (omega (arith, l, past, a.full));
              requests = k.requests;
              is = λ side has. k.history.is ∙ ap (λ (y : CoreSide). record { core = y.core; received = y.received; sent = k.requests }) (same_at cores c x.0 side x.1 has);
              each = λ side has d. ap (λ (y : CoreSide). get_or y.sent d []) (sym (same_at cores c x.0 side x.1 has)) ∙ k.each d;
            }
        | inr past ↦ record {
          calls = [];
          whole = tt;
          absent = λ l. refl;
          requests = [];
          is = λ side has. absurd (let l = slice_get_within cores c side has in omega (arith, l, past));
          each = λ side has d. absurd (let l = slice_get_within cores c side has in omega (arith, l, past));
        }
      ]

  abbrev calls : ℕ → List Call
  calls c = (calls_of c).calls

  there : (c : ℕ) → c < config.cores → (side : CoreSide) × (slice_get cores c ≡ Some side)
  there c l = slice_there cores c (omega (arith, l, a.full))

  -- ---- what each destination served, and what of it was admitted

  served_all : (c d : ℕ) → requests_of (asked_by c (p.destination d).served) ≡ (p.destination d).received c
  served_all c d =
      (f.destinations d).order (λ c r h. (joins.sent_is w setup p f c d r (in_prefix r ((p.destination d).received c) ((p.core c).sent d) (f.rings.to_destination c d) h)).meant.core_is) c

  pub admitted_is : HasAdmitted w p.crossbar
  admitted_is = joins.admitted w setup p f

  pub own_served : (d : ℕ) → IsPrefix (served_at config.chip d admitted) (p.destination d).served
  own_served d = prefix_trans (served_at config.chip d admitted) (p.crossbar.received d) (p.destination d).served (admitted_is.admits d) (f.rings.to_crossbar d)

  -- ---- the machine

  pub requests_at : ℕ → List RequestData
  requests_at i = (f.rings.to_destination (i / most_dests) (i % most_dests)).0

  pub served_left : ℕ → List Served
  served_left d = (own_served d).0

  pub replies_left : ℕ → List Packet
  replies_left c = (f.rings.to_core c).0

  pub bank_at : ℕ → BankState
  bank_at d = bank_after (destination_start w d) (requests_of (p.destination d).served)

  abbrev pub machine : MachineState
  machine = record {
    chip = config.chip;
    cores = cores_of cores;
    requests = table requests_at 0 (most_dests * config.cores);
    served = table served_left 0 most_dests;
    replies = table replies_left 0 config.cores;
    banks = table bank_at 0 (banks config.chip);
    tried = replicate most_dests 0;
    xbar = crossbar.xbar;
  }

  ever_is : (d : ℕ) → d < most_dests → ever_served config.chip admitted machine.served d ≡ (p.destination d).served
  unfolding served_left
  ever_is d l = ap (λ (xs : List Served). served_at config.chip d admitted ++ xs) (table_first served_left most_dests d [] l) ∙ (own_served d).1

  ring_is : (c d : ℕ) → c < config.cores → d < most_dests → (p.destination d).received c ++ ring_of machine.requests c d ≡ (p.core c).sent d
  unfolding requests_at
  ring_is c d lc ld =
      let at : ring_of machine.requests c d ≡ requests_at (most_dests * c + d) = table_first requests_at (most_dests * config.cores) (most_dests * c + d) [] (omega (arith, lc, ld)) in
      let q : (most_dests * c + d) / most_dests ≡ c = omega (arith, ld) in
      let r : (most_dests * c + d) % most_dests ≡ d = omega (arith, ld) in
      ap (λ (l : List RequestData). (p.destination d).received c ++ l) (at ∙ (ap (λ (k : ℕ). (f.rings.to_destination k ((most_dests * c + d) % most_dests)).0) q ∙ ap (λ (k : ℕ). (f.rings.to_destination c k).0) r))
      ∙ (f.rings.to_destination c d).1

  asks_there : (c d : ℕ) → c < config.cores → d < most_dests → requests_of (asked_by c (ever_served config.chip admitted machine.served d)) ++ ring_of machine.requests c d ≡ sent_to config.chip d (history_of w c (calls c)).sent
  asks_there c d lc ld =
      let x = there c lc in
      let k = calls_of c in
      let sent : (p.core c).sent d ≡ get_or x.0.sent d [] = ap (λ (o : Option CoreSide). (core_part o).sent d) x.1 in
      ap (λ (xs : List Served). requests_of (asked_by c xs) ++ ring_of machine.requests c d) (ever_is d ld)
      ∙ (ap (λ (l : List RequestData). l ++ ring_of machine.requests c d) (served_all c d)
      ∙ (ring_is c d lc ld ∙ (sent ∙ (k.each x.0 x.1 d ∙ sym (ap (λ (h : History). sent_to config.chip d h.sent) (k.is x.0 x.1))))))

  none_sent : (c d : ℕ) → config.cores ≤ c → sent_to config.chip d (history_of w c (calls c)).sent ≡ []
  unfolding after_calls
  none_sent c d past = ap (λ (cs : List Call). sent_to config.chip d (history_of w c cs).sent) ((calls_of c).absent past)

  asks_past : (c d : ℕ) → config.cores ≤ c → d < most_dests → requests_of (asked_by c (ever_served config.chip admitted machine.served d)) ++ ring_of machine.requests c d ≡ sent_to config.chip d (history_of w c (calls c)).sent
  asks_past c d past ld =
      let ring : ring_of machine.requests c d ≡ [] = get_or_past machine.requests (most_dests * c + d) [] (let e = table_length requests_at 0 (most_dests * config.cores) in omega (arith, e, past)) in
      let pre = f.rings.to_destination c d in
      let none : (p.destination d).received c ≡ [] = nothing_before ((p.destination d).received c) pre.0 (pre.1 ∙ (f.no_cores c past).sent d) in
      ap (λ (xs : List Served). requests_of (asked_by c xs) ++ ring_of machine.requests c d) (ever_is d ld)
      ∙ (ap (λ (l : List RequestData). l ++ ring_of machine.requests c d) (served_all c d ∙ none) ∙ (ring ∙ sym (none_sent c d past)))

  replies_are : (c : ℕ) → c < config.cores → (history_of w c (calls c)).received ++ get_or machine.replies c [] ≡ posts_from c 0 admitted
  unfolding replies_left
  replies_are c l =
      let x = there c l in
      let came : (history_of w c (calls c)).received ≡ (p.core c).received =
      ap (λ (h : History). h.received) ((calls_of c).is x.0 x.1) ∙ sym (ap (λ (o : Option CoreSide). (core_part o).received) x.1) in
      ap (λ (xs : List Packet). xs ++ get_or machine.replies c []) came
      ∙ (ap (λ (xs : List Packet). (p.core c).received ++ xs) (table_first replies_left config.cores c [] l) ∙ ((f.rings.to_core c).1 ∙ f.crossbar.posts c))

  banks_are : (d : ℕ) → d < banks config.chip → bank_of machine.banks d ≡ bank_after (destination_start w d) (requests_of (ever_served config.chip admitted machine.served d))
  unfolding bank_at
  banks_are d l =
      table_first bank_at (banks config.chip) d _ l ∙ ap (λ (xs : List Served). bank_after (destination_start w d) (requests_of xs)) (sym (ever_is d (let few = (few_banks config.chip).1 in omega (arith, l, few))))

  pub kept : Kept w machine
  kept =
      let count : length (cores_of cores) ≡ config.cores = cores_length cores ∙ a.full in
      let x = crossbar_here w _ _ crossbar a.wired g.crossbar_keeps in
      record {
        parts = record {
          chip = refl;
          cores = count;
          shaped = record {
            some = (let l = a.runs.some_cores in omega (arith, l, count));
            few = (let l = a.runs.few_cores in omega (arith, l, count));
            all_requests = table_length requests_at 0 (most_dests * config.cores) ∙ ap (λ (n : ℕ). most_dests * n) (sym count);
            all_served = table_length served_left 0 most_dests;
            all_replies = table_length replies_left 0 config.cores ∙ sym count;
            all_banks = table_length bank_at 0 (banks config.chip);
            all_tried = length-replicate {A = ℕ} most_dests 0;
          };
          tried = λ d. (let z = zeros most_dests d in let l = a.runs.some_cores in omega (arith, z, l));
          posted = x.cores;
          strands = x.strands;
        };
        calls = calls;
        admitted = admitted;
        log = admitted_is.log;
        seen = f.crossbar.seen;
        cores = λ c core is. (let y = side_at cores c core is in sym y.2 ∙ sym (ap (λ (h : History). h.core) ((calls_of c).is y.0 y.1)));
        whole = λ c. (calls_of c).whole;
        absent = λ c past. (calls_of c).absent past;
        requests = λ c d ld. elim (cases_lt c config.cores) [ inl l ↦ asks_there c d l ld | inr past ↦ asks_past c d past ld ];
        replies = replies_are;
        served = λ d ld. subst (λ (xs : List Served). AreServed config.chip d (destination_start w d) xs) (sym (ever_is d ld)) (f.destinations d).rule;
        banks = banks_are;
      }

  pub done : AreOver is_core_over cores → (c : ℕ) (core : CoreState) → slice_get machine.cores c ≡ Some core → finished_of core ≡ true
  done over c core is = let y = side_at cores c core is in subst (λ (k : CoreState). finished_of k ≡ true) y.2 (over_at cores c y.0 over y.1)

  pub short : length machine.xbar.log ≤ 4294967295
  short = g.crossbar_keeps.short
