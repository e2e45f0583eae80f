-- The parts of the machine fit.
use Rattle.t1_shape.specs.Shapes.{Shape}
use Rattle.std.proofs.Common.{◌≡◌, ℕ, ◌<◌, ◌≤◌, ◌==◌, false, List, [], ◌∷◌, ◌++◌, length, get_or, Option, Some, refl, ap, sym, ◌∙◌, subst, inl, inr, arith}
use Rattle.std.specs.List.{slice_get}
use Rattle.std.proofs.lemmas.Bool.{cases_lt, ne_eqb}
use Rattle.std.proofs.lemmas.List.{append-nil, get_or_past}
use Rattle.std.proofs.lemmas.Option.{slice_get_within}
use Rattle.t1_num.specs.MemoryLaws.{AreBytes}
use Rattle.t1_packet.specs.declared.served.Served.{Served}
use Rattle.t1_packet.specs.Data.{RequestData}
use Rattle.t1_packet.specs.Ops.{op_dest}
use Rattle.t1_event.specs.declared.report.Config.{Config}
use Rattle.t1_elf.specs.declared.object.Image.{Image}
use Rattle.t1_joint.specs.Lists.{IsPrefix}
use Rattle.t1_joint.specs.Start.{Setup}
use Rattle.t1_joint.specs.Parts.{CorePart, Parts, posts_from, requests_of, asked_by, served_at}
use Rattle.t1_joint.specs.Proper.{AreProper}
use Rattle.t1_joint.specs.CoreRule.{IsCore, KeepsRule}
use Rattle.t1_joint.specs.Fit.{destination_start, AreServed, IsNoCore, IsDestination, Fit}
use Rattle.t1_joint.specs.JointHistory.{IsSetup}
use Rattle.t1_received.specs.Requests.{sent_to}
use Rattle.t1_fit.proofs.Joins as joins
use Rattle.t1_core.specs.Steps.{CoreState}
use Rattle.t1_core_rule.specs.Histories.{History, Call, after_calls}
use Rattle.t1_core_rule.specs.Laws.{history_of}
use Rattle.t1_core_rule.specs.Parts.{part_of}
use Rattle.t1_core_rule.proofs.Rules.{cores_keep_their_rule}
use Rattle.t1_machine.specs.Machine.{MachineState, ring_of}
use Rattle.t1_machine.specs.Start.{IsRunnable, setup_of}
use Rattle.t1_machine.proofs.Steps.{core_none}
use Rattle.t1_machine_rule.specs.Kept.{history_at, ever_served, Kept}
use Rattle.t1_machine_rule.specs.Parts.{no_part, core_part, parts_of}
use Rattle.t1_machine_rule.proofs.Lists.{slice_there}
use Rattle.t1_machine_rule.proofs.Rings.{dest_small}

pub own_past : (chip : Shape) (d : ℕ) (all : List Served) → 9 ≤ d → served_at chip d all ≡ []
own_past chip d [] l = refl
own_past chip d (a ∷ all) l =
    let t : (op_dest chip a.request.op == d) ≡ false = ne_eqb (op_dest chip a.request.op) d (λ e. let s = dest_small chip a.request.op in omega (arith, e, s, l)) in
    rw t (own_past chip d all l)

-- the setup of a machine that is runnable
pub setup_is : (config : Config) (image : Image) → IsRunnable (setup_of config image) → AreBytes image.ram → IsSetup (setup_of config image)
setup_is config image runs bytes = record {
  cores = (runs.some_cores, runs.few_cores);
  strands = (runs.some_strands, runs.few_strands);
  sets = (runs.some_sets, runs.few_sets);
  ram = runs.image;
  blocks = runs.blocks;
  small = runs.few_bytes;
  bytes = bytes;
}

module _ (config : Config) (image : Image) (runs : IsRunnable (setup_of config image)) (bytes : AreBytes image.ram) (m : MachineState) (g : Kept (setup_of config image) m)
    (short : length m.xbar.log ≤ 4294967295) where
  abbrev w : Setup
  w = setup_of config image

  abbrev pub parts : Parts
  parts = parts_of (setup_of config image) m g.calls g.admitted

  pub setup : IsSetup w
  setup = setup_is config image runs bytes

  pub there : (c : ℕ) → c < config.cores → (core : CoreState) × (slice_get m.cores c ≡ Some core)
  there c l = slice_there m.cores c (omega (arith, l, g.parts.cores))

  pub core_within : (c : ℕ) (core : CoreState) → slice_get m.cores c ≡ Some core → c < config.cores
  core_within c core is = let l = slice_get_within m.cores c core is in omega (arith, l, g.parts.cores)

  -- the part of a core is that of its history
  pub part_here : (c : ℕ) (core : CoreState) → slice_get m.cores c ≡ Some core → core_part config.chip (history_at w g.calls c) (slice_get m.cores c) ≡ part_of config.chip (history_at w g.calls c)
  part_here c core is =
      let h : History = history_at w g.calls c in
      ap (λ (o : Option CoreState). core_part config.chip h o) is
      ∙ ap (λ (k : CoreState). part_of config.chip (record { core = k; received = h.received; sent = h.sent })) (g.cores c core is)

  part_none : (c : ℕ) → config.cores ≤ c → core_part config.chip (history_at w g.calls c) (slice_get m.cores c) ≡ no_part
  part_none c l = ap (λ (o : Option CoreState). core_part config.chip (history_at w g.calls c) o) (core_none m.cores c (omega (arith, l, g.parts.cores)))

  -- a core that is there
  pub at_history : (c : ℕ) (P : CorePart → Type 0) → c < config.cores → P (part_of config.chip (history_at w g.calls c)) → P (core_part config.chip (history_at w g.calls c) (slice_get m.cores c))
  at_history c P l p = let x = there c l in subst P (sym (part_here c x.0 x.1)) p

  none_ever : (d : ℕ) → 9 ≤ d → ever_served config.chip g.admitted m.served d ≡ []
  none_ever d l =
      ap (λ (xs : List Served). xs ++ get_or m.served d []) (own_past config.chip d g.admitted l)
      ∙ get_or_past m.served d [] (omega (arith, l, g.parts.shaped.all_served))

  -- ---- rings

  sent_prefix : (c d : ℕ) → IsPrefix (requests_of (asked_by c (ever_served config.chip g.admitted m.served d))) (sent_to config.chip d (history_at w g.calls c).sent)
  sent_prefix c d =
      elim (cases_lt d 9) [
        | inl l ↦ (ring_of m.requests c d, g.requests c d l)
        | inr l ↦ subst (λ (xs : List Served). IsPrefix (requests_of (asked_by c xs)) (sent_to config.chip d (history_at w g.calls c).sent)) (sym (none_ever d l)) (sent_to config.chip d (history_at w g.calls c).sent, refl)
      ]

  nothing_sent : (c d : ℕ) → config.cores ≤ c → sent_to config.chip d (history_at w g.calls c).sent ≡ []
  unfolding after_calls
  nothing_sent c d l = ap (λ (calls : List Call). sent_to config.chip d (history_of w c calls).sent) (g.absent c l)

  to_destination : (c d : ℕ) → IsPrefix (requests_of (asked_by c (ever_served config.chip g.admitted m.served d))) ((core_part config.chip (history_at w g.calls c) (slice_get m.cores c)).sent d)
  to_destination c d =
      elim (cases_lt c config.cores) [
        | inl l ↦ at_history c (λ (p : CorePart). IsPrefix (requests_of (asked_by c (ever_served config.chip g.admitted m.served d))) (p.sent d)) l (sent_prefix c d)
        | inr l ↦
            subst (λ (p : CorePart). IsPrefix (requests_of (asked_by c (ever_served config.chip g.admitted m.served d))) (p.sent d)) (sym (part_none c l))
            (subst (λ (rs : List RequestData). IsPrefix (requests_of (asked_by c (ever_served config.chip g.admitted m.served d))) rs) (nothing_sent c d l) (sent_prefix c d))
      ]

  to_core : (c : ℕ) → IsPrefix (core_part config.chip (history_at w g.calls c) (slice_get m.cores c)).received (posts_from c 0 g.admitted)
  to_core c =
      elim (cases_lt c config.cores) [
        | inl l ↦ at_history c (λ (p : CorePart). IsPrefix p.received (posts_from c 0 g.admitted)) l (get_or m.replies c [], g.replies c l)
        | inr l ↦ subst (λ (p : CorePart). IsPrefix p.received (posts_from c 0 g.admitted)) (sym (part_none c l)) (posts_from c 0 g.admitted, refl)
      ]

  -- ---- parts

  core_is : (c : ℕ) → c < config.cores → IsCore w c (core_part config.chip (history_at w g.calls c) (slice_get m.cores c))
  core_is c l = at_history c (λ (p : CorePart). IsCore w c p) l (cores_keep_their_rule w c (g.calls c) runs.blocks runs.some_units (g.whole c))

  no_core : (c : ℕ) → config.cores ≤ c → IsNoCore (core_part config.chip (history_at w g.calls c) (slice_get m.cores c))
  no_core c l = subst (λ (p : CorePart). IsNoCore p) (sym (part_none c l)) (record { traces = refl; sent = λ d. refl })

  destination_is : (d : ℕ) → IsDestination w d (parts.destination d)
  destination_is d = record {
    order = λ named c. refl;
    rule = elim (cases_lt d 9) [
      | inl l ↦ g.served d l
      | inr l ↦ subst (λ (xs : List Served). AreServed config.chip d (destination_start w d) xs) (sym (none_ever d l)) tt
    ];
  }

  pub fits : Fit w parts
  fits = record {
    rings = record {
      to_destination = to_destination;
      to_crossbar = λ d. (get_or m.served d [], refl);
      to_core = to_core;
    };
    cores = core_is;
    no_cores = no_core;
    destinations = destination_is;
    crossbar = record {
      short = short;
      rule = λ named. record { log = g.log; admits = λ d. ([], append-nil (served_at config.chip d g.admitted)) };
      seen = g.seen;
      posts = λ c. refl;
    };
  }

  -- ---- what follows

  pub proper : (c : ℕ) → AreProper config.chip c (parts.core c).sent (parts.core c).received
  proper c = joins.proper_of w setup parts fits c

  pub keeps : (c : ℕ) → c < config.cores → KeepsRule w c (parts.core c)
  keeps c l = joins.kept w setup parts fits c l

  -- the same of the histories
  pub proper_here : (c : ℕ) → c < config.cores → AreProper config.chip c (λ d. sent_to config.chip d (history_at w g.calls c).sent) (history_at w g.calls c).received
  proper_here c l = let x = there c l in subst (λ (p : CorePart). AreProper config.chip c p.sent p.received) (part_here c x.0 x.1) (proper c)

  pub keeps_here : (c : ℕ) → c < config.cores → KeepsRule w c (part_of config.chip (history_at w g.calls c))
  keeps_here c l = let x = there c l in subst (λ (p : CorePart). KeepsRule w c p) (part_here c x.0 x.1) (keeps c l)
