-- Agents that are wired and tied, and keep their rules, are parts that fit.
use Rattle.std.proofs.Common.{◌≡◌, ℕ, zero, suc, ◌<◌, ◌≤◌, ◌==◌, true, List, [], ◌∷◌, ◌++◌, length, map, get_or, Option, Some, None, refl, ap, sym, ◌∙◌, subst, inl, inr, arith}
use Rattle.std.specs.List.{slice_get}
use Rattle.std.proofs.Math.Path.{fun_ext}
use Rattle.std.proofs.lemmas.Bool.{cases_Bool, cases_lt, eq-eqb}
use Rattle.std.proofs.lemmas.List.{get_or_past}
use Rattle.t1_shape.specs.Shapes.{Shape}
use Rattle.t1_shape.specs.Numbers.{destinations}
use Rattle.t1_packet.specs.declared.packet.Packet.{Packet}
use Rattle.t1_packet.specs.declared.served.Served.{Served}
use Rattle.t1_packet.specs.Data.{RequestData}
use Rattle.t1_packet.specs.Ops.{op_dest}
use Rattle.t1_event.specs.declared.commit.Commit.{Commit}
use Rattle.t1_joint.specs.Lists.{IsIn, IsPrefix}
use Rattle.t1_joint.specs.Start.{Setup}
use Rattle.t1_joint.specs.Parts.{CorePart, Parts, posts_from, served_at}
use Rattle.t1_joint.specs.CoreRule.{IsCore}
use Rattle.t1_joint.specs.Fit.{log_of, IsCrossbar, IsDestination, IsNoCore, Fit}
use Rattle.t1_fit.proofs.Lists.{slice_front}
use Rattle.t1_fit.proofs.Logs as logs
use Rattle.t1_received.specs.Requests.{sent_to}
use Rattle.t1_core_rule.specs.Parts.{part_of}
use Rattle.t1_core_rule.proofs.Onward.{history_rule}
use Rattle.t1_machine.proofs.Steps.{core_none}
use Rattle.t1_machine_rule.proofs.Lists.{slice_there}
use Rattle.t1_crew.specs.Id.{Id}
use Rattle.t1_crew.specs.Slots.{ids}
use Rattle.t1_live.specs.Rules.{Admission, accesses_of, come_from, record_of, held_of, IsCoreSide, IsDestinationSide, IsCrossbarSide}
use Rattle.t1_live.specs.Sides.{CoreSide, DestinationSide, CrossbarSide, core_id, destination_id, crossbar_id, CoreKeeps, DestinationKeeps, CrossbarKeeps}
use Rattle.t1_live.specs.Wires.{AreWired}
use Rattle.t1_live.specs.Whole.{core_part, destination_part, crossbar_part, parts_of, AreTied}

-- ---- lists

pub id_there : {A : Type 0} (id : A → Id) (xs : List A) (i : ℕ) (x : A) → slice_get xs i ≡ Some x → slice_get (ids id xs) i ≡ Some (id x)
id_there {A} id [] i x e = let clash : ◌≡◌ {A = Option A} None (Some x) = e in cc
id_there {A} id (y ∷ ys) zero x e = let q : y ≡ x = cc (e) in ap (λ (v : A). Some (id v)) q
id_there id (y ∷ ys) (suc i) x e = id_there id ys i x e

pub ids_length : {A : Type 0} (id : A → Id) (xs : List A) → length (ids id xs) ≡ length xs
ids_length id [] = refl
ids_length id (x ∷ xs) = ap suc (ids_length id xs)

within_any : {A : Type 0} (xs : List A) (i : ℕ) (x y : A) → i < length xs → get_or xs i x ≡ get_or xs i y
within_any [] i x y l = absurd (omega (arith, l))
within_any (z ∷ zs) zero x y l = refl
within_any (z ∷ zs) (suc i) x y l = within_any zs i x y (omega (arith, l))

-- ---- admissions, each of the destination that its access is for

abbrev AreOwn : Shape → List Admission → Type 0
AreOwn chip admissions = (admission : Admission) → IsIn admission admissions → op_dest chip admission.access.request.op ≡ admission.dest

log_is : (w : Setup) (admissions : List Admission) → AreOwn w.config.chip admissions → map (record_of w) admissions ≡ log_of w (accesses_of admissions)
log_is w [] own = refl
log_is w (x ∷ xs) own =
    let here : op_dest w.config.chip x.access.request.op ≡ x.dest = own x (inl refl) in
    ap (λ (d : ℕ). record_of w (record { dest = d; access = x.access }) ∷ map (record_of w) xs) (sym here)
    ∙ ap (λ (l : List Commit). logs.record_of w x.access ∷ l) (log_is w xs (λ y h. own y (inr h)))

served_is : (chip : Shape) (d : ℕ) (admissions : List Admission) → AreOwn chip admissions → served_at chip d (accesses_of admissions) ≡ come_from d admissions
served_is chip d [] own = refl
served_is chip d (x ∷ xs) own =
    let more = served_is chip d xs (λ y h. own y (inr h)) in
    let same : (op_dest chip x.access.request.op == d) ≡ (x.dest == d) = ap (λ (k : ℕ). k == d) (own x (inl refl)) in
    elim (cases_Bool (x.dest == d)) [
      | inl t ↦ rw (same ∙ t, t) (ap (λ (l : List Served). x.access ∷ l) more)
      | inr t ↦ rw (same ∙ t, t) more
    ]

come_in : (d : ℕ) (admissions : List Admission) (x : Admission) → IsIn x admissions → x.dest ≡ d → (i : ℕ) × (slice_get (come_from d admissions) i ≡ Some x.access)
come_in d [] x h e = absurd h
come_in d (y ∷ ys) x (inl q) e =
    let t : (y.dest == d) ≡ true = eq-eqb y.dest d (ap (λ (v : Admission). v.dest) (sym q) ∙ e) in
    rw t (0, ap (λ (v : Admission). Some v.access) (sym q))
come_in d (y ∷ ys) x (inr h) e =
    let more = come_in d ys x h e in
    elim (cases_Bool (y.dest == d)) [
      | inl t ↦ rw t (suc more.0, more.1)
      | inr t ↦ rw t more
    ]

-- ---- each keeps its rule, as a part of the run

pub core_here : (w : Setup) (cores : List CoreSide) (dests : List Id) (crossbar : Id) → AreWired w (ids core_id cores) dests crossbar → (c : ℕ) (core : CoreSide) → slice_get cores c ≡ Some core → CoreKeeps core
    → IsCoreSide w c core.core core.sent core.received
core_here w cores dests crossbar wired c core is k =
    let at = wired.core_is c (core_id core) (id_there core_id cores c core is) in
    subst (λ (v : Setup). IsCoreSide v c core.core core.sent core.received) at.0 (subst (λ (n : ℕ). IsCoreSide core.setup n core.core core.sent core.received) at.1 k)

pub dest_here : (w : Setup) (cores : List Id) (dests : List DestinationSide) (crossbar : Id) → AreWired w cores (ids destination_id dests) crossbar → (d : ℕ) (dest : DestinationSide) → slice_get dests d ≡ Some dest
    → DestinationKeeps dest → IsDestinationSide w d dest.bank dest.received dest.served
dest_here w cores dests crossbar wired d dest is k =
    let at = wired.dest_is d (destination_id dest) (id_there destination_id dests d dest is) in
    subst (λ (v : Setup). IsDestinationSide v d dest.bank dest.received dest.served) at.0
    (subst (λ (n : ℕ). IsDestinationSide dest.setup n dest.bank dest.received dest.served) (let e = at.1 in omega (arith, e)) k)

pub crossbar_here : (w : Setup) (cores dests : List Id) (crossbar : CrossbarSide) → AreWired w cores dests (crossbar_id crossbar) → CrossbarKeeps crossbar
    → IsCrossbarSide w crossbar.xbar crossbar.held crossbar.received crossbar.posted
crossbar_here w cores dests crossbar wired k = subst (λ (v : Setup). IsCrossbarSide v crossbar.xbar crossbar.held crossbar.received crossbar.posted) wired.crossbar_is k

-- ---- the rule of a core, of its own state and ends

with_sent : (w : Setup) (c : ℕ) (p : CorePart) (before now : ℕ → List RequestData) → before ≡ now → IsCore w c (record p { sent = before }) → IsCore w c (record p { sent = now })
with_sent w c p before now e k = subst (λ (s : ℕ → List RequestData). IsCore w c (record p { sent = s })) e k

pub core_rule : (side : CoreSide) → CoreKeeps side → IsCore side.setup side.number (core_part (Some side))
core_rule side k =
    let w : Setup = side.setup in
    with_sent w side.number (part_of w.config.chip (record { core = side.core; received = side.received; sent = [] })) (λ d. sent_to w.config.chip d k.requests) (λ d. get_or side.sent d [])
    (fun_ext (λ d. sym (k.each d)))
    (history_rule w side.number (record { core = side.core; received = side.received; sent = k.requests }) k.runs.blocks k.runs.some_units k.history)

-- ---- the rule of the crossbar

module _ (w : Setup) (crossbar : CrossbarSide) (k : IsCrossbarSide w crossbar.xbar crossbar.held crossbar.received crossbar.posted) where
  own : ((d i : ℕ) (a : Served) → slice_get (get_or crossbar.received d []) i ≡ Some a → op_dest w.config.chip a.request.op ≡ d) → AreOwn w.config.chip k.admissions
  own named x h =
      let at = come_in x.dest k.admissions x h refl in
      named x.dest at.0 x.access (subst (λ (l : List Served). slice_get l at.0 ≡ Some x.access) (k.came x.dest) (slice_front (come_from x.dest k.admissions) _ at.0 x.access at.1))

  posts_are : (c : ℕ) → get_or crossbar.posted c (posts_from c 0 (accesses_of k.admissions)) ≡ posts_from c 0 (accesses_of k.admissions)
  posts_are c =
      let ends = k.all_ends in
      elim (cases_lt c (length crossbar.posted)) [
        | inl l ↦ within_any crossbar.posted c (posts_from c 0 (accesses_of k.admissions)) [] l ∙ k.posts c (omega (arith, l, ends))
        | inr past ↦ get_or_past crossbar.posted c (posts_from c 0 (accesses_of k.admissions)) past
      ]

  log_here : AreOwn w.config.chip k.admissions → crossbar.xbar.log ≡ log_of w (accesses_of k.admissions)
  log_here o = k.log ∙ log_is w k.admissions o

  pub crossbar_rule : IsCrossbar w (crossbar_part crossbar k.admissions)
  crossbar_rule = record {
    short = k.short;
    rule = λ named.
        let o = own named in
        record { log = log_here o; admits = λ d. (held_of (get_or crossbar.held d None), ap (λ (l : List Served). l ++ held_of (get_or crossbar.held d None)) (served_is w.config.chip d k.admissions o) ∙ k.came d) };
    seen = k.seen;
    posts = posts_are;
  }

-- ---- the parts

module _ (w : Setup) (cores : List CoreSide) (dests : List DestinationSide) (crossbar : CrossbarSide)
    (wired : AreWired w (ids core_id cores) (ids destination_id dests) (crossbar_id crossbar)) (full : length cores ≡ w.config.cores) (tied : AreTied cores dests crossbar)
    (core_keeps : (c : ℕ) (core : CoreSide) → slice_get cores c ≡ Some core → CoreKeeps core)
    (dest_keeps : (d : ℕ) (dest : DestinationSide) → slice_get dests d ≡ Some dest → DestinationKeeps dest) (k : CrossbarKeeps crossbar)
    (dest_ends : (d : ℕ) (dest : DestinationSide) → slice_get dests d ≡ Some dest → length dest.received ≡ length dest.from) where
  abbrev parts : Parts
  parts = parts_of cores dests crossbar k.admissions

  all_there : length dests ≡ destinations w.config.chip
  all_there = sym (ids_length destination_id dests) ∙ wired.all_dests

  -- what came from a core that is not there is nothing
  none_from : (c d : ℕ) (dest : DestinationSide) → slice_get dests d ≡ Some dest → length cores ≤ c → get_or dest.received c [] ≡ []
  none_from c d dest is l =
      let ends = dest_ends d dest is in
      let from = wired.dest_from d (destination_id dest) (id_there destination_id dests d dest is) in
      get_or_past dest.received c [] (omega (arith, ends, from, full, l))

  -- ---- rings

  to_destination : (c d : ℕ) → IsPrefix ((destination_part (slice_get dests d)).received c) ((core_part (slice_get cores c)).sent d)
  to_destination c d =
      elim (cases_lt d (length dests)) [
        | inr past ↦
            subst (λ (o : Option DestinationSide). IsPrefix ((destination_part o).received c) ((core_part (slice_get cores c)).sent d)) (sym (core_none dests d past)) ((core_part (slice_get cores c)).sent d, refl)
        | inl in_dests ↦
            let y = slice_there dests d in_dests in
            subst (λ (o : Option DestinationSide). IsPrefix ((destination_part o).received c) ((core_part (slice_get cores c)).sent d)) (sym y.1)
            (elim (cases_lt c (length cores)) [
              | inl in_cores ↦
                  let x = slice_there cores c in_cores in
                  subst (λ (o : Option CoreSide). IsPrefix (get_or y.0.received c []) ((core_part o).sent d)) (sym x.1) (tied.to_destination c d x.0 y.0 x.1 y.1)
              | inr past ↦
                  subst (λ (o : Option CoreSide). IsPrefix (get_or y.0.received c []) ((core_part o).sent d)) (sym (core_none cores c past))
                  (subst (λ (l : List RequestData). IsPrefix l []) (sym (none_from c d y.0 y.1 past)) ([], refl))
            ])
      ]

  to_crossbar : (d : ℕ) → IsPrefix (get_or crossbar.received d []) (destination_part (slice_get dests d)).served
  to_crossbar d =
      elim (cases_lt d (length dests)) [
        | inl in_dests ↦
            let y = slice_there dests d in_dests in
            subst (λ (o : Option DestinationSide). IsPrefix (get_or crossbar.received d []) (destination_part o).served) (sym y.1) (tied.to_crossbar d y.0 y.1)
        | inr past ↦
            let all = (crossbar_here w _ _ crossbar wired k).all_received in
            let none : get_or crossbar.received d [] ≡ [] = get_or_past crossbar.received d [] (omega (arith, past, all, all_there)) in
            subst (λ (o : Option DestinationSide). IsPrefix (get_or crossbar.received d []) (destination_part o).served) (sym (core_none dests d past))
            (subst (λ (l : List Served). IsPrefix l []) (sym none) ([], refl))
      ]

  to_core : (c : ℕ) → IsPrefix (core_part (slice_get cores c)).received (get_or crossbar.posted c (posts_from c 0 (accesses_of k.admissions)))
  to_core c =
      elim (cases_lt c (length cores)) [
        | inl in_cores ↦
            let x = slice_there cores c in_cores in
            let ends = (crossbar_here w _ _ crossbar wired k).all_ends in
            subst (λ (o : Option CoreSide). IsPrefix (core_part o).received (get_or crossbar.posted c (posts_from c 0 (accesses_of k.admissions)))) (sym x.1)
            (subst (λ (l : List Packet). IsPrefix x.0.received l) (within_any crossbar.posted c [] (posts_from c 0 (accesses_of k.admissions)) (omega (arith, in_cores, full, ends))) (tied.to_core c x.0 x.1))
        | inr past ↦
            subst (λ (o : Option CoreSide). IsPrefix (core_part o).received (get_or crossbar.posted c (posts_from c 0 (accesses_of k.admissions)))) (sym (core_none cores c past))
            (get_or crossbar.posted c (posts_from c 0 (accesses_of k.admissions)), refl)
      ]

  -- ---- cores

  core_is : (c : ℕ) → c < w.config.cores → IsCore w c (core_part (slice_get cores c))
  core_is c l =
      let x = slice_there cores c (omega (arith, l, full)) in
      let side : CoreSide = x.0 in
      let at = wired.core_is c (core_id side) (id_there core_id cores c side x.1) in
      let rule : IsCore side.setup side.number (core_part (Some side)) = core_rule side (core_keeps c side x.1) in
      subst (λ (o : Option CoreSide). IsCore w c (core_part o)) (sym x.1)
      (subst (λ (v : Setup). IsCore v c (core_part (Some side))) at.0 (subst (λ (n : ℕ). IsCore side.setup n (core_part (Some side))) at.1 rule))

  no_core : (c : ℕ) → w.config.cores ≤ c → IsNoCore (core_part (slice_get cores c))
  no_core c l = subst (λ (o : Option CoreSide). IsNoCore (core_part o)) (sym (core_none cores c (omega (arith, l, full)))) (record { traces = refl; sent = λ d. refl })

  -- ---- destinations

  destination_is : (d : ℕ) → IsDestination w d (destination_part (slice_get dests d))
  destination_is d =
      elim (cases_lt d (length dests)) [
        | inl in_dests ↦
            let y = slice_there dests d in_dests in
            subst (λ (o : Option DestinationSide). IsDestination w d (destination_part o)) (sym y.1) (dest_here w _ dests _ wired d y.0 y.1 (dest_keeps d y.0 y.1)).part
        | inr past ↦ subst (λ (o : Option DestinationSide). IsDestination w d (destination_part o)) (sym (core_none dests d past)) (record { order = λ named c. refl; rule = tt })
      ]

  pub fits : Fit w parts
  fits = record {
    rings = record { to_destination = to_destination; to_crossbar = to_crossbar; to_core = to_core };
    cores = core_is;
    no_cores = no_core;
    destinations = destination_is;
    crossbar = subst (λ (v : Setup). IsCrossbar v (crossbar_part crossbar k.admissions)) wired.crossbar_is (crossbar_rule crossbar.setup crossbar k);
  }
