-- The crossbar keeps its rule, where it takes an access and where it admits one.
use Rattle.std.proofs.Common.{◌≡◌, ℕ, ◌+◌, ◌<◌, ◌≤◌, ◌==◌, Bool, true, false, is_some, cond, List, [], ◌∷◌, ◌++◌, length, set, get_or, Option, Some, None, refl, ap, sym, ◌∙◌, subst, inl, inr, arith, length-append}
use Rattle.std.specs.List.{slice_get}
use Rattle.std.proofs.lemmas.Bool.{cases_eq, eq-eqb, ne_eqb}
use Rattle.std.proofs.lemmas.List.{append-nil, length-map, length-set, map-append, get_or-set_same, get_or-set_other}
use Rattle.std.proofs.lemmas.List.Elements.{filter-append}
use Rattle.t1_shape.specs.Numbers.{destinations}
use Rattle.t1_packet.specs.declared.packet.Packet.{Packet}
use Rattle.t1_packet.specs.declared.served.Served.{Served}
use Rattle.t1_packet.specs.Packets.{packet_to}
use Rattle.t1_event.specs.declared.commit.Commit.{Commit}
use Rattle.t1_event.specs.Log.{commit_of}
use Rattle.t1_joint.specs.Start.{Setup}
use Rattle.t1_joint.specs.Parts.{posted_before, posts_from}
use Rattle.t1_fit.proofs.Posts.{posts-append}
use Rattle.t1_xbar.specs.declared.admitted.Post.{Post}
use Rattle.t1_xbar.specs.Admission as xbar
use Rattle.t1_xbar.specs.Admission.{XbarState, with_record}
use Rattle.t1_machine.specs.Machine.{posts_pushed}
use Rattle.t1_machine.specs.Start.{IsRunnable}
use Rattle.t1_machine_rule.proofs.Lists.{slice_push}
use Rattle.t1_machine_rule.proofs.Rings.{posts_at, length-posts_pushed}
use Rattle.t1_ring.specs.Row.{AreUnused, with_more}
use Rattle.t1_live.specs.Rules.{Admission, accesses_of, come_from, record_of, held_of, IsCrossbarSide}

-- ---- at the start

pub crossbar_begins : (w : Setup) (x : XbarState) (most : ℕ) (held : List (Option Served)) (received : List (List Served)) (posted : List (List Packet)) → IsRunnable w
    → x ≡ record { log = []; room = most; cores = w.config.cores; strands = w.config.strands } → length held ≡ destinations w.config.chip → ((d : ℕ) → get_or held d None ≡ None)
    → length received ≡ destinations w.config.chip → AreUnused received → length posted ≡ w.config.cores → AreUnused posted → IsCrossbarSide w x held received posted
crossbar_begins w x most held received posted runs is held_all none all unused ends sent = record {
  runs = runs;
  cores = ap (λ (y : XbarState). y.cores) is;
  strands = ap (λ (y : XbarState). y.strands) is;
  all_ends = ends;
  all_held = held_all;
  all_received = all;
  short = (let e = ap (λ (y : XbarState). length y.log) is in omega (arith, e));
  admissions = [];
  log = ap (λ (y : XbarState). y.log) is;
  came = λ d. ap held_of (none d) ∙ sym (unused d);
  seen = λ n access e. absurd (let clash : ◌≡◌ {A = Option Served} None (Some access) = e in cc);
  posts = λ c l. sent c;
}

-- more room for the log
pub crossbar_reserves : (w : Setup) (x y : XbarState) (held : List (Option Served)) (received : List (List Served)) (posted : List (List Packet)) (room : ℕ) → y ≡ record x { room = room }
    → IsCrossbarSide w x held received posted → IsCrossbarSide w y held received posted
crossbar_reserves w x y held received posted room is k =
    let now : IsCrossbarSide w (record x { room = room }) held received posted = record {
      runs = k.runs;
      cores = k.cores;
      strands = k.strands;
      all_ends = k.all_ends;
      all_held = k.all_held;
      all_received = k.all_received;
      short = k.short;
      admissions = k.admissions;
      log = k.log;
      came = k.came;
      seen = k.seen;
      posts = k.posts;
    } in
    subst (λ (z : XbarState). IsCrossbarSide w z held received posted) (sym is) now

-- ---- an access comes, and is held

pub crossbar_fetches : (w : Setup) (x : XbarState) (held : List (Option Served)) (received more : List (List Served)) (posted : List (List Packet)) (d : ℕ) (a : Served)
    → d < destinations w.config.chip → get_or held d None ≡ None → more ≡ with_more received d a → IsCrossbarSide w x held received posted → IsCrossbarSide w x (set held d (Some a)) more posted
crossbar_fetches w x held received more posted d a low none is k =
    let now : IsCrossbarSide w x (set held d (Some a)) (with_more received d a) posted = record {
      runs = k.runs;
      cores = k.cores;
      strands = k.strands;
      all_ends = k.all_ends;
      all_held = length-set held d (Some a) ∙ k.all_held;
      all_received = length-set received d (get_or received d [] ++ a ∷ []) ∙ k.all_received;
      short = k.short;
      admissions = k.admissions;
      log = k.log;
      came = came_now;
      seen = k.seen;
      posts = k.posts;
    } in
    subst (λ (l : List (List Served)). IsCrossbarSide w x (set held d (Some a)) l posted) (sym is) now
  where
    came_now : (e : ℕ) → come_from e k.admissions ++ held_of (get_or (set held d (Some a)) e None) ≡ get_or (with_more received d a) e []
    came_now e =
        elim (cases_eq e d) [
          | inl s ↦
              let here : come_from d k.admissions ++ held_of (get_or (set held d (Some a)) d None) ≡ get_or (with_more received d a) d [] =
              ap (λ (o : Option Served). come_from d k.admissions ++ held_of o) (get_or-set_same held d (Some a) None (let l = k.all_held in omega (arith, l, low)))
              ∙ (ap (λ (l : List Served). l ++ a ∷ []) (sym (append-nil (come_from d k.admissions)) ∙ (ap (λ (o : Option Served). come_from d k.admissions ++ held_of o) (sym none) ∙ k.came d))
              ∙ sym (get_or-set_same received d (get_or received d [] ++ a ∷ []) [] (let l = k.all_received in omega (arith, l, low)))) in
              subst (λ (j : ℕ). come_from j k.admissions ++ held_of (get_or (set held d (Some a)) j None) ≡ get_or (with_more received d a) j []) (sym s) here
          | inr ns ↦
              ap (λ (o : Option Served). come_from e k.admissions ++ held_of o) (get_or-set_other held d e (Some a) None ns)
              ∙ (k.came e ∙ sym (get_or-set_other received d e (get_or received d [] ++ a ∷ []) [] ns))
        ]

-- ---- an access is admitted

module _ (w : Setup) (x : XbarState) (held : List (Option Served)) (received : List (List Served)) (posted : List (List Packet)) (d : ℕ) (a : Served)
    (low : d < destinations w.config.chip) (some : get_or held d None ≡ Some a) (room : length x.log < 4294967295) (past : a.request.seen ≤ length x.log) (k : IsCrossbarSide w x held received posted) where
  abbrev new : Admission
  new = record { dest = d; access = a }

  abbrev admissions : List Admission
  admissions = k.admissions ++ new ∷ []

  size : length (accesses_of k.admissions) ≡ length x.log
  size =
      length-map k.admissions (λ (y : Admission). y.access)
      ∙ sym (ap (λ (l : List Commit). length l) k.log ∙ length-map k.admissions (record_of w))

  accesses_more : accesses_of admissions ≡ accesses_of k.admissions ++ a ∷ []
  accesses_more = map-append (λ (y : Admission). y.access) k.admissions (new ∷ [])

  come_more : (e : ℕ) → come_from e admissions ≡ come_from e k.admissions ++ accesses_of (cond (d == e) (new ∷ []) [])
  come_more e =
      ap accesses_of (filter-append (λ (y : Admission). y.dest == e) k.admissions (new ∷ []))
      ∙ map-append (λ (y : Admission). y.access) _ (cond (d == e) (new ∷ []) [])

  came_now : (e : ℕ) → come_from e admissions ++ held_of (get_or (set held d None) e None) ≡ get_or received e []
  came_now e =
      let before : List Served = come_from e k.admissions in
      let rest : List Served = held_of (get_or (set held d None) e None) in
      elim (cases_eq e d) [
        | inl s ↦
            let t : (d == e) ≡ true = eq-eqb d e (sym s) in
            let none : get_or (set held d None) e None ≡ None =
            ap (λ (j : ℕ). get_or (set held d None) j None) s ∙ get_or-set_same held d None None (let l = k.all_held in omega (arith, l, low)) in
            ap (λ (l : List Served). l ++ rest) (come_more e ∙ ap (λ (b : Bool). before ++ accesses_of (cond b (new ∷ []) [])) t)
            ∙ (ap (λ (o : Option Served). (before ++ a ∷ []) ++ held_of o) none
            ∙ (append-nil (before ++ a ∷ [])
            ∙ (ap (λ (o : Option Served). before ++ held_of o) (sym (ap (λ (j : ℕ). get_or held j None) s ∙ some)) ∙ k.came e)))
        | inr ns ↦
            let t = ne_eqb d e (λ q. ns (sym q)) in
            ap (λ (l : List Served). l ++ rest) (come_more e ∙ (ap (λ (b : Bool). before ++ accesses_of (cond b (new ∷ []) [])) t ∙ append-nil before))
            ∙ (ap (λ (o : Option Served). before ++ held_of o) (get_or-set_other held d e None None ns) ∙ k.came e)
      ]

  seen_now : (n : ℕ) (y : Served) → slice_get (accesses_of admissions) n ≡ Some y → y.request.seen ≤ n
  seen_now n y h =
      elim (slice_push (accesses_of k.admissions) a n y (ap (λ (l : List Served). slice_get l n) (sym accesses_more) ∙ h)) [
        | inl p ↦ k.seen n y p
        | inr p ↦ (let s : a.request.seen ≡ y.request.seen = ap (λ (v : Served). v.request.seen) p.1 in omega (arith, s, p.0, past, size))
      ]

  abbrev posts : List Post
  posts = xbar.posts_from (length x.log) a 0 x.cores

  posts_now : (c : ℕ) → c < w.config.cores → get_or (posts_pushed posts posted) c [] ≡ posts_from c 0 (accesses_of admissions)
  posts_now c l =
      let n : ℕ = length x.log in
      let more : List Packet = posted_before (packet_to c n a) [] in
      let zn : n ≡ 0 + length (accesses_of k.admissions) = omega (arith, size) in
      posts_at n a x.cores posted c (let q = k.cores in omega (arith, l, q)) (let q = k.all_ends in let z = k.cores in omega (arith, q, z))
      ∙ (ap (λ (ps : List Packet). ps ++ more) (k.posts c l)
      ∙ (ap (λ (j : ℕ). posts_from c 0 (accesses_of k.admissions) ++ posted_before (packet_to c j a) []) zn
      ∙ (sym (posts-append c 0 (accesses_of k.admissions) (a ∷ [])) ∙ ap (λ (l : List Served). posts_from c 0 l) (sym accesses_more))))

  admits_one : IsCrossbarSide w (with_record x d a) (set held d None) received (posts_pushed posts posted)
  admits_one = record {
    runs = k.runs;
    cores = k.cores;
    strands = k.strands;
    all_ends = length-posts_pushed posts posted ∙ k.all_ends;
    all_held = length-set held d None ∙ k.all_held;
    all_received = k.all_received;
    short = (let e = length-append x.log (commit_of x.strands d a ∷ []) in omega (arith, e, room));
    admissions = admissions;
    log = ap (λ (n : ℕ). x.log ++ commit_of n d a ∷ []) k.strands ∙ (ap (λ (l : List Commit). l ++ record_of w new ∷ []) k.log ∙ sym (map-append (record_of w) k.admissions (new ∷ [])));
    came = came_now;
    seen = seen_now;
    posts = posts_now;
  }

pub crossbar_admits : (w : Setup) (x after : XbarState) (held : List (Option Served)) (received : List (List Served)) (posted sent : List (List Packet)) (d : ℕ) (a : Served) (made : List Post)
    → d < destinations w.config.chip → get_or held d None ≡ Some a → length x.log < 4294967295 → a.request.seen ≤ length x.log → xbar.posts_from (length x.log) a 0 x.cores ≡ made → after ≡ with_record x d a
    → sent ≡ posts_pushed made posted → IsCrossbarSide w x held received posted → IsCrossbarSide w after (set held d None) received sent
crossbar_admits w x after held received posted sent d a made low some room past are is pushed k =
    subst (λ (z : XbarState). IsCrossbarSide w z (set held d None) received sent) (sym is)
    (subst (λ (l : List (List Packet)). IsCrossbarSide w (with_record x d a) (set held d None) received l) (sym (pushed ∙ ap (λ (ps : List Post). posts_pushed ps posted) (sym are)))
    (admits_one w x held received posted d a low some room past k))

pub none_is : {A : Type 0} (o : Option A) → is_some o ≡ false → o ≡ None
none_is None e = refl
none_is (Some x) e = let clash : ◌≡◌ {A = Bool} true false = e in cc
