-- The example fits, and is over.
use Rattle.std.proofs.Common.{◌≡◌, ℕ, zero, suc, ◌+◌, ◌*◌, ◌<◌, ◌≤◌, ◌==◌, inl, inr, Bool, true, false, cond, List, [], ◌∷◌, get_or, Option, Some, None, refl, ap, sym, ◌∙◌, subst, arith}
use Rattle.std.specs.List.{slice_get}
use Rattle.std.proofs.lemmas.Bool.{eq-eqb, ne_eqb}
use Rattle.t1_num.specs.declared.chip.ChipKind.TheVariants.{T1, T2}
use Rattle.t1_shape.specs.Slots.{Line, line_in}
use Rattle.t1_packet.specs.declared.cache.Cache.{Cache}
use Rattle.t1_packet.specs.declared.cache.Cache.TheVariants.{Dcache, Icache}
use Rattle.t1_packet.specs.declared.op.Op.TheVariants.{Fetch}
use Rattle.t1_packet.specs.declared.packet.Packet.{Packet}
use Rattle.t1_packet.specs.Data.{RequestData, ReplyData}
use Rattle.t1_packet.specs.Ops.{op_size}
use Rattle.t1_packet.specs.Caches.{layout, filled_line}
use Rattle.t1_event.specs.declared.item.Item.{Item}
use Rattle.t1_event.specs.declared.item.ItemKind.TheVariants as kind
use Rattle.t1_event.specs.declared.item.How.TheVariants as how
use Rattle.t1_event.specs.declared.report.Place.{Place}
use Rattle.t1_event.specs.declared.trace.Trace.{Trace}
use Rattle.t1_event.specs.Kinds.{IsAccess}
use Rattle.t1_event.specs.Items.{items_of}
use Rattle.t1_event.specs.Order.{Act, place_of}
use Rattle.t1_event.specs.Times.{at_of, index_of, IsPlaced}
use Rattle.t1_event.specs.Keys.{IsOrderByKeys}
use Rattle.t1_event.specs.Records.{op_of}
use Rattle.t1_event.specs.Posts.{no_lines}
use Rattle.t1_event.specs.Places.{IsMissing}
use Rattle.std.proofs.lemmas.List.{append-nil}
use Rattle.t1_packet.specs.declared.served.Served.{Served}
use Rattle.t1_packet.specs.Packets.{reply_to}
use Rattle.t1_event.specs.Log.{plain_op}
use Rattle.t1_event.specs.Posts.{no_pointers}
use Rattle.t1_shape.specs.Slots.{victim_of}
use Rattle.t1_packet.specs.Ops.{asked_way}
use Rattle.t1_joint.specs.Lists.{IsIn, AreDistinct, IsPrefix}
use Rattle.t1_joint.specs.Start.{start_in, bounds_in}
use Rattle.t1_joint.specs.Parts.{Out, Ended, strand_items, posts_from, requests_of, asked_by, served_at}
use Rattle.t1_joint.specs.Proper.{slots_after, pointers_after, l1_by, victim_by, IsTime}
use Rattle.t1_joint.specs.Waits.{HasItem}
use Rattle.t1_joint.specs.Rows.{RowIn}
use Rattle.t1_joint.specs.CoreRule.{IsMeant, SeenAscends, IsTraceSoFar, HasCome, HasAnswered, KeepsRule, IsCore}
use Rattle.t1_joint.specs.Fit.{AreRinged, IsDestination, IsCrossbar, IsNoCore, AreOver, traces_of}
use Rattle.t1_event.specs.declared.trace.Ending.TheVariants.{Spent}
use Rattle.t1_fit.specs.Laws.{FittingPartsExist}
use Rattle.t1_fit.specs.Example.{example_setup, fetched, last_state, fetch_placed, example_trace, asking_core, core_part, destination_part, example_parts, example_order}
use Rattle.t1_fit.proofs.Posts.{own_packet}
use Rattle.t1_fit.proofs.ExampleStrand.{stands}
use Rattle.t1_fit.proofs.ExampleAccess.{setup_is, may_ask, request_is, core_is, served_is, own_is, other_is, old_zero_is, own_among, the_reply, none_out, before_zero, none_line, first_way}

-- ---- the core

record IsTheItem (s i : ℕ) (x : Item) : Type 0 where
  strand : s ≡ 0
  number : i ≡ 0
  is : fetch_placed ≡ x

the_item : (s i : ℕ) (x : Item) → HasItem (strand_items asking_core s) i x → IsTheItem s i x
the_item zero zero x e = record { strand = refl; number = refl; is = let q : fetch_placed ≡ x = cc (e) in q }
the_item zero (suc i) x e = let clash : ◌≡◌ {A = Option Item} None (Some x) = e in cc
the_item (suc s) i x e = let clash : ◌≡◌ {A = Option Item} None (Some x) = e in cc

core_came : (s i index seen : ℕ) (x : Item) → HasItem (strand_items asking_core s) i x → x.how ≡ how.Commit index seen → HasCome asking_core.received s i index seen x
core_came s i index seen x h e =
    let t = the_item s i x h in
    let both : how.Commit 0 0 ≡ how.Commit index seen = ap (λ (v : Item). v.how) t.is ∙ e in
    let index_is : 0 ≡ index = ap index_of both in
    let seen_is : 0 ≡ seen = ap at_of both in
    record {
      packet = own_packet 0 fetched;
      reply = reply_to fetched;
      among = own_among;
      index_is = index_is;
      is = refl;
      strand_is = ap (λ (r : RequestData). r.strand) request_is ∙ sym t.strand;
      item_is = ap (λ (r : RequestData). r.item) request_is ∙ sym t.number;
      seen_is = ap (λ (r : RequestData). r.seen) request_is ∙ seen_is;
      size_is = ap (λ (r : RequestData). op_size r.op) request_is ∙ ap (λ (v : Item). v.size) t.is;
      op_is = ap (λ (r : RequestData). plain_op r.op fetched.old fetched.way) request_is ∙ ap (λ (v : Item). op_of v fetched.way v.kind) t.is;
      got = λ r. sym (ap (λ (v : Item). v.got) t.is) ∙ sym old_zero_is;
    }

core_answers : (q : Packet) (r : ReplyData) → IsIn q asking_core.received → q.reply ≡ Some r → HasAnswered asking_core q.index r
core_answers q r h e =
    let t = the_reply q r h e in
    let strand : r.strand ≡ 0 = sym (ap (λ (v : ReplyData). v.strand) t.reply) ∙ ap (λ (v : RequestData). v.strand) request_is in
    let item : r.item ≡ 0 = sym (ap (λ (v : ReplyData). v.item) t.reply) ∙ ap (λ (v : RequestData). v.item) request_is in
    let seen : r.seen ≡ 0 = sym (ap (λ (v : ReplyData). v.seen) t.reply) ∙ ap (λ (v : RequestData). v.seen) request_is in
    record {
      item = fetch_placed;
      has = subst (λ (s : ℕ). HasItem (strand_items asking_core s) r.item fetch_placed) (sym strand) (subst (λ (i : ℕ). HasItem (strand_items asking_core 0) i fetch_placed) (sym item) refl);
      access = refl;
      how = ap (λ (i : ℕ). how.Commit i 0) (sym t.index) ∙ ap (λ (s : ℕ). how.Commit q.index s) (sym seen);
    }

core_row : (s i : ℕ) (x : Item) → HasItem (strand_items asking_core s) i x → RowIn T1 65536 (l1_by T1 0 asking_core.received) (strand_items asking_core s) i x x.kind
core_row s i x h =
    let t = the_item s i x h in
    let start : l1_by T1 0 asking_core.received 0 Icache ≡ no_lines T1 Icache = ap (λ (ps : List Packet). slots_after T1 0 Icache (no_lines T1 Icache) ps) (before_zero asking_core.received) in
    let missing : IsMissing T1 Icache (l1_by T1 0 asking_core.received 0 Icache) fetch_placed = ap (λ (slots : List (Option Line)). line_in (layout T1 Icache) slots 0) start ∙ none_line 0 in
    subst (λ (v : Item). RowIn T1 65536 (l1_by T1 0 asking_core.received) (strand_items asking_core s) i v v.kind) t.is (omega arith, missing)

core_ways : (d : ℕ) (r : RequestData) (cache : Cache) (line : ℕ) → IsIn r (asking_core.sent d) → filled_line cache r.op ≡ Some line → asked_way r.op ≡ victim_by T1 0 asking_core.received r.seen cache line
core_ways zero r cache line (inl e) il =
    let P : RequestData → Type 0 = λ v. filled_line cache v.op ≡ Some line → asked_way v.op ≡ victim_by T1 0 asking_core.received v.seen cache line in
    subst P (sym e) (by cache) il
  where
    by : (cache : Cache) → filled_line cache (Fetch 0 0) ≡ Some line → 0 ≡ victim_by T1 0 asking_core.received 0 cache line
    by Dcache f = let clash : ◌≡◌ {A = Option ℕ} None (Some line) = f in cc
    by Icache f =
        sym (ap (λ (ps : List Packet). victim_of (layout T1 Icache) (slots_after T1 0 Icache (no_lines T1 Icache) ps) (pointers_after T1 Icache (no_pointers T1 Icache) ps) line) (before_zero asking_core.received)
        ∙ first_way line)
core_ways zero r cache line (inr h) il = absurd h
core_ways (suc d) r cache line h il = absurd h

core_meant : (d : ℕ) (r : RequestData) → IsIn r (asking_core.sent d) → IsMeant example_setup 0 d r
core_meant zero r (inl e) = subst (λ (v : RequestData). IsMeant example_setup 0 0 v) (sym e) (record { core_is = refl; strand_is = omega arith; dest_is = refl; asked = may_ask })
core_meant zero r (inr h) = absurd h
core_meant (suc d) r h = absurd h

sent_seen : (d : ℕ) (r : RequestData) → IsIn r (asking_core.sent d) → IsTime asking_core.received r.seen
sent_seen zero r (inl e) = inl (ap (λ (v : RequestData). v.seen) e)
sent_seen zero r (inr h) = absurd h
sent_seen (suc d) r h = absurd h

seen_ascends : (d : ℕ) → SeenAscends 0 (asking_core.sent d)
seen_ascends zero = (omega arith, tt)
seen_ascends (suc d) = tt

core_follows : (s : ℕ) (trace : Trace) → slice_get asking_core.traces s ≡ Some trace
    → IsTraceSoFar (bounds_in example_setup.config) (start_in example_setup.config 0 (0 * 1 + s)) last_state trace (Ended Spent)
core_follows zero trace e =
    let q : example_trace ≡ trace = cc (e) in
    subst (λ (v : Trace). IsTraceSoFar (bounds_in example_setup.config) (start_in example_setup.config 0 (0 * 1 + 0)) last_state v (Ended Spent)) q
    (record { replay = stands; units = refl; pc = refl; ending = refl })
core_follows (suc s) trace e = let clash : ◌≡◌ {A = Option Trace} None (Some trace) = e in cc

not_before : (s i j : ℕ) (x : Item) → HasItem (strand_items asking_core s) j x → i < j → ⊥
not_before s i j x h l = let t = the_item s j x h in omega (arith, l, t.number)

core_kept : KeepsRule example_setup 0 asking_core
core_kept = record {
  placed = core_came;
  replies = core_answers;
  out = λ d r h. absurd (subst (λ (l : List RequestData). IsIn r l) (none_out d) h);
  awaited = λ s r e. let clash : Ended Spent ≡ Out r = e in cc;
  stored = λ s r h. absurd h;
  distinct = λ d. subst (λ (l : List RequestData). AreDistinct l) (sym (none_out d)) tt;
  reads = λ s i x h r. let t = the_item s i x h in subst (λ (v : Item). IsPlaced v.how) t.is tt;
  stores = λ s i x h k u. let t = the_item s i x h in let clash : kind.Fetch ≡ kind.Store = ap (λ (v : Item). v.kind) t.is ∙ k in cc;
  waits = λ s i h. absurd h;
  ascends = seen_ascends;
  times = λ s i x h. let t = the_item s i x h in inl (sym (ap (λ (v : Item). at_of v.how) t.is));
  sent_times = sent_seen;
  order = λ s i j x y l hx hy p b. absurd (not_before s i j y hy l);
  store_order = λ s i j x y l hx hy a b p. absurd (not_before s i j y hy l);
  out_order = λ s i r x h. absurd h;
  rows = λ s i x h access. core_row s i x h;
  few = λ s i x h r. record { numbers = []; few = omega arith; all = λ k store held. absurd (let t = the_item s i x h in let l = held.earlier in omega (arith, l, t.number)) };
  ways = core_ways;
  follows = core_follows;
}

-- ---- all parts

rings : AreRinged example_parts
rings = record { to_destination = to_destination; to_crossbar = to_crossbar; to_core = to_core }
  where
    to_destination : (c d : ℕ) → IsPrefix ((destination_part d).received c) ((core_part c).sent d)
    to_destination zero zero = ([], refl)
    to_destination zero (suc d) = ([], refl)
    to_destination (suc c) zero = ([], refl)
    to_destination (suc c) (suc d) = ([], refl)

    to_crossbar : (d : ℕ) → IsPrefix (example_parts.crossbar.received d) (destination_part d).served
    to_crossbar zero = ([], refl)
    to_crossbar (suc d) = ([], refl)

    to_core : (c : ℕ) → IsPrefix (core_part c).received (posts_from c 0 (fetched ∷ []))
    to_core zero = ([], append-nil (posts_from 0 0 (fetched ∷ [])))
    to_core (suc c) = (posts_from (suc c) 0 (fetched ∷ []), refl)

destinations : (d : ℕ) → IsDestination example_setup d (destination_part d)
destinations zero = record { order = λ named c. asked_of c; rule = served_is }
  where
    asked_of : (c : ℕ) → requests_of (asked_by c (fetched ∷ [])) ≡ (destination_part 0).received c
    asked_of zero = (let t : (fetched.request.core == 0) ≡ true = eq-eqb fetched.request.core 0 core_is in ap (λ (b : Bool). requests_of (cond b (fetched ∷ []) [])) t) ∙ ap (λ (r : RequestData). r ∷ []) request_is
    asked_of (suc c) =
        let f : (fetched.request.core == suc c) ≡ false = ne_eqb fetched.request.core (suc c) (λ e. omega (arith, e, core_is)) in
        ap (λ (b : Bool). requests_of (cond b (fetched ∷ []) [])) f
destinations (suc d) = record { order = λ named c. refl; rule = tt }

crossbar : IsCrossbar example_setup example_parts.crossbar
crossbar = record {
  short = omega arith;
  rule = λ named. record { log = refl; admits = admits };
  seen = λ n a e. seen n a e;
  posts = λ c. refl;
}
  where
    admits : (d : ℕ) → IsPrefix (served_at T1 d (fetched ∷ [])) (example_parts.crossbar.received d)
    admits zero = ([], append-nil (served_at T1 0 (fetched ∷ [])) ∙ own_is)
    admits (suc d) = ([], append-nil (served_at T1 (suc d) (fetched ∷ [])) ∙ other_is d)

    seen : (n : ℕ) (a : Served) → slice_get (fetched ∷ []) n ≡ Some a → a.request.seen ≤ n
    seen zero a e = let q : fetched ≡ a = cc (e) in let s : a.request.seen ≡ 0 = ap (λ (v : Served). v.request.seen) (sym q) ∙ ap (λ (r : RequestData). r.seen) request_is in omega (arith, s)
    seen (suc n) a e = let clash : ◌≡◌ {A = Option Served} None (Some a) = e in cc

cores : (c : ℕ) → c < 1 → IsCore example_setup c (core_part c)
cores zero l = record { size = refl; meant = core_meant; kept = λ proper. core_kept }
cores (suc c) l = absurd (omega (arith, l))

no_cores : (c : ℕ) → 1 ≤ c → IsNoCore (core_part c)
no_cores zero l = absurd (omega (arith, l))
no_cores (suc c) l = record { traces = refl; sent = λ d. refl }

over : AreOver example_setup example_parts
over zero s lc ls = record { ending = Spent; is = refl; empty = refl }
over (suc c) s lc ls = absurd (omega (arith, lc))

-- ---- the order

abbrev example_items : List (List Item)
example_items = items_of (traces_of example_setup example_parts)

one_place : (s n : ℕ) (x : Item) → slice_get (get_or example_items s []) n ≡ Some x → (s ≡ 0) × (n ≡ 0)
one_place zero zero x e = (refl, refl)
one_place zero (suc n) x e = let clash : ◌≡◌ {A = Option Item} None (Some x) = e in cc
one_place (suc s) n x e = let clash : ◌≡◌ {A = Option Item} None (Some x) = e in cc

one_index : (k : ℕ) (p : Place) → slice_get example_order k ≡ Some p → k ≡ 0
one_index zero p e = refl
one_index (suc k) p e = let clash : ◌≡◌ {A = Option Place} None (Some p) = e in cc

listed : (k : ℕ) (p : Place) → slice_get example_order k ≡ Some p → (x : Act example_items) × IsAccess x.item.kind × (place_of x ≡ p)
listed zero p e =
    let x : Act example_items = record { strand = 0; number = 0; item = fetch_placed; stands = refl } in
    (x, refl, (let q : place_of x ≡ p = cc (e) in q))
listed (suc k) p e = let clash : ◌≡◌ {A = Option Place} None (Some p) = e in cc

ordered : IsOrderByKeys example_items example_order
ordered = record {
  listing = record {
    all = λ x access.
        let at = one_place x.strand x.number x.item x.stands in
        (0, ap (λ (s : ℕ). (let p : Place = record { strand = s; item = 0 } in Some p)) (sym at.0) ∙ ap (λ (n : ℕ). (let p : Place = record { strand = x.strand; item = n } in Some p)) (sym at.1));
    only = listed;
    once = λ j k p a b. one_index j p a ∙ sym (one_index k p b);
  };
  ascends = λ j k x y l a b. absurd (let e = one_index k (place_of y) b in omega (arith, l, e));
}

pub parts_exist : FittingPartsExist
parts_exist = (setup_is, record { rings = rings; cores = cores; no_cores = no_cores; destinations = destinations; crossbar = crossbar }, over, ordered)
