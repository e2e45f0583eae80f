-- Of parts that fit, at their end: each access has its place, in program order, and the log names it.
use Rattle.std.proofs.Common.{◌≡◌, ℕ, zero, suc, ◌+◌, ◌/◌, ◌%◌, ◌<◌, ◌≤◌, ◌==◌, not, inl, inr, Bool, true, false, List, [], ◌∷◌, ◌++◌, length, drop, Option, Some, None, refl, ap, sym, ◌∙◌, subst, arith, length-append}
use Rattle.std.specs.List.{slice_get}
use Rattle.std.proofs.lemmas.Bool.{eq-eqb}
use Rattle.t1_shape.specs.Shapes.{Shape}
use Rattle.t1_shape.specs.Slots.{Line}
use Rattle.t1_packet.specs.declared.cache.Cache.{Cache}
use Rattle.t1_packet.specs.declared.cache.Cache.TheVariants.{Dcache, Icache}
use Rattle.t1_packet.specs.Data.{RequestData}
use Rattle.t1_packet.specs.Ops.{op_dest}
use Rattle.t1_event.specs.declared.item.Item.{Item}
use Rattle.t1_event.specs.declared.item.ItemKind.{ItemKind}
use Rattle.t1_event.specs.declared.item.ItemKind.TheVariants as kind
use Rattle.t1_event.specs.declared.item.How.{How}
use Rattle.t1_event.specs.declared.item.How.TheVariants as how
use Rattle.t1_event.specs.declared.commit.Commit.{Commit}
use Rattle.t1_event.specs.Kinds.{IsRead, IsAccess}
use Rattle.t1_event.specs.Items.{Covers, byte_put, items_of}
use Rattle.t1_event.specs.Order.{Act, Earlier}
use Rattle.t1_event.specs.Times.{at_of, done_of, IsPlaced, IsCommit}
use Rattle.t1_event.specs.Log.{core_of}
use Rattle.t1_event.specs.Places.{cache_at, GotLine, IsMissing, IsHeld, NoneHeld, NoneOverlaps, IsForwarded, FetchPlaced, LoadPlaced, AtomicPlaced, Row, IsPlacedRightly}
use Rattle.t1_joint.specs.JointHistory.{Names, Naming, ProgramOrder, run_of}
use Rattle.std.proofs.lemmas.Nat.{div-add-mod'}
use Rattle.t1_packet.specs.declared.served.Served.{Served}
use Rattle.t1_packet.specs.Packets.{reply_to}
use Rattle.t1_joint.specs.Lists.{IsIn}
use Rattle.t1_joint.specs.Start.{Setup}
use Rattle.t1_joint.specs.Parts.{Out, Ended, Parts, strand_items, answered, unanswered}
use Rattle.t1_joint.specs.Proper.{l1_by, IsTime}
use Rattle.t1_joint.specs.Waits.{IsLate, WaitsFor, IsHeldIn}
use Rattle.t1_joint.specs.Rows.{NoneHeldIn, NoneOverlapsIn, IsForwardedIn, FetchRow, LoadRow, AtomicRow, StoreRow, RowIn}
use Rattle.t1_joint.specs.CoreRule.{SeenAscends}
use Rattle.t1_joint.specs.Fit.{Fit, AreOver, traces_from, traces_of}
use Rattle.t1_joint.specs.JointHistory.{IsSetup}
use Rattle.std.proofs.Math.Seq.{drop-append_seam}
use Rattle.t1_tso.proofs.Joint.{read_access, store_access}
use Rattle.t1_fit.proofs.Lists.{in_right}
use Rattle.t1_fit.proofs.Posts.{own_packet, mine}
use Rattle.t1_fit.proofs.Joins.{sent_is, right, kept, proper_of, admitted_sent, in_mine, came, caches_by}
use Rattle.t1_fit.proofs.Flat.{done_time, read_or_store, lifted, same_home}
use Rattle.t1_fit.proofs.Behind.{sizes, at_home, kept_at, logged_as, named, known, core_at, got_memory, got_io}

no_requests : (rs : List RequestData) → ((r : RequestData) → IsIn r rs → ⊥) → rs ≡ []
no_requests [] none = refl
no_requests (r ∷ rs) none = absurd (none r (inl refl))

placed_late : (t n s : ℕ) (h : How) → h ≡ how.Commit n s → IsLate t h → t < done_of h
placed_late t n s h e l =
    let q : t ≤ n = subst (λ (v : How). IsLate t v) e l in
    let d : done_of h ≡ n + 1 = ap done_of e in
    omega (arith, q, d)

late_placed : (t n s : ℕ) (h : How) → h ≡ how.Commit n s → t < done_of h → IsLate t h
late_placed t n s h e l =
    let d : done_of h ≡ n + 1 = ap done_of e in
    let q : t ≤ n = omega (arith, l, d) in
    subst (λ (v : How). IsLate t v) (sym e) q

not_unplaced : (h : How) → (h ≡ how.Unplaced → ⊥) → IsPlaced h
not_unplaced how.Unplaced not = not refl
not_unplaced (how.Forward t) not = tt
not_unplaced (how.Hit t) not = tt
not_unplaced (how.Commit n t) not = tt

-- ---- `seen` along the log

ascends_front : (low : ℕ) (xs ys : List RequestData) → SeenAscends low (xs ++ ys) → SeenAscends low xs
ascends_front low [] ys a = tt
ascends_front low (x ∷ xs) ys a = (a.0, ascends_front x.seen xs ys a.1)

seen_above : (low : ℕ) (rs : List RequestData) (r : RequestData) → SeenAscends low rs → IsIn r rs → low ≤ r.seen
seen_above low [] r a h = absurd h
seen_above low (x ∷ xs) r a (inl e) = let q : r.seen ≡ x.seen = ap (λ (v : RequestData). v.seen) e in omega (arith, q, a.0)
seen_above low (x ∷ xs) r a (inr h) = let l = seen_above x.seen xs r a.1 h in omega (arith, l, a.0)

seen_pairs : (shape : Shape) (c d low : ℕ) (all : List Served) (m n : ℕ) (a b : Served) → SeenAscends low (mine shape c d all) → m < n → slice_get all m ≡ Some a → slice_get all n ≡ Some b
    → a.request.core ≡ c → op_dest shape a.request.op ≡ d → b.request.core ≡ c → op_dest shape b.request.op ≡ d → a.request.seen ≤ b.request.seen
seen_pairs shape c d low [] m n a b s l ea eb ac ad bc bd = let clash : ◌≡◌ {A = Option Served} None (Some a) = ea in cc
seen_pairs shape c d low (x ∷ all) m zero a b s l ea eb ac ad bc bd = absurd (omega (arith, l))
seen_pairs shape c d low (x ∷ all) zero (suc n) a b s l ea eb ac ad bc bd =
    let q : x ≡ a = cc (ea) in
    let td : (op_dest shape x.request.op == d) ≡ true = eq-eqb (op_dest shape x.request.op) d (ap (λ (v : Served). op_dest shape v.request.op) q ∙ ad) in
    let tc : (x.request.core == c) ≡ true = eq-eqb x.request.core c (ap (λ (v : Served). v.request.core) q ∙ ac) in
    let first : mine shape c d (x ∷ all) ≡ x.request ∷ mine shape c d all = rw td (rw tc refl) in
    let s' : SeenAscends low (x.request ∷ mine shape c d all) = subst (λ (l : List RequestData). SeenAscends low l) first s in
    let le = seen_above x.request.seen (mine shape c d all) b.request s'.1 (in_mine shape c d all n b eb bc bd) in
    let e : x.request.seen ≡ a.request.seen = ap (λ (v : Served). v.request.seen) q in
    omega (arith, le, e)
seen_pairs shape c d low (x ∷ all) (suc m) (suc n) a b s l ea eb ac ad bc bd =
    by (op_dest shape x.request.op == d) (x.request.core == c) refl refl (λ low t. seen_pairs shape c d low all m n a b t (omega (arith, l)) ea eb ac ad bc bd)
  where
    by : (td tc : Bool) → (op_dest shape x.request.op == d) ≡ td → (x.request.core == c) ≡ tc → ((low : ℕ) → SeenAscends low (mine shape c d all) → a.request.seen ≤ b.request.seen) → a.request.seen ≤ b.request.seen
    by true true ed ec more =
        let first : mine shape c d (x ∷ all) ≡ x.request ∷ mine shape c d all = rw ed (rw ec refl) in
        let s' : SeenAscends low (x.request ∷ mine shape c d all) = subst (λ (l : List RequestData). SeenAscends low l) first s in
        more x.request.seen s'.1
    by true false ed ec more =
        let first : mine shape c d (x ∷ all) ≡ mine shape c d all = rw ed (rw ec refl) in
        more low (subst (λ (l : List RequestData). SeenAscends low l) first s)
    by false tc ed ec more =
        let first : mine shape c d (x ∷ all) ≡ mine shape c d all = rw ed refl in
        more low (subst (λ (l : List RequestData). SeenAscends low l) first s)

module _ (w : Setup) (setup : IsSetup w) (p : Parts) (f : Fit w p) where
  pub ascends : (m n : ℕ) (a b : Commit) → m < n → slice_get p.crossbar.log m ≡ Some a → slice_get p.crossbar.log n ≡ Some b → a.dest ≡ b.dest
      → core_of w.config.strands a ≡ core_of w.config.strands b → a.seen ≤ b.seen
  ascends m n a b l ia ib ed ec =
      let x = logged_as w setup p f m a ia in
      let y = logged_as w setup p f n b ib in
      let c : ℕ = x.0.request.core in
      let d : ℕ = op_dest w.config.chip x.0.request.op in
      let lc : c < w.config.cores = (right w setup p f m x.0 x.1).core in
      let pre = admitted_sent w setup p f c d in
      let up : SeenAscends 0 (mine w.config.chip c d p.crossbar.admitted) =
      ascends_front 0 (mine w.config.chip c d p.crossbar.admitted) pre.0 (subst (λ (rs : List RequestData). SeenAscends 0 rs) (sym pre.1) ((kept w setup p f c lc).ascends d)) in
      let yc : y.0.request.core ≡ c = sym (core_at w setup p f n y.0 b y.1 y.2) ∙ (sym ec ∙ core_at w setup p f m x.0 a x.1 x.2) in
      let yd : op_dest w.config.chip y.0.request.op ≡ d = sym (ap (λ (v : Commit). v.dest) y.2) ∙ (sym ed ∙ ap (λ (v : Commit). v.dest) x.2) in
      let le = seen_pairs w.config.chip c d 0 p.crossbar.admitted m n x.0 y.0 up l x.1 y.1 refl refl yc yd in
      let sa : a.seen ≡ x.0.request.seen = ap (λ (v : Commit). v.seen) x.2 in
      let sb : b.seen ≡ y.0.request.seen = ap (λ (v : Commit). v.seen) y.2 in
      omega (arith, le, sa, sb)

  module _ (over : AreOver w p) where
    -- no request is without a reply
    quiet : (c d : ℕ) → length (answered w.config.chip c d (p.core c).received) ≡ length ((p.core c).sent d)
    quiet c d =
        let pre = (proper_of w setup p f c).order d in
        let a : List RequestData = answered w.config.chip c d (p.core c).received in
        let rest : unanswered w.config.chip c (p.core c).sent (p.core c).received d ≡ pre.0 = ap (λ (l : List RequestData). drop (length a) l) (sym pre.1) ∙ drop-append_seam a pre.0 in
        let none : pre.0 ≡ [] = no_requests pre.0 (λ r h.
        let u : IsIn r (unanswered w.config.chip c (p.core c).sent (p.core c).received d) = subst (λ (l : List RequestData). IsIn r l) (sym rest) h in
        let s = sent_is w setup p f c d r (subst (λ (l : List RequestData). IsIn r l) pre.1 (in_right r a pre.0 h)) in
        let ended = over c r.strand s.small s.meant.strand_is in
        elim ((kept w setup p f c s.small).out d r u) [
          | inl e ↦ (let clash : Ended ended.ending ≡ Out r = sym ended.is ∙ e in cc)
          | inr q ↦ subst (λ (ks : List ℕ). IsIn r.item ks) ended.empty q.1
        ]) in
        let l = length-append a pre.0 in
        let z : length pre.0 ≡ 0 = ap (λ (l : List RequestData). length l) none in
        let e : length (a ++ pre.0) ≡ length ((p.core c).sent d) = ap (λ (l : List RequestData). length l) pre.1 in
        omega (arith, l, z, e)

    -- ---- naming

    names_item : (n : ℕ) (c : Commit) → slice_get p.crossbar.log n ≡ Some c → (x : Act (items_of (traces_from p.core 0 w.config.cores))) × IsAccess x.item.kind × Names c n x
    names_item n c is =
        let at = logged_as w setup p f n c is in
        let a : Served = at.0 in
        let core : ℕ = a.request.core in
        let m = right w setup p f n a at.1 in
        let there : IsIn (own_packet n a) (p.core core).received = came w setup p f quiet n a at.1 in
        let k = (kept w setup p f core m.core).replies (own_packet n a) (reply_to a) there refl in
        let x = lifted p.core w.config.cores w.config.strands setup.strands.0 (sizes w setup p f) core a.request.strand a.request.item k.item m.core m.strand k.has in (
          x.act,
          subst (λ (v : Item). IsAccess v.kind) (sym x.item) k.access,
          record {
            strand = ap (λ (v : Commit). v.strand) at.2 ∙ sym x.strand;
            item = ap (λ (v : Commit). v.item) at.2 ∙ sym x.number;
            how_is = ap (λ (v : Item). v.how) x.item ∙ (k.how ∙ ap (λ (v : Commit). how.Commit n v.seen) (sym at.2));
          },
        )

    -- each access has its place
    pub placed_at_end : (x : Act (items_of (traces_from p.core 0 w.config.cores))) → IsAccess x.item.kind → IsPlaced x.item.how
    placed_at_end x access =
        let h = at_home w setup p f x in
        let c : ℕ = x.strand / w.config.strands in
        let s : ℕ = x.strand % w.config.strands in
        let k = kept_at w setup p f x in
        elim (read_or_store x.item.kind access) [
          | inl r ↦ k.reads s x.number x.item h.has r
          | inr e ↦ not_unplaced x.item.how (λ u. subst (λ (ks : List ℕ). IsIn x.number ks) (over c s h.core_in h.strand_in).empty (k.stores s x.number x.item h.has e u))
        ]

    pub naming : Naming (run_of w (traces_of w p) p.crossbar.log)
    naming = record { placed = placed_at_end; named = named w setup p f; names = names_item }

    -- ---- program order

    waits_for : (x y : Act (items_of (traces_from p.core 0 w.config.cores))) → Earlier x y → IsAccess y.item.kind
        → WaitsFor (strand_items (p.core (y.strand / w.config.strands)) (y.strand % w.config.strands)) x.number x.item.kind y.number y.item.kind → done_of x.item.how ≤ at_of y.item.how
    waits_for x y e access binds =
        let h = at_home w setup p f y in
        let k = kept_at w setup p f y in
        done_time (at_of y.item.how) x.item.how
        (k.order (y.strand % w.config.strands) x.number y.number x.item y.item e.number (same_home p.core w.config.cores w.config.strands setup.strands.0 (sizes w setup p f) x y e.strand) h.has
        (placed_at_end y access) binds)

    -- a store's place is a commit
    record IsStored (y : Item) : Type 0 where
      n : ℕ
      t : ℕ
      how_is : y.how ≡ how.Commit n t

    stored_by : (item : Item) (h : How) → item.how ≡ h → IsPlaced h → StoreRow h → IsStored item
    stored_by item how.Unplaced e pl row = absurd pl
    stored_by item (how.Forward t) e pl row = absurd row
    stored_by item (how.Hit t) e pl row = absurd row
    stored_by item (how.Commit n t) e pl row = record { n = n; t = t; how_is = e }

    store_commit : (y : Act (items_of (traces_from p.core 0 w.config.cores))) → y.item.kind ≡ kind.Store → IsStored y.item
    store_commit y e =
        let h = at_home w setup p f y in
        let k = kept_at w setup p f y in
        let access = store_access y.item.kind e in
        let c : ℕ = y.strand / w.config.strands in
        let s : ℕ = y.strand % w.config.strands in
        let row = k.rows s y.number y.item h.has access in
        stored_by y.item y.item.how refl (placed_at_end y access)
        (subst (λ (v : ItemKind). RowIn w.config.chip w.config.ram (l1_by w.config.chip c (p.core c).received) (strand_items (p.core c) s) y.number y.item v) e row)

    pub program : ProgramOrder (run_of w (traces_of w p) p.crossbar.log)
    program = record {
      read = λ x y e r access. waits_for x y e access (inl (r, access));
      stores = λ x y e s t.
          let h = at_home w setup p f y in
          (kept_at w setup p f y).store_order (y.strand % w.config.strands) x.number y.number x.item y.item e.number
          (same_home p.core w.config.cores w.config.strands setup.strands.0 (sizes w setup p f) x y e.strand) h.has s t (placed_at_end y (store_access y.item.kind t));
      atomic = λ x y e s r wr. waits_for x y e (read_access y.item.kind r) (inr (inl (s, r, wr)));
      barrier = λ x b y e g s fence access.
          waits_for x y (record { strand = e.strand ∙ g.strand; number = let l = e.number in let r = g.number in omega (arith, l, r) }) access
          (inr (inr (
            s,
            record {
              number = b.number;
              item = b.item;
              after = e.number;
              before = g.number;
              has = same_home p.core w.config.cores w.config.strands setup.strands.0 (sizes w setup p f) b y g.strand;
              barrier = fence;
            },
            access,
          )));
    }

    -- ---- held stores

    -- a held store, as the strand sees it
    held_in : (x y : Act (items_of (traces_from p.core 0 w.config.cores))) → IsHeld x y
        → IsHeldIn (strand_items (p.core (x.strand / w.config.strands)) (x.strand % w.config.strands)) x.number (at_of x.item.how) y.number y.item
    held_in x y h =
        let s = store_commit y h.kind in
        record {
          earlier = h.earlier.number;
          has = same_home p.core w.config.cores w.config.strands setup.strands.0 (sizes w setup p f) y x h.earlier.strand;
          kind_is = h.kind;
          late = late_placed (at_of x.item.how) s.n s.t y.item.how s.how_is h.late;
        }

    -- and back
    record Back (x : Act (items_of (traces_from p.core 0 w.config.cores))) (i : ℕ) (y : Item) : Type 0 where
      act : Act (items_of (traces_from p.core 0 w.config.cores))
      number : act.number ≡ i
      item : act.item ≡ y
      held : IsHeld x act

    held_back : (x : Act (items_of (traces_from p.core 0 w.config.cores))) (i : ℕ) (y : Item)
        → IsHeldIn (strand_items (p.core (x.strand / w.config.strands)) (x.strand % w.config.strands)) x.number (at_of x.item.how) i y → Back x i y
    held_back x i y h =
        let hx = at_home w setup p f x in
        let g = lifted p.core w.config.cores w.config.strands setup.strands.0 (sizes w setup p f) (x.strand / w.config.strands) (x.strand % w.config.strands) i y hx.core_in hx.strand_in h.has in
        let kind_is : g.act.item.kind ≡ kind.Store = ap (λ (v : Item). v.kind) g.item ∙ h.kind_is in
        let s = store_commit g.act kind_is in
        record {
          act = g.act;
          number = g.number;
          item = g.item;
          held = record {
            earlier = record { strand = g.strand ∙ div-add-mod' x.strand w.config.strands; number = let e = h.earlier in let q = g.number in omega (arith, e, q) };
            kind = kind_is;
            late = placed_late (at_of x.item.how) s.n s.t g.act.item.how s.how_is (subst (λ (v : Item). IsLate (at_of x.item.how) v.how) (sym g.item) h.late);
          };
        }

    abbrev items : Act (items_of (traces_from p.core 0 w.config.cores)) → List Item
    items x = strand_items (p.core (x.strand / w.config.strands)) (x.strand % w.config.strands)

    none_held : (x : Act (items_of (traces_from p.core 0 w.config.cores))) (h : How) → x.item.how ≡ h → NoneHeldIn (items x) x.number (at_of h) → NoneHeld x
    none_held x h e none y held =
        let k = held_in x y held in
        subst (λ (v : How). NoneHeldIn (items x) x.number (at_of v)) (sym e) none y.number y.item k

    none_overlaps : (x : Act (items_of (traces_from p.core 0 w.config.cores))) (h : How) → x.item.how ≡ h → NoneOverlapsIn (items x) x.number (at_of h) x.item → NoneOverlaps x
    none_overlaps x h e none y held o =
        let k = held_in x y held in
        subst (λ (v : How). NoneOverlapsIn (items x) x.number (at_of v) x.item) (sym e) none y.number y.item k o

    forwarded : (x : Act (items_of (traces_from p.core 0 w.config.cores))) (h : How) → x.item.how ≡ h → IsForwardedIn (items x) x.number (at_of h) x.item → IsForwarded x
    forwarded x h e g' =
        let g : IsForwardedIn (items x) x.number (at_of x.item.how) x.item = subst (λ (v : How). IsForwardedIn (items x) x.number (at_of v) x.item) (sym e) g' in
        let b = held_back x g.number g.from g.held in
        record {
          from = b.act;
          held = b.held;
          last = λ y k o. let l = g.last y.number y.item (held_in x y k) o in let q = b.number in omega (arith, l, q);
          covers = λ a cv. subst (λ (v : Item). Covers v a) (sym b.item) (g.covers a cv);
          bytes = λ a cv. g.bytes a cv ∙ ap (λ (v : Item). byte_put v a) (sym b.item);
        }

    -- ---- places

    abbrev slots : Act (items_of (traces_from p.core 0 w.config.cores)) → ℕ → Cache → List (Option Line)
    slots x t cache = l1_by w.config.chip (x.strand / w.config.strands) (p.core (x.strand / w.config.strands)).received t cache

    slots_are : (x : Act (items_of (traces_from p.core 0 w.config.cores))) (h : How) (cache : Cache) → x.item.how ≡ h
        → slots x (at_of h) cache ≡ cache_at (run_of w (traces_of w p) p.crossbar.log) (x.strand / w.config.strands) cache (at_of h)
    slots_are x h cache e =
        caches_by w setup p f (x.strand / w.config.strands) (at_of h) cache (subst (λ (v : How). IsTime (p.core (x.strand / w.config.strands)).received (at_of v)) e (known w setup p f x))

    fetch_placed : (x : Act (items_of (traces_from p.core 0 w.config.cores))) (h : How) → x.item.how ≡ h → IsRead x.item.kind → x.item.addr < length w.image.ram
        → FetchRow w.config.chip (slots x) x.item h → FetchPlaced (run_of w (traces_of w p) p.crossbar.log) x h
    fetch_placed x how.Unplaced e r ram row = row
    fetch_placed x (how.Forward t) e r ram row = row
    fetch_placed x (how.Hit t) e r ram row = subst (λ (ls : List (Option Line)). GotLine w.config.chip Icache ls x.item) (slots_are x (how.Hit t) Icache e) row
    fetch_placed x (how.Commit n t) e r ram row =
        (subst (λ (ls : List (Option Line)). IsMissing w.config.chip Icache ls x.item) (slots_are x (how.Commit n t) Icache e) row, got_memory w setup p f x n t e r ram)

    within : {i : ℕ} → i < w.config.ram → i < length w.image.ram
    within {i} l = omega (arith, l, setup.ram)

    load_placed : (x : Act (items_of (traces_from p.core 0 w.config.cores))) (h : How) → x.item.how ≡ h → IsRead x.item.kind
        → LoadRow w.config.chip w.config.ram (slots x) (items x) x.number x.item h → LoadPlaced (run_of w (traces_of w p) p.crossbar.log) x h
    load_placed x how.Unplaced e r row = row
    load_placed x (how.Forward t) e r row = (within row.0, forwarded x (how.Forward t) e row.1)
    load_placed x (how.Hit t) e r row =
        (within row.0, none_overlaps x (how.Hit t) e row.1, subst (λ (ls : List (Option Line)). GotLine w.config.chip Dcache ls x.item) (slots_are x (how.Hit t) Dcache e) row.2)
    load_placed x (how.Commit n t) e r (inl row) =
        inl (within row.0, none_overlaps x (how.Commit n t) e row.1, subst (λ (ls : List (Option Line)). IsMissing w.config.chip Dcache ls x.item) (slots_are x (how.Commit n t) Dcache e) row.2, got_memory w setup p f x n t e r (within row.0))
    load_placed x (how.Commit n t) e r (inr row) = inr (row.0, none_held x (how.Commit n t) e row.1, got_io w setup p f x n t e r row.0)

    atomic_placed : (x : Act (items_of (traces_from p.core 0 w.config.cores))) (h : How) → x.item.how ≡ h → IsRead x.item.kind → x.item.addr < length w.image.ram
        → AtomicRow (items x) x.number h → AtomicPlaced (run_of w (traces_of w p) p.crossbar.log) x h
    atomic_placed x how.Unplaced e r ram row = row
    atomic_placed x (how.Forward t) e r ram row = row
    atomic_placed x (how.Hit t) e r ram row = row
    atomic_placed x (how.Commit n t) e r ram row = (none_held x (how.Commit n t) e row, got_memory w setup p f x n t e r ram)

    placed_as : (x : Act (items_of (traces_from p.core 0 w.config.cores))) (k : ItemKind) → x.item.kind ≡ k
        → RowIn w.config.chip w.config.ram (slots x) (items x) x.number x.item k → Row (run_of w (traces_of w p) p.crossbar.log) x k
    placed_as x kind.Fetch e row = (within row.0, fetch_placed x x.item.how refl (subst (λ (k : ItemKind). IsRead k) (sym e) refl) (within row.0) row.1)
    placed_as x kind.Load e row = load_placed x x.item.how refl (subst (λ (k : ItemKind). IsRead k) (sym e) refl) row
    placed_as x (kind.Atomic b) e row = (within row.0, atomic_placed x x.item.how refl (subst (λ (k : ItemKind). IsRead k) (sym e) refl) (within row.0) row.1)
    placed_as x kind.Store e row =
        let s = store_commit x e in
        subst (λ (v : How). IsCommit v) (sym s.how_is) tt
    placed_as x kind.Membar e row = tt
    placed_as x kind.Flush e row = tt

    pub placed_rightly : (x : Act (items_of (traces_from p.core 0 w.config.cores))) → IsAccess x.item.kind → IsPlacedRightly (run_of w (traces_of w p) p.crossbar.log) x
    placed_rightly x access =
        let h = at_home w setup p f x in
        let k = kept_at w setup p f x in
        record {
          row = placed_as x x.item.kind refl (k.rows (x.strand % w.config.strands) x.number x.item h.has access);
          few = λ r.
              let g = k.few (x.strand % w.config.strands) x.number x.item h.has r in
              record { numbers = g.numbers; few = g.few; all = λ y held. g.all y.number y.item (held_in x y held) };
        }
