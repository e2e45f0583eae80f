-- Of parts that fit, at any time: what was admitted is as cores asked it, and what each core received is proper.
use Rattle.std.proofs.Common.{◌≡◌, ℕ, zero, suc, ◌+◌, ◌<◌, ◌==◌, inl, inr, Bool, true, false, cond, List, [], ◌∷◌, ◌++◌, length, take, Option, Some, None, refl, ap, sym, ◌∙◌, subst, arith, length-append}
use Rattle.std.specs.List.{slice_get, filter}
use Rattle.std.proofs.lemmas.Bool.{cases_lt, cases_Bool, eq-eqb, eqb-true}
use Rattle.t1_shape.specs.Shapes.{Shape}
use Rattle.t1_shape.specs.Slots.{Line}
use Rattle.t1_packet.specs.declared.cache.Cache.{Cache}
use Rattle.t1_packet.specs.declared.packet.Packet.{Packet}
use Rattle.t1_packet.specs.Data.{KillData, RequestData, ReplyData}
use Rattle.t1_packet.specs.Ops.{op_dest}
use Rattle.t1_packet.specs.Caches.{layout}
use Rattle.t1_packet.specs.Packets.{kills_to}
use Rattle.t1_event.specs.declared.commit.Commit.{Commit}
use Rattle.t1_event.specs.Posts.{no_lines, l1_at, victim_at}
use Rattle.std.proofs.lemmas.List.{nil_from_length, length-map}
use Rattle.std.proofs.lemmas.Option.{slice_get_within}
use Rattle.t1_packet.specs.declared.served.Served.{Served}
use Rattle.t1_packet.specs.Packets.{reply_to, packet_to}
use Rattle.t1_event.specs.Posts.{no_pointers, pointers_at}
use Rattle.t1_shape.specs.Slots.{victim_of}
use Rattle.t1_joint.specs.Lists.{IsIn, IsPrefix}
use Rattle.t1_joint.specs.Start.{Setup}
use Rattle.t1_joint.specs.Parts.{Parts, posts_from, requests_of, asked_by, served_at, answered}
use Rattle.t1_joint.specs.Proper.{IndexesAscend, IsProperReply, AreProper, slots_after, pointers_after, l1_by, pointers_by, victim_by, IsTime}
use Rattle.t1_joint.specs.CoreRule.{IsMeant, KeepsRule}
use Rattle.t1_joint.specs.Fit.{destination_start, AreServed, HasAdmitted, Fit}
use Rattle.t1_joint.specs.JointHistory.{IsSetup}
use Rattle.t1_fit.proofs.Ways.{io_zero}
use Rattle.t1_fit.proofs.Lists.{in_left, in_append, in_prefix, prefix_trans, prefix_filter, prefix_requests, prefix_length, slice_front}
use Rattle.t1_fit.proofs.Logs.{record_of}
use Rattle.t1_fit.proofs.States.{IsRight, served_front}
use Rattle.t1_fit.proofs.Posts.{packet_is, own_packet, packet_own, posts_ascend, index_front, from_posts, in_posts, mine, answered-append, answered_posts, answers_some}
use Rattle.t1_fit.proofs.Came.{IsPosted, came_before, time_within, after_posts, after_pointers}
use Rattle.t1_fit.proofs.Commits.{admitted_way, old_fits, old_zero, line_is, line_of_bytes, kill_fits}

-- ---- lists

in_requests : (c : ℕ) (ss : List Served) (i : ℕ) (a : Served) → slice_get ss i ≡ Some a → a.request.core ≡ c → IsIn a.request (requests_of (asked_by c ss))
in_requests c [] i a e f = let clash : ◌≡◌ {A = Option Served} None (Some a) = e in cc
in_requests c (b ∷ ss) zero a e f =
    let q : a ≡ b = cc (e) in
    let t : (b.request.core == c) ≡ true = eq-eqb b.request.core c (ap (λ (v : Served). v.request.core) (sym q) ∙ f) in
    rw t (inl (ap (λ (v : Served). v.request) q))
in_requests c (b ∷ ss) (suc i) a e f =
    let more = in_requests c ss i a e f in
    elim (cases_Bool (b.request.core == c)) [
      | inl t ↦ rw t (inr more)
      | inr t ↦ rw t more
    ]

-- where an access of this destination stands among those of the destination
in_own : (shape : Shape) (d : ℕ) (ss : List Served) (i : ℕ) (a : Served) → slice_get ss i ≡ Some a → op_dest shape a.request.op ≡ d → (k : ℕ) × (slice_get (served_at shape d ss) k ≡ Some a)
in_own shape d [] i a e f = let clash : ◌≡◌ {A = Option Served} None (Some a) = e in cc
in_own shape d (b ∷ ss) zero a e f =
    let q : b ≡ a = cc (e) in
    let t : (op_dest shape b.request.op == d) ≡ true = eq-eqb (op_dest shape b.request.op) d (ap (λ (v : Served). op_dest shape v.request.op) q ∙ f) in
    rw t (0, ap (λ (v : Served). Some v) q)
in_own shape d (b ∷ ss) (suc i) a e f =
    let more = in_own shape d ss i a e f in
    elim (cases_Bool (op_dest shape b.request.op == d)) [
      | inl t ↦ rw t (suc more.0, more.1)
      | inr t ↦ rw t more
    ]

pub in_mine : (shape : Shape) (c d : ℕ) (all : List Served) (n : ℕ) (a : Served) → slice_get all n ≡ Some a → a.request.core ≡ c → op_dest shape a.request.op ≡ d → IsIn a.request (mine shape c d all)
in_mine shape c d all n a is ec ed = let at = in_own shape d all n a is ed in in_requests c (served_at shape d all) at.0 a at.1 ec

-- a kill of a packet is one of the access, to this core
kill_to : (c : ℕ) (k : KillData) (n : ℕ) (ks : List KillData) → IsIn k (take n (filter (λ (v : KillData). v.core == c) ks)) → (k.core ≡ c) × IsIn k ks
kill_to c k n [] h = absurd (none n h)
  where
    none : (m : ℕ) → IsIn k (take m []) → ⊥
    none zero g = g
    none (suc m) g = g
kill_to c k n (x ∷ ks) h = by (x.core == c) refl n h (λ m g. kill_to c k m ks g)
  where
    by : (b : Bool) → (x.core == c) ≡ b → (m : ℕ) → IsIn k (take m (cond b (x ∷ filter (λ (v : KillData). v.core == c) ks) (filter (λ (v : KillData). v.core == c) ks)))
        → ((m : ℕ) → IsIn k (take m (filter (λ (v : KillData). v.core == c) ks)) → (k.core ≡ c) × IsIn k ks) → (k.core ≡ c) × IsIn k (x ∷ ks)
    by true t zero g more = absurd g
    by true t (suc m) (inl e) more = (ap (λ (v : KillData). v.core) e ∙ eqb-true x.core c t, inl e)
    by true t (suc m) (inr g) more = let r = more m g in (r.0, inr r.1)
    by false t m g more = let r = more m g in (r.0, inr r.1)

-- ---- the parts

module _ (w : Setup) (setup : IsSetup w) (p : Parts) (f : Fit w p) where
  abbrev pub all : List Served
  all = p.crossbar.admitted

  -- what holds of a request that a core sent
  pub record IsSent (c d : ℕ) (r : RequestData) : Type 0 where
    pub small : c < w.config.cores
    pub meant : IsMeant w c d r

  pub sent_is : (c d : ℕ) (r : RequestData) → IsIn r ((p.core c).sent d) → IsSent c d r
  sent_is c d r h =
      elim (cases_lt c w.config.cores) [
        | inl l ↦ record { small = l; meant = (f.cores c l).meant d r h }
        | inr past ↦ absurd (subst (λ (l : List RequestData). IsIn r l) ((f.no_cores c past).sent d) h)
      ]

  served_all : (c d : ℕ) → requests_of (asked_by c (p.destination d).served) ≡ (p.destination d).received c
  served_all c d =
      (f.destinations d).order (λ c r h. (sent_is c d r (in_prefix r ((p.destination d).received c) ((p.core c).sent d) (f.rings.to_destination c d) h)).meant.core_is) c

  -- what a destination served is of its own requests
  served_meant : (d i : ℕ) (a : Served) → slice_get (p.destination d).served i ≡ Some a → IsRight w a.request × (op_dest w.config.chip a.request.op ≡ d)
  served_meant d i a is =
      let c = a.request.core in
      let h : IsIn a.request ((p.destination d).received c) = subst (λ (l : List RequestData). IsIn a.request l) (served_all c d) (in_requests c (p.destination d).served i a is refl) in
      let s = sent_is c d a.request (in_prefix a.request ((p.destination d).received c) ((p.core c).sent d) (f.rings.to_destination c d) h) in
      (record { core = s.small; strand = s.meant.strand_is; asked = s.meant.asked }, s.meant.dest_is)

  -- the log, since what the crossbar received from a destination is of that destination
  pub admitted : HasAdmitted w p.crossbar
  admitted =
      f.crossbar.rule (λ d i a is.
      let pre = f.rings.to_crossbar d in
      (served_meant d i a (subst (λ (l : List Served). slice_get l i ≡ Some a) pre.1 (slice_front (p.crossbar.received d) pre.0 i a is))).1)

  own_served : (d : ℕ) → IsPrefix (served_at w.config.chip d p.crossbar.admitted) (p.destination d).served
  own_served d = prefix_trans (served_at w.config.chip d p.crossbar.admitted) (p.crossbar.received d) (p.destination d).served (admitted.admits d) (f.rings.to_crossbar d)

  pub served : (d : ℕ) → AreServed w.config.chip d (destination_start w d) (served_at w.config.chip d p.crossbar.admitted)
  served d =
      let pre = own_served d in
      served_front w.config.chip d (destination_start w d) (served_at w.config.chip d p.crossbar.admitted) pre.0
      (subst (λ (l : List Served). AreServed w.config.chip d (destination_start w d) l) (sym pre.1) (f.destinations d).rule)

  pub right : (n : ℕ) (a : Served) → slice_get p.crossbar.admitted n ≡ Some a → IsRight w a.request
  right n a is =
      let d = op_dest w.config.chip a.request.op in
      let at = in_own w.config.chip d p.crossbar.admitted n a is refl in
      let pre = own_served d in
      (served_meant d at.0 a (subst (λ (l : List Served). slice_get l at.0 ≡ Some a) pre.1 (slice_front (served_at w.config.chip d p.crossbar.admitted) pre.0 at.0 a at.1))).0

  -- what was admitted of one core and destination is the first of what was sent
  pub admitted_sent : (c d : ℕ) → IsPrefix (mine w.config.chip c d p.crossbar.admitted) ((p.core c).sent d)
  admitted_sent c d =
      let b : IsPrefix (mine w.config.chip c d p.crossbar.admitted) (requests_of (asked_by c (p.destination d).served)) =
      prefix_requests (asked_by c (served_at w.config.chip d p.crossbar.admitted)) (asked_by c (p.destination d).served)
      (prefix_filter (λ (a : Served). a.request.core == c) (served_at w.config.chip d p.crossbar.admitted) (p.destination d).served (own_served d)) in
      let e : IsPrefix (mine w.config.chip c d p.crossbar.admitted) ((p.destination d).received c) =
      subst (λ (l : List RequestData). IsPrefix (mine w.config.chip c d p.crossbar.admitted) l) (served_all c d) b in
      prefix_trans (mine w.config.chip c d p.crossbar.admitted) ((p.destination d).received c) ((p.core c).sent d) e (f.rings.to_destination c d)

  -- ---- each packet that came is of an access that was admitted

  pub all_posts : (c : ℕ) → (rest : List Packet) × ((p.core c).received ++ rest ≡ posts_from c 0 p.crossbar.admitted)
  all_posts c = let pre = f.rings.to_core c in (pre.0, pre.1 ∙ f.crossbar.posts c)

  pub record IsFrom (c : ℕ) (q : Packet) : Type 0 where
    pub n : ℕ
    pub access : Served
    pub is : slice_get p.crossbar.admitted n ≡ Some access
    pub packet : packet_to c n access ≡ Some q
    pub index : q.index ≡ n

  pub came_from : (c : ℕ) (q : Packet) → IsIn q (p.core c).received → IsFrom c q
  came_from c q h =
      let pre = all_posts c in
      let at = from_posts c 0 p.crossbar.admitted q (subst (λ (ps : List Packet). IsIn q ps) pre.1 (in_left q (p.core c).received pre.0 h)) in
      let z : 0 + at.0 ≡ at.0 = omega arith in
      let e : packet_to c at.0 at.1 ≡ Some q = ap (λ (n : ℕ). packet_to c n at.1) (sym z) ∙ at.3 in
      record { n = at.0; access = at.1; is = at.2; packet = e; index = (packet_is c at.0 at.1 q e).index }

  -- and each reply
  pub record IsReplyOf (c : ℕ) (q : Packet) (r : ReplyData) : Type 0 where
    pub n : ℕ
    pub access : Served
    pub is : slice_get p.crossbar.admitted n ≡ Some access
    pub index : q.index ≡ n
    pub core : access.request.core ≡ c
    pub reply : reply_to access ≡ r

  pub reply_from : (c : ℕ) (q : Packet) (r : ReplyData) → IsIn q (p.core c).received → q.reply ≡ Some r → IsReplyOf c q r
  reply_from c q r h e =
      let g = came_from c q h in
      let k = packet_is c g.n g.access q g.packet in
      record { n = g.n; access = g.access; is = g.is; index = g.index; core = k.core r e; reply = k.reply r e }

  -- the replies that a core received answer, in order, the first of what it sent
  answered_all : (c d : ℕ) → answered w.config.chip c d (p.core c).received ++ answered w.config.chip c d (all_posts c).0 ≡ mine w.config.chip c d p.crossbar.admitted
  answered_all c d =
      let pre = all_posts c in
      sym (answered-append w.config.chip c d (p.core c).received pre.0)
      ∙ (ap (λ (ps : List Packet). answered w.config.chip c d ps) pre.1 ∙ answered_posts w.config.chip c d 0 p.crossbar.admitted)

  in_order : (c d : ℕ) → IsPrefix (answered w.config.chip c d (p.core c).received) ((p.core c).sent d)
  in_order c d =
      prefix_trans (answered w.config.chip c d (p.core c).received) (mine w.config.chip c d p.crossbar.admitted) ((p.core c).sent d)
      (answered w.config.chip c d (all_posts c).0, answered_all c d) (admitted_sent c d)

  pub log_size : length p.crossbar.log ≡ length p.crossbar.admitted
  log_size = ap (λ (l : List Commit). length l) admitted.log ∙ length-map p.crossbar.admitted (record_of w)

  proper_reply : (n : ℕ) (a : Served) → slice_get p.crossbar.admitted n ≡ Some a → IsProperReply w.config.chip n (reply_to a)
  proper_reply n a is = record {
    way = admitted_way w setup p.crossbar.admitted served right n a is;
    old = old_fits w setup p.crossbar.admitted served right n a is;
    io = io_zero a.request.op a.old (λ t. old_zero w setup p.crossbar.admitted served right n a is t);
    seen = f.crossbar.seen n a is;
    line = line_of_bytes w setup p.crossbar.admitted served right n a is;
  }

  -- what a core received is proper
  pub proper_of : (c : ℕ) → AreProper w.config.chip c (p.core c).sent (p.core c).received
  proper_of c =
      let pre = all_posts c in
      record {
        ascend = index_front 0 (p.core c).received pre.0 (subst (λ (ps : List Packet). IndexesAscend 0 ps) (sym pre.1) (posts_ascend c 0 p.crossbar.admitted));
        small = λ q h.
            let g = came_from c q h in
            let l = slice_get_within p.crossbar.admitted g.n g.access g.is in
            let i = g.index in
            let m = f.crossbar.short in
            omega (arith, l, log_size, i, m);
        kills = λ q k h i.
            let g = came_from c q h in
            let j : IsIn k (kills_to c g.access.kills) = subst (λ (ks : List KillData). IsIn k ks) (packet_is c g.n g.access q g.packet).kills i in
            let t = kill_to c k 8 g.access.kills j in
            let z = kill_fits w setup p.crossbar.admitted served right g.n g.access k g.is t.1 in
            record { core_is = t.0; set_is = z.set_is; way_is = z.way_is };
        replies = λ q r h e.
            let g = reply_from c q r h e in
            subst (λ (n : ℕ). IsProperReply w.config.chip n r) (sym g.index) (subst (λ (v : ReplyData). IsProperReply w.config.chip g.n v) g.reply (proper_reply g.n g.access g.is));
        order = λ d. in_order c d;
      }

  -- so each core keeps its rule
  pub kept : (c : ℕ) → c < w.config.cores → KeepsRule w c (p.core c)
  kept c l = (f.cores c l).kept (proper_of c)

  -- ---- where no request is without a reply, each access's core received its packet

  pub came : ((c d : ℕ) → length (answered w.config.chip c d (p.core c).received) ≡ length ((p.core c).sent d))
      → (n : ℕ) (a : Served) → slice_get p.crossbar.admitted n ≡ Some a → IsIn (own_packet n a) (p.core a.request.core).received
  came quiet n a is =
      let c = a.request.core in
      let d = op_dest w.config.chip a.request.op in
      let pre = all_posts c in
      let split = answered_all c d in
      let short = prefix_length (mine w.config.chip c d p.crossbar.admitted) ((p.core c).sent d) (admitted_sent c d) in
      let none : length (answered w.config.chip c d pre.0) ≡ 0 =
      omega (arith, quiet c d, short, length-append (answered w.config.chip c d (p.core c).received) (answered w.config.chip c d pre.0), ap (λ (l : List RequestData). length l) split) in
      let z : answered w.config.chip c d pre.0 ≡ [] = nil_from_length (answered w.config.chip c d pre.0) none in
      let posted : IsIn (own_packet n a) (posts_from c 0 p.crossbar.admitted) =
      in_posts c 0 n p.crossbar.admitted a (own_packet n a) is (ap (λ (k : ℕ). packet_to c k a) (let q : 0 + n ≡ n = omega arith in q) ∙ packet_own n a) in
      let here : IsIn (own_packet n a) ((p.core c).received ++ pre.0) = subst (λ (ps : List Packet). IsIn (own_packet n a) ps) (sym pre.1) posted in
      elim (in_append (own_packet n a) (p.core c).received pre.0 here) [
        | inl h ↦ h
        | inr h ↦ absurd (answers_some w.config.chip c d (own_packet n a) pre.0 (reply_to a) h refl (eq-eqb d d refl) z)
      ]

  -- ---- caches

  pub posted_right : (n : ℕ) (a : Served) → slice_get p.crossbar.admitted n ≡ Some a → IsPosted w p.crossbar.admitted n a
  posted_right n a is = record { strand = (right n a is).strand; line = line_is w setup p.crossbar.admitted served right n a is }

  -- the caches by the packets that came are those by the posts of the log
  pub caches_by : (c t : ℕ) (cache : Cache) → IsTime (p.core c).received t → l1_by w.config.chip c (p.core c).received t cache ≡ l1_at w.config.chip w.config.strands w.image.ram p.crossbar.log c cache t
  caches_by c t cache known =
      let pre = all_posts c in
      let le = time_within c t p.crossbar.admitted (p.core c).received pre.0 pre.1 known in
      ap (λ (ps : List Packet). slots_after w.config.chip c cache (no_lines w.config.chip cache) ps) (came_before c t p.crossbar.admitted (p.core c).received pre.0 pre.1 known)
      ∙ (after_posts w p.crossbar.admitted posted_right c cache t le ∙ ap (λ (log : List Commit). l1_at w.config.chip w.config.strands w.image.ram log c cache t) (sym admitted.log))

  pub pointers_are : (c t : ℕ) (cache : Cache) → IsTime (p.core c).received t → pointers_by w.config.chip (p.core c).received t cache ≡ pointers_at w.config.chip w.config.strands w.image.ram p.crossbar.log c cache t
  pointers_are c t cache known =
      let pre = all_posts c in
      let le = time_within c t p.crossbar.admitted (p.core c).received pre.0 pre.1 known in
      ap (λ (ps : List Packet). pointers_after w.config.chip cache (no_pointers w.config.chip cache) ps) (came_before c t p.crossbar.admitted (p.core c).received pre.0 pre.1 known)
      ∙ (after_pointers w p.crossbar.admitted posted_right c cache t le ∙ ap (λ (log : List Commit). pointers_at w.config.chip w.config.strands w.image.ram log c cache t) (sym admitted.log))

  -- the victim by what came is that by the log
  pub victim_is : (c t : ℕ) (cache : Cache) (line : ℕ) → IsTime (p.core c).received t
      → victim_by w.config.chip c (p.core c).received t cache line ≡ victim_at w.config.chip w.config.strands w.image.ram p.crossbar.log c cache t line
  victim_is c t cache line known =
      ap (λ (slots : List (Option Line)). victim_of (layout w.config.chip cache) slots (pointers_by w.config.chip (p.core c).received t cache) line) (caches_by c t cache known)
      ∙ ap (λ (pointers : List ℕ). victim_of (layout w.config.chip cache) (l1_at w.config.chip w.config.strands w.image.ram p.crossbar.log c cache t) pointers line) (pointers_are c t cache known)
