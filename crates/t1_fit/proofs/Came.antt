-- Packets that came: those below a time are the posts of the commits below it, and the caches by them are
use Rattle.std.proofs.Common.{◌≡◌, ℕ, zero, suc, ◌+◌, ◌-◌, ◌<◌, ◌≤◌, ◌==◌, nat_lt, inl, inr, Bool, true, false, if◌then◌else◌, List, [], ◌∷◌, ◌++◌, length, take, Option, Some, None, refl, ap, sym, ◌∙◌, subst, arith}
use Rattle.std.specs.List.{slice_get}
use Rattle.std.proofs.lemmas.Bool.{cases_lt, cases_Bool, lt-ltb, le-ltb}
use Rattle.std.proofs.lemmas.List.{length-take}
use Rattle.std.proofs.lemmas.List.Elements.{filter-append}
use Rattle.t1_shape.specs.Shapes.{Shape}
use Rattle.t1_shape.specs.Slots.{Line}
use Rattle.t1_packet.specs.declared.cache.Cache.{Cache}
use Rattle.t1_packet.specs.declared.packet.Packet.{Packet}
use Rattle.t1_packet.specs.Data.{KillData}
use Rattle.t1_packet.specs.Caches.{with_kills, with_answer}
use Rattle.t1_packet.specs.Packets.{kills_to, packet_of, with_packet}
use Rattle.t1_event.specs.declared.commit.Commit.{Commit}
use Rattle.t1_event.specs.Log.{core_of, memory_at}
use Rattle.t1_event.specs.Posts.{reply_line, reply_of, post_of, post_by, no_lines, with_post, l1_at}
use Rattle.std.proofs.lemmas.List.{append-nil}
use Rattle.std.proofs.lemmas.Option.{slice_get_within}
use Rattle.std.proofs.lemmas.Nat.{div-mul-add}
use Rattle.t1_packet.specs.declared.served.Served.{Served}
use Rattle.t1_packet.specs.Packets.{reply_to, packet_to, pointers_with_packet}
use Rattle.t1_event.specs.Log.{plain_op}
use Rattle.t1_event.specs.Posts.{no_pointers, pointers_with_post, pointers_at}
use Rattle.t1_joint.specs.Lists.{IsIn}
use Rattle.t1_joint.specs.Start.{Setup}
use Rattle.t1_joint.specs.Parts.{posted_before, posts_from}
use Rattle.t1_joint.specs.Proper.{IndexesAscend, packets_before, slots_after, pointers_after, IsTime}
use Rattle.t1_joint.specs.Fit.{log_of}
use Rattle.t1_fit.proofs.Lists.{in_left, take_next, take_past}
use Rattle.t1_fit.proofs.Logs.{record_of, log_at, log_past, plain_line, plain_answer, plain_pointers}
use Rattle.t1_fit.proofs.Posts.{packet_is, posts_ascend, index_behind, posts-append, from_posts}

-- those of the log.

-- ---- below a time

before_none : (t low : ℕ) (ps : List Packet) → t ≤ low → IndexesAscend low ps → packets_before t ps ≡ []
before_none t low [] l a = refl
before_none t low (p ∷ ps) l a =
    let f : nat_lt p.index t ≡ false = le-ltb p.index t (omega (arith, l, a.0)) in
    rw f (before_none t (suc p.index) ps (omega (arith, l, a.0)) a.1)

before_past : (t : ℕ) (ps : List Packet) → ((p : Packet) → IsIn p ps → t ≤ p.index) → packets_before t ps ≡ []
before_past t [] h = refl
before_past t (p ∷ ps) h =
    let f : nat_lt p.index t ≡ false = le-ltb p.index t (h p (inl refl)) in
    rw f (before_past t ps (λ q i. h q (inr i)))

take_nil : (k : ℕ) → ◌≡◌ {A = List Served} [] (take k [])
take_nil zero = refl
take_nil (suc k) = refl

before_posts : (c t m : ℕ) (all : List Served) → packets_before t (posts_from c m all) ≡ posts_from c m (take (t - m) all)
before_posts c t m [] = ap (λ (l : List Served). posts_from c m l) (take_nil (t - m))
before_posts c t m (a ∷ all) =
    elim (cases_lt m t) [
      | inl l ↦
          let k : t - m ≡ suc (t - suc m) = omega (arith, l) in
          by l (packet_to c m a) refl (before_posts c t (suc m) all) ∙ ap (λ (j : ℕ). posts_from c m (take j (a ∷ all))) (sym k)
      | inr l ↦
          let k : t - m ≡ 0 = omega (arith, l) in
          before_none t m (posts_from c m (a ∷ all)) l (posts_ascend c m (a ∷ all)) ∙ ap (λ (j : ℕ). posts_from c m (take j (a ∷ all))) (sym k)
    ]
  where
    by : m < t → (o : Option Packet) → packet_to c m a ≡ o → packets_before t (posts_from c (suc m) all) ≡ posts_from c (suc m) (take (t - suc m) all)
        → packets_before t (posted_before o (posts_from c (suc m) all)) ≡ posted_before o (posts_from c (suc m) (take (t - suc m) all))
    by l None e more = more
    by l (Some p) e more =
        let f : nat_lt p.index t ≡ true = lt-ltb p.index t (let i = (packet_is c m a p e).index in omega (arith, i, l)) in
        rw f (ap (λ (ps : List Packet). p ∷ ps) more)

-- the packets that came below a time that the core knows are the posts of the commits below it
pub came_before : (c t : ℕ) (all : List Served) (came rest : List Packet) → came ++ rest ≡ posts_from c 0 all → IsTime came t → packets_before t came ≡ posts_from c 0 (take t all)
came_before c t all came rest e known =
    let asc : IndexesAscend 0 (came ++ rest) = subst (λ (ps : List Packet). IndexesAscend 0 ps) (sym e) (posts_ascend c 0 all) in
    let none : packets_before t rest ≡ [] = before_past t rest (λ p h.
    elim known [
      | inl z ↦ omega (arith, z)
      | inr q ↦ let l = index_behind 0 came rest q.0 p asc q.1 h in let z = q.2 in omega (arith, l, z)
    ]) in
    let parts : packets_before t (came ++ rest) ≡ packets_before t came ++ packets_before t rest = filter-append (λ (p : Packet). nat_lt p.index t) came rest in
    let same : packets_before t came ++ [] ≡ packets_before t (posts_from c 0 all) =
    ap (λ (l : List Packet). packets_before t came ++ l) (sym none) ∙ (sym parts ∙ ap (λ (l : List Packet). packets_before t l) e) in
    sym (append-nil (packets_before t came)) ∙ (same ∙ (before_posts c t 0 all ∙ ap (λ (k : ℕ). posts_from c 0 (take k all)) (let z : t - 0 ≡ t = omega arith in z)))

-- a time that a core knows is at most the log's length
pub time_within : (c t : ℕ) (all : List Served) (came rest : List Packet) → came ++ rest ≡ posts_from c 0 all → IsTime came t → t ≤ length all
time_within c t all came rest e (inl z) = omega (arith, z)
time_within c t all came rest e (inr q) =
    let at = from_posts c 0 all q.0 (subst (λ (ps : List Packet). IsIn q.0 ps) e (in_left q.0 came rest q.1)) in
    let i = (packet_is c (0 + at.0) at.1 q.0 at.3).index in
    let l = slice_get_within all at.0 at.1 at.2 in
    let z = q.2 in
    omega (arith, i, l, z)

-- ---- caches

pub slots-append : (shape : Shape) (c : ℕ) (cache : Cache) (slots : List (Option Line)) (ps qs : List Packet)
    → slots_after shape c cache slots (ps ++ qs) ≡ slots_after shape c cache (slots_after shape c cache slots ps) qs
slots-append shape c cache slots [] qs = refl
slots-append shape c cache slots (p ∷ ps) qs = slots-append shape c cache (with_packet shape c cache p slots) ps qs

pub pointers-append : (shape : Shape) (cache : Cache) (pointers : List ℕ) (ps qs : List Packet)
    → pointers_after shape cache pointers (ps ++ qs) ≡ pointers_after shape cache (pointers_after shape cache pointers ps) qs
pointers-append shape cache pointers [] qs = refl
pointers-append shape cache pointers (p ∷ ps) qs = pointers-append shape cache (pointers_with_packet shape cache p pointers) ps qs

slots_one : (shape : Shape) (c : ℕ) (cache : Cache) (slots : List (Option Line)) (o : Option Packet) → slots_after shape c cache slots (posted_before o []) ≡ with_post shape c cache o slots
slots_one shape c cache slots None = refl
slots_one shape c cache slots (Some p) = refl

pointers_one : (shape : Shape) (cache : Cache) (pointers : List ℕ) (o : Option Packet) → pointers_after shape cache pointers (posted_before o []) ≡ pointers_with_post shape cache o pointers
pointers_one shape cache pointers None = refl
pointers_one shape cache pointers (Some p) = refl

-- a packet of kills alone
kills_alone : (shape : Shape) (n core : ℕ) (cache : Cache) (ks : List KillData) (slots : List (Option Line))
    → with_post shape core cache (packet_of n None ks) slots ≡ with_kills shape core cache ks slots
kills_alone shape n core cache [] slots = refl
kills_alone shape n core cache (k ∷ ks) slots = refl

pointers_alone : (shape : Shape) (n : ℕ) (cache : Cache) (ks : List KillData) (pointers : List ℕ) → pointers_with_post shape cache (packet_of n None ks) pointers ≡ pointers
pointers_alone shape n cache [] pointers = refl
pointers_alone shape n cache (k ∷ ks) pointers = refl

-- what the post of the record does is what the packet of the access does
pub record IsPosted (w : Setup) (all : List Served) (n : ℕ) (a : Served) : Type 0 where
  pub strand : a.request.strand < w.config.strands
  pub line : a.line ≡ reply_line (memory_at w.image.ram (log_of w all) n) a.request.op a.way

post_same : (w : Setup) (m : List ℕ) (n c : ℕ) (cache : Cache) (slots : List (Option Line)) (a : Served) → a.request.strand < w.config.strands → a.line ≡ reply_line m a.request.op a.way
    → with_post w.config.chip c cache (post_of w.config.strands m n c (record_of w a)) slots ≡ with_post w.config.chip c cache (packet_to c n a) slots
post_same w m n c cache slots a below line =
    let core : core_of w.config.strands (record_of w a) ≡ a.request.core = div-mul-add a.request.core w.config.strands a.request.strand below in
    let left : List (Option Line) = with_kills w.config.chip c cache (kills_to c a.kills) slots in
    ap (λ (k : ℕ). with_post w.config.chip c cache (packet_of n (if k == c then Some (reply_of w.config.strands m (record_of w a)) else None) (kills_to c a.kills)) slots) core
    ∙ elim (cases_Bool (a.request.core == c)) [
      | inl e ↦ rw e (
          ap (λ (l : List ℕ). with_answer w.config.chip cache (plain_op a.request.op a.old a.way) a.way l left) (plain_line m a.request.op a.old a.way ∙ sym line)
          ∙ plain_answer w.config.chip cache a.request.op a.old a.way a.line left)
      | inr e ↦ rw e (kills_alone w.config.chip n c cache (kills_to c a.kills) slots ∙ sym (kills_alone w.config.chip n c cache (kills_to c a.kills) slots))
    ]

pointers_same : (w : Setup) (m : List ℕ) (n c : ℕ) (cache : Cache) (pointers : List ℕ) (a : Served) → a.request.strand < w.config.strands
    → pointers_with_post w.config.chip cache (post_of w.config.strands m n c (record_of w a)) pointers ≡ pointers_with_post w.config.chip cache (packet_to c n a) pointers
pointers_same w m n c cache pointers a below =
    let core : core_of w.config.strands (record_of w a) ≡ a.request.core = div-mul-add a.request.core w.config.strands a.request.strand below in
    ap (λ (k : ℕ). pointers_with_post w.config.chip cache (packet_of n (if k == c then Some (reply_of w.config.strands m (record_of w a)) else None) (kills_to c a.kills)) pointers) core
    ∙ elim (cases_Bool (a.request.core == c)) [
      | inl e ↦ rw e (plain_pointers w.config.chip cache a.request.op a.old a.way pointers)
      | inr e ↦ rw e (pointers_alone w.config.chip n cache (kills_to c a.kills) pointers ∙ sym (pointers_alone w.config.chip n cache (kills_to c a.kills) pointers))
    ]

-- where an access posts a packet, so does its record
post_kind : (strands : ℕ) (m : List ℕ) (n : ℕ) (a : Served) (w : Setup) (q : Packet) (ks : List KillData) (t : Bool)
    → packet_of n (if t then Some (reply_to a) else None) ks ≡ Some q
    → (packet : Packet) × (packet_of n (if t then Some (reply_of strands m (record_of w a)) else None) ks ≡ Some packet)
post_kind strands m n a w q ks true e = (record { index = n; reply = Some (reply_of strands m (record_of w a)); kills = ks }, refl)
post_kind strands m n a w q [] false e = let clash : ◌≡◌ {A = Option Packet} None (Some q) = e in cc
post_kind strands m n a w q (k ∷ ks) false e = (record { index = n; reply = None; kills = k ∷ ks }, refl)

pub post_some : (w : Setup) (m : List ℕ) (n c : ℕ) (a : Served) (q : Packet) → a.request.strand < w.config.strands → packet_to c n a ≡ Some q
    → (packet : Packet) × (post_of w.config.strands m n c (record_of w a) ≡ Some packet)
post_some w m n c a q below e =
    let core : core_of w.config.strands (record_of w a) ≡ a.request.core = div-mul-add a.request.core w.config.strands a.request.strand below in
    let r = post_kind w.config.strands m n a w q (kills_to c a.kills) (a.request.core == c) e in
    (r.0, ap (λ (k : ℕ). packet_of n (if k == c then Some (reply_of w.config.strands m (record_of w a)) else None) (kills_to c a.kills)) core ∙ r.1)

module _ (w : Setup) (all : List Served) (right : (n : ℕ) (a : Served) → slice_get all n ≡ Some a → IsPosted w all n a) (c : ℕ) (cache : Cache) where
  -- the caches after the posts of the first t commits
  pub after_posts : (t : ℕ) → t ≤ length all
      → slots_after w.config.chip c cache (no_lines w.config.chip cache) (posts_from c 0 (take t all)) ≡ l1_at w.config.chip w.config.strands w.image.ram (log_of w all) c cache t
  after_posts zero le = refl
  after_posts (suc t) le = by (slice_get all t) refl (after_posts t (omega (arith, le)))
    where
      by : (o : Option Served) → slice_get all t ≡ o
          → slots_after w.config.chip c cache (no_lines w.config.chip cache) (posts_from c 0 (take t all)) ≡ l1_at w.config.chip w.config.strands w.image.ram (log_of w all) c cache t
          → slots_after w.config.chip c cache (no_lines w.config.chip cache) (posts_from c 0 (take (suc t) all)) ≡ l1_at w.config.chip w.config.strands w.image.ram (log_of w all) c cache (suc t)
      by None is before =
          ap (λ (l : List Served). slots_after w.config.chip c cache (no_lines w.config.chip cache) (posts_from c 0 l)) (take_past all t is)
          ∙ (before ∙ ap (λ (o : Option Commit). with_post w.config.chip c cache (post_by w.config.strands (memory_at w.image.ram (log_of w all) t) t c o) (l1_at w.config.chip w.config.strands w.image.ram (log_of w all) c cache t)) (sym (log_past w all t is)))
      by (Some a) is before =
          let size : 0 + length (take t all) ≡ t = omega (arith, length-take t all, le) in
          let one : posts_from c 0 (take t all ++ a ∷ []) ≡ posts_from c 0 (take t all) ++ posted_before (packet_to c t a) [] =
          posts-append c 0 (take t all) (a ∷ []) ∙ ap (λ (n : ℕ). posts_from c 0 (take t all) ++ posted_before (packet_to c n a) []) size in
          ap (λ (l : List Served). slots_after w.config.chip c cache (no_lines w.config.chip cache) (posts_from c 0 l)) (take_next all t a is)
          ∙ (ap (λ (l : List Packet). slots_after w.config.chip c cache (no_lines w.config.chip cache) l) one
          ∙ (slots-append w.config.chip c cache (no_lines w.config.chip cache) (posts_from c 0 (take t all)) (posted_before (packet_to c t a) [])
          ∙ (slots_one w.config.chip c cache (slots_after w.config.chip c cache (no_lines w.config.chip cache) (posts_from c 0 (take t all))) (packet_to c t a)
          ∙ (ap (λ (l : List (Option Line)). with_post w.config.chip c cache (packet_to c t a) l) before
          ∙ (sym (post_same w (memory_at w.image.ram (log_of w all) t) t c cache (l1_at w.config.chip w.config.strands w.image.ram (log_of w all) c cache t) a (right t a is).strand (right t a is).line)
          ∙ ap (λ (o : Option Commit). with_post w.config.chip c cache (post_by w.config.strands (memory_at w.image.ram (log_of w all) t) t c o) (l1_at w.config.chip w.config.strands w.image.ram (log_of w all) c cache t)) (sym (log_at w all t a is)))))))

  pub after_pointers : (t : ℕ) → t ≤ length all
      → pointers_after w.config.chip cache (no_pointers w.config.chip cache) (posts_from c 0 (take t all)) ≡ pointers_at w.config.chip w.config.strands w.image.ram (log_of w all) c cache t
  after_pointers zero le = refl
  after_pointers (suc t) le = by (slice_get all t) refl (after_pointers t (omega (arith, le)))
    where
      by : (o : Option Served) → slice_get all t ≡ o
          → pointers_after w.config.chip cache (no_pointers w.config.chip cache) (posts_from c 0 (take t all)) ≡ pointers_at w.config.chip w.config.strands w.image.ram (log_of w all) c cache t
          → pointers_after w.config.chip cache (no_pointers w.config.chip cache) (posts_from c 0 (take (suc t) all)) ≡ pointers_at w.config.chip w.config.strands w.image.ram (log_of w all) c cache (suc t)
      by None is before =
          ap (λ (l : List Served). pointers_after w.config.chip cache (no_pointers w.config.chip cache) (posts_from c 0 l)) (take_past all t is)
          ∙ (before ∙ ap (λ (o : Option Commit). pointers_with_post w.config.chip cache (post_by w.config.strands (memory_at w.image.ram (log_of w all) t) t c o) (pointers_at w.config.chip w.config.strands w.image.ram (log_of w all) c cache t)) (sym (log_past w all t is)))
      by (Some a) is before =
          let size : 0 + length (take t all) ≡ t = omega (arith, length-take t all, le) in
          let one : posts_from c 0 (take t all ++ a ∷ []) ≡ posts_from c 0 (take t all) ++ posted_before (packet_to c t a) [] =
          posts-append c 0 (take t all) (a ∷ []) ∙ ap (λ (n : ℕ). posts_from c 0 (take t all) ++ posted_before (packet_to c n a) []) size in
          ap (λ (l : List Served). pointers_after w.config.chip cache (no_pointers w.config.chip cache) (posts_from c 0 l)) (take_next all t a is)
          ∙ (ap (λ (l : List Packet). pointers_after w.config.chip cache (no_pointers w.config.chip cache) l) one
          ∙ (pointers-append w.config.chip cache (no_pointers w.config.chip cache) (posts_from c 0 (take t all)) (posted_before (packet_to c t a) [])
          ∙ (pointers_one w.config.chip cache (pointers_after w.config.chip cache (no_pointers w.config.chip cache) (posts_from c 0 (take t all))) (packet_to c t a)
          ∙ (ap (λ (l : List ℕ). pointers_with_post w.config.chip cache (packet_to c t a) l) before
          ∙ (sym (pointers_same w (memory_at w.image.ram (log_of w all) t) t c cache (pointers_at w.config.chip w.config.strands w.image.ram (log_of w all) c cache t) a (right t a is).strand)
          ∙ ap (λ (o : Option Commit). pointers_with_post w.config.chip cache (post_by w.config.strands (memory_at w.image.ram (log_of w all) t) t c o) (pointers_at w.config.chip w.config.strands w.image.ram (log_of w all) c cache t)) (sym (log_at w all t a is)))))))
