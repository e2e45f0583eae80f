-- Packets: what each is made of, those of a list of accesses, and what they answer.
use Rattle.std.proofs.Common.{◌≡◌, ℕ, zero, suc, ◌+◌, ◌<◌, ◌≤◌, ◌==◌, inl, inr, Bool, true, false, if◌then◌else◌, List, [], ◌∷◌, ◌++◌, length, Option, Some, None, refl, ap, sym, ◌∙◌, subst, arith}
use Rattle.std.specs.List.{slice_get}
use Rattle.std.proofs.lemmas.Bool.{cases_Bool, eq-eqb, eqb-true}
use Rattle.t1_shape.specs.Shapes.{Shape}
use Rattle.t1_packet.specs.declared.packet.Packet.{Packet}
use Rattle.t1_packet.specs.Data.{KillData, RequestData, ReplyData}
use Rattle.t1_packet.specs.Ops.{op_dest}
use Rattle.t1_packet.specs.Packets.{kills_to, packet_of}
use Rattle.t1_packet.specs.declared.served.Served.{Served}
use Rattle.t1_packet.specs.Packets.{reply_to, packet_to}
use Rattle.t1_joint.specs.Lists.{IsIn}
use Rattle.t1_joint.specs.Parts.{posted_before, posts_from, requests_of, asked_by, served_at, answers, answered_by, answered}
use Rattle.t1_joint.specs.Proper.{IndexesAscend}
use Rattle.t1_fit.proofs.Lists.{in_right}

-- ---- one packet

-- what a packet is made of
pub record IsPacket (c n : ℕ) (a : Served) (p : Packet) : Type 0 where
  pub index : p.index ≡ n
  pub kills : p.kills ≡ kills_to c a.kills
  pub core : (r : ReplyData) → p.reply ≡ Some r → a.request.core ≡ c
  pub reply : (r : ReplyData) → p.reply ≡ Some r → reply_to a ≡ r

packet_by : (c n : ℕ) (a : Served) (p : Packet) (ks : List KillData) (t : Bool) → kills_to c a.kills ≡ ks → (a.request.core == c) ≡ t
    → packet_of n (if t then Some (reply_to a) else None) ks ≡ Some p → IsPacket c n a p
packet_by c n a p ks true k t e =
    let q : record { index = n; reply = Some (reply_to a); kills = ks } ≡ p = cc (e) in
    record {
      index = sym (ap (λ (v : Packet). v.index) q);
      kills = sym (ap (λ (v : Packet). v.kills) q) ∙ sym k;
      core = λ r f. eqb-true a.request.core c t;
      reply = λ r f. let both : Some (reply_to a) ≡ Some r = ap (λ (v : Packet). v.reply) q ∙ f in cc (both);
    }
packet_by c n a p [] false k t e = let clash : ◌≡◌ {A = Option Packet} None (Some p) = e in cc
packet_by c n a p (x ∷ ks) false k t e =
    let q : record { index = n; reply = None; kills = x ∷ ks } ≡ p = cc (e) in
    record {
      index = sym (ap (λ (v : Packet). v.index) q);
      kills = sym (ap (λ (v : Packet). v.kills) q) ∙ sym k;
      core = λ r f. let clash : ◌≡◌ {A = Option ReplyData} None (Some r) = ap (λ (v : Packet). v.reply) q ∙ f in cc;
      reply = λ r f. let clash : ◌≡◌ {A = Option ReplyData} None (Some r) = ap (λ (v : Packet). v.reply) q ∙ f in cc;
    }

pub packet_is : (c n : ℕ) (a : Served) (p : Packet) → packet_to c n a ≡ Some p → IsPacket c n a p
packet_is c n a p e = packet_by c n a p (kills_to c a.kills) (a.request.core == c) refl refl e

-- the packet of the core that asked
abbrev pub own_packet : ℕ → Served → Packet
own_packet n a = record { index = n; reply = Some (reply_to a); kills = kills_to a.request.core a.kills }

pub packet_own : (n : ℕ) (a : Served) → packet_to a.request.core n a ≡ Some (own_packet n a)
packet_own n a =
    let t : (a.request.core == a.request.core) ≡ true = eq-eqb a.request.core a.request.core refl in
    ap (λ (b : Bool). packet_of n (if b then Some (reply_to a) else None) (kills_to a.request.core a.kills)) t

-- ---- all packets to a core

-- indexes ascend
pub index_lower : (low lower : ℕ) (ps : List Packet) → lower ≤ low → IndexesAscend low ps → IndexesAscend lower ps
index_lower low lower [] l a = tt
index_lower low lower (p ∷ ps) l a = (omega (arith, l, a.0), a.1)

pub posts_ascend : (c m : ℕ) (all : List Served) → IndexesAscend m (posts_from c m all)
posts_ascend c m [] = tt
posts_ascend c m (a ∷ all) = by (packet_to c m a) refl (posts_ascend c (suc m) all)
  where
    by : (o : Option Packet) → packet_to c m a ≡ o → IndexesAscend (suc m) (posts_from c (suc m) all) → IndexesAscend m (posted_before o (posts_from c (suc m) all))
    by None e more = index_lower (suc m) m (posts_from c (suc m) all) (omega arith) more
    by (Some p) e more =
        let i : p.index ≡ m = (packet_is c m a p e).index in
        (omega (arith, i), subst (λ (n : ℕ). IndexesAscend (suc n) (posts_from c (suc m) all)) (sym i) more)

pub index_front : (low : ℕ) (xs ys : List Packet) → IndexesAscend low (xs ++ ys) → IndexesAscend low xs
index_front low [] ys a = tt
index_front low (x ∷ xs) ys a = (a.0, index_front (suc x.index) xs ys a.1)

pub index_above : (low : ℕ) (ps : List Packet) (p : Packet) → IndexesAscend low ps → IsIn p ps → low ≤ p.index
index_above low [] p a h = absurd h
index_above low (x ∷ xs) p a (inl e) = let q : p.index ≡ x.index = ap (λ (v : Packet). v.index) e in omega (arith, q, a.0)
index_above low (x ∷ xs) p a (inr h) = let l = index_above (suc x.index) xs p a.1 h in omega (arith, l, a.0)

pub index_behind : (low : ℕ) (xs ys : List Packet) (q p : Packet) → IndexesAscend low (xs ++ ys) → IsIn q xs → IsIn p ys → q.index < p.index
index_behind low [] ys q p a hq hp = absurd hq
index_behind low (x ∷ xs) ys q p a (inl e) hp =
    let l = index_above (suc x.index) (xs ++ ys) p a.1 (in_right p xs ys hp) in
    let i : q.index ≡ x.index = ap (λ (v : Packet). v.index) e in omega (arith, l, i)
index_behind low (x ∷ xs) ys q p a (inr h) hp = index_behind (suc x.index) xs ys q p a.1 h hp

pub posts-append : (core n : ℕ) (xs ys : List Served) → posts_from core n (xs ++ ys) ≡ posts_from core n xs ++ posts_from core (n + length xs) ys
posts-append core n [] ys = ap (λ (k : ℕ). posts_from core k ys) (let e : n ≡ n + 0 = omega arith in e)
posts-append core n (x ∷ xs) ys = by (packet_to core n x)
    (posts-append core (suc n) xs ys ∙ ap (λ (k : ℕ). posts_from core (suc n) xs ++ posts_from core k ys) (let e : suc n + length xs ≡ n + length (x ∷ xs) = omega arith in e))
  where
    by : (o : Option Packet) → posts_from core (suc n) (xs ++ ys) ≡ posts_from core (suc n) xs ++ posts_from core (n + length (x ∷ xs)) ys
        → posted_before o (posts_from core (suc n) (xs ++ ys)) ≡ posted_before o (posts_from core (suc n) xs) ++ posts_from core (n + length (x ∷ xs)) ys
    by None e = e
    by (Some p) e = ap (λ (l : List Packet). p ∷ l) e

-- where a post comes from
pub from_posts : (c m : ℕ) (all : List Served) (p : Packet) → IsIn p (posts_from c m all) → (n : ℕ) × (a : Served) × (slice_get all n ≡ Some a) × (packet_to c (m + n) a ≡ Some p)
from_posts c m [] p h = absurd h
from_posts c m (b ∷ all) p h = by (packet_to c m b) refl h (λ g. from_posts c (suc m) all p g)
  where
    later : ((n : ℕ) × (a : Served) × (slice_get all n ≡ Some a) × (packet_to c (suc m + n) a ≡ Some p)) → (n : ℕ) × (a : Served) × (slice_get (b ∷ all) n ≡ Some a) × (packet_to c (m + n) a ≡ Some p)
    later r = (suc r.0, r.1, r.2, ap (λ (k : ℕ). packet_to c k r.1) (let e : m + suc r.0 ≡ suc m + r.0 = omega arith in e) ∙ r.3)

    by : (o : Option Packet) → packet_to c m b ≡ o → IsIn p (posted_before o (posts_from c (suc m) all))
        → (IsIn p (posts_from c (suc m) all) → (n : ℕ) × (a : Served) × (slice_get all n ≡ Some a) × (packet_to c (suc m + n) a ≡ Some p))
        → (n : ℕ) × (a : Served) × (slice_get (b ∷ all) n ≡ Some a) × (packet_to c (m + n) a ≡ Some p)
    by None e g more = later (more g)
    by (Some q) e (inl same) more = (0, b, refl, ap (λ (k : ℕ). packet_to c k b) (let z : m + 0 ≡ m = omega arith in z) ∙ (e ∙ ap (λ (v : Packet). Some v) (sym same)))
    by (Some q) e (inr g) more = later (more g)

in_some : (o : Option Packet) (x : Packet) (xs : List Packet) → IsIn x xs → IsIn x (posted_before o xs)
in_some None x xs h = h
in_some (Some y) x xs h = inr h

-- the packet of each access stands among the posts
pub in_posts : (c m n : ℕ) (all : List Served) (a : Served) (x : Packet) → slice_get all n ≡ Some a → packet_to c (m + n) a ≡ Some x → IsIn x (posts_from c m all)
in_posts c m n [] a x is e = let clash : ◌≡◌ {A = Option Served} None (Some a) = is in cc
in_posts c m zero (b ∷ all) a x is e =
    let same : b ≡ a = cc (is) in
    let z : m + 0 ≡ m = omega arith in
    let e' : packet_to c m b ≡ Some x = ap (λ (v : Served). packet_to c m v) same ∙ (ap (λ (k : ℕ). packet_to c k a) (sym z) ∙ e) in
    subst (λ (o : Option Packet). IsIn x (posted_before o (posts_from c (suc m) all))) (sym e') (inl refl)
in_posts c m (suc n) (b ∷ all) a x is e =
    let z : m + suc n ≡ suc m + n = omega arith in
    in_some (packet_to c m b) x (posts_from c (suc m) all) (in_posts c (suc m) n all a x is (ap (λ (k : ℕ). packet_to c k a) (sym z) ∙ e))

-- ---- what packets answer

-- the requests of one core and destination, as admitted
abbrev pub mine : Shape → ℕ → ℕ → List Served → List RequestData
mine shape c d all = requests_of (asked_by c (served_at shape d all))

pub answered-append : (shape : Shape) (c d : ℕ) (xs ys : List Packet) → answered shape c d (xs ++ ys) ≡ answered shape c d xs ++ answered shape c d ys
answered-append shape c d [] ys = refl
answered-append shape c d (x ∷ xs) ys = ap (λ (l : List RequestData). answered_by shape c d x.reply l) (answered-append shape c d xs ys) ∙ by x.reply
  where
    by : (o : Option ReplyData) → answered_by shape c d o (answered shape c d xs ++ answered shape c d ys) ≡ answered_by shape c d o (answered shape c d xs) ++ answered shape c d ys
    by None = refl
    by (Some r) = elim (cases_Bool (op_dest shape r.op == d)) [ inl e ↦ rw e refl | inr e ↦ rw e refl ]

own_request : (c : ℕ) (a : Served) → a.request.core ≡ c → answers c (reply_to a) ≡ a.request
own_request c a e = ap (λ (k : ℕ). answers k (reply_to a)) (sym e)

-- a packet with a reply answers its request, and one without answers none
answered_reply : (shape : Shape) (c d n : ℕ) (a : Served) (ks : List KillData) (rest : List Packet)
    → answered shape c d (posted_before (packet_of n (Some (reply_to a)) ks) rest) ≡ answered_by shape c d (Some (reply_to a)) (answered shape c d rest)
answered_reply shape c d n a ks rest = refl

answered_kills : (shape : Shape) (c d n : ℕ) (ks : List KillData) (rest : List Packet) → answered shape c d (posted_before (packet_of n None ks) rest) ≡ answered shape c d rest
answered_kills shape c d n [] rest = refl
answered_kills shape c d n (k ∷ ks) rest = refl

-- the posts to a core answer what was admitted of it
pub answered_posts : (shape : Shape) (c d n : ℕ) (all : List Served) → answered shape c d (posts_from c n all) ≡ mine shape c d all
answered_posts shape c d n [] = refl
answered_posts shape c d n (a ∷ all) =
    let rest = answered_posts shape c d (suc n) all in
    let posts : List Packet = posts_from c (suc n) all in
    elim (cases_Bool (a.request.core == c)) [
      | inl e ↦
          let shown : answered shape c d (posts_from c n (a ∷ all)) ≡ answered_by shape c d (Some (reply_to a)) (answered shape c d posts) =
          ap (λ (b : Bool). answered shape c d (posted_before (packet_of n (if b then Some (reply_to a) else None) (kills_to c a.kills)) posts)) e in
          shown ∙ elim (cases_Bool (op_dest shape a.request.op == d)) [
            | inl f ↦ rw f (rw e (ap (λ (r : RequestData). r ∷ answered shape c d posts) (own_request c a (eqb-true a.request.core c e)) ∙ ap (λ (l : List RequestData). a.request ∷ l) rest))
            | inr f ↦ rw f rest
          ]
      | inr e ↦
          let shown : answered shape c d (posts_from c n (a ∷ all)) ≡ answered shape c d posts =
          ap (λ (b : Bool). answered shape c d (posted_before (packet_of n (if b then Some (reply_to a) else None) (kills_to c a.kills)) posts)) e
          ∙ answered_kills shape c d n (kills_to c a.kills) posts in
          shown ∙ elim (cases_Bool (op_dest shape a.request.op == d)) [
            | inl f ↦ rw f (rw e rest)
            | inr f ↦ rw f rest
          ]
    ]

nil_rest : (shape : Shape) (c d : ℕ) (o : Option ReplyData) (rs : List RequestData) → answered_by shape c d o rs ≡ [] → rs ≡ []
nil_rest shape c d None rs z = z
nil_rest shape c d (Some t) rs z =
    elim (cases_Bool (op_dest shape t.op == d)) [
      | inl g ↦ (let w : answers c t ∷ rs ≡ [] = rw g at z in cc)
      | inr g ↦ (let w : rs ≡ [] = rw g at z in w)
    ]

pub answers_some : (shape : Shape) (c d : ℕ) (x : Packet) (ps : List Packet) (r : ReplyData) → IsIn x ps → x.reply ≡ Some r → (op_dest shape r.op == d) ≡ true → answered shape c d ps ≡ [] → ⊥
answers_some shape c d x [] r h e f z = h
answers_some shape c d x (p ∷ ps) r (inl same) e f z =
    let q : p.reply ≡ Some r = ap (λ (v : Packet). v.reply) (sym same) ∙ e in
    let z' : answered_by shape c d (Some r) (answered shape c d ps) ≡ [] = ap (λ (o : Option ReplyData). answered_by shape c d o (answered shape c d ps)) (sym q) ∙ z in
    let z2 : answers c r ∷ answered shape c d ps ≡ [] = rw f at z' in cc
answers_some shape c d x (p ∷ ps) r (inr h) e f z = answers_some shape c d x ps r h e f (nil_rest shape c d p.reply (answered shape c d ps) z)
