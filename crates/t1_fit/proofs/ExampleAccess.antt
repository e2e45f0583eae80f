-- The one access of the example: the bank serves it, and its packet comes to a core whose caches are empty.
use Rattle.std.proofs.Common.{◌≡◌, ℕ, zero, suc, ◌+◌, ◌<◌, ◌==◌, nat_lt, inl, inr, Bool, true, false, cond, List, [], ◌∷◌, length, get_or, drop, replicate, Option, Some, None, refl, ap, sym, ◌∙◌, subst, arith}
use Rattle.std.specs.List.{slice_get}
use Rattle.std.proofs.lemmas.Bool.{cases_lt, le-ltb, eq-eqb, ne_eqb}
use Rattle.std.proofs.lemmas.List.{get_or_past}
use Rattle.t1_num.specs.Memory.{number_at}
use Rattle.t1_num.specs.declared.chip.ChipKind.TheVariants.{T1, T2}
use Rattle.t1_shape.specs.Numbers.{banks}
use Rattle.t1_shape.specs.Slots.{Line, set_of, first_slot, slot_of, tag, tags_of, at_slot, line_in}
use Rattle.t1_shape.proofs.Slots.{slot_some}
use Rattle.t1_shape.proofs.Once.{none_at}
use Rattle.t1_packet.specs.declared.cache.Cache.TheVariants.{Icache}
use Rattle.t1_packet.specs.declared.op.Op.TheVariants.{Fetch}
use Rattle.t1_packet.specs.declared.packet.Packet.{Packet}
use Rattle.t1_packet.specs.Data.{RequestData, ReplyData}
use Rattle.t1_packet.specs.Ops.{op_addr, op_size, op_dest}
use Rattle.t1_packet.specs.Caches.{layout}
use Rattle.t1_event.specs.Posts.{no_lines}
use Rattle.t1_packet.specs.declared.served.Served.{Served}
use Rattle.t1_packet.specs.Packets.{reply_to, packet_to}
use Rattle.t1_event.specs.BankRule.{is_fit, served_well, served_by}
use Rattle.t1_event.specs.Posts.{no_pointers}
use Rattle.t1_shape.specs.Slots.{victim_of}
use Rattle.t1_joint.specs.Lists.{IsIn}
use Rattle.t1_joint.specs.Parts.{posts_from, requests_of, asked_by, served_at, answered, unanswered}
use Rattle.t1_joint.specs.Proper.{packets_before}
use Rattle.t1_joint.specs.CoreRule.{IsSized, IsAsked}
use Rattle.t1_joint.specs.Fit.{destination_start, AreServed}
use Rattle.t1_joint.specs.JointHistory.{IsSetup}
use Rattle.std.proofs.Common.{is_none}
use Rattle.std.proofs.lemmas.List.{length-replicate, get_or-replicate}
use Rattle.t1_shape.specs.Slots.{empty_way, way_or}
use Rattle.t1_tso.proofs.Tags.{tag_at}
use Rattle.t1_fit.specs.Example.{zeros, example_setup, asked, fetched, asking_core}
use Rattle.t1_fit.proofs.States.{IsRight, own_access, fits_true, served_well_by}
use Rattle.t1_fit.proofs.Posts.{packet_is, own_packet, packet_own, from_posts, in_posts, answered_posts}
use Rattle.t1_fit.proofs.Commits.{old_is}

-- ---- the machine

pub zero_byte : (i : ℕ) → get_or zeros i 0 ≡ 0
unfolding zeros
zero_byte i = elim (cases_lt i 65536) [
  | inl l ↦ get_or-replicate 65536 i 0 0 l
  | inr past ↦ get_or_past (replicate 65536 0) i 0 (omega (arith, past, length-replicate {A = ℕ} 65536 0))
]

pub length_zeros : length zeros ≡ 65536
unfolding zeros
length_zeros = length-replicate {A = ℕ} 65536 0

pub setup_is : IsSetup example_setup
setup_is = record {
  cores = (omega arith, omega arith);
  strands = (omega arith, omega arith);
  sets = (omega arith, omega arith);
  ram = length_zeros;
  blocks = omega arith;
  small = omega arith;
  bytes = λ i. omega (arith, zero_byte i);
}

-- ---- the access

pub sized : IsSized 0 4
sized = record { size_is = inr (inr (inl refl)); aligned = omega arith }

pub may_ask : IsAsked T1 65536 (Fetch 0 0)
may_ask = (sized, omega arith, omega arith)

pub fit_is : is_fit (destination_start example_setup 0) asked ≡ true
fit_is =
    fits_true T1 1 (length zeros) 0 asked (omega arith) (omega arith)
    (own_access T1 (length zeros) 0 0 4 (omega (arith, length_zeros)) (omega arith) sized)

pub fetched_is : fetched ≡ served_by (destination_start example_setup 0) asked
unfolding fetched
fetched_is = refl

pub well_is : fetched ≡ served_well (destination_start example_setup 0) asked
well_is = fetched_is ∙ served_well_by (destination_start example_setup 0) asked fit_is

pub request_is : fetched.request ≡ asked
request_is = ap (λ (v : Served). v.request) well_is

pub core_is : fetched.request.core ≡ 0
core_is = ap (λ (r : RequestData). r.core) request_is

pub dest_is : op_dest T1 fetched.request.op ≡ 0
dest_is = ap (λ (r : RequestData). op_dest T1 r.op) request_is

pub served_is : AreServed T1 0 (destination_start example_setup 0) (fetched ∷ [])
served_is = (fetched_is ∙ ap (λ (r : RequestData). served_by (destination_start example_setup 0) r) (sym request_is), tt)

pub own_is : served_at T1 0 (fetched ∷ []) ≡ fetched ∷ []
own_is = (let t : (op_dest T1 fetched.request.op == 0) ≡ true = eq-eqb (op_dest T1 fetched.request.op) 0 dest_is in ap (λ (b : Bool). cond b (fetched ∷ []) []) t)

pub other_is : (d : ℕ) → served_at T1 (suc d) (fetched ∷ []) ≡ []
other_is d =
    let f : (op_dest T1 fetched.request.op == suc d) ≡ false = ne_eqb (op_dest T1 fetched.request.op) (suc d) (λ e. omega (arith, e, dest_is)) in
    ap (λ (b : Bool). cond b (fetched ∷ []) []) f

pub all_served : (d : ℕ) → AreServed T1 d (destination_start example_setup d) (served_at T1 d (fetched ∷ []))
all_served zero = subst (λ (l : List Served). AreServed T1 0 (destination_start example_setup 0) l) (sym own_is) served_is
all_served (suc d) = subst (λ (l : List Served). AreServed T1 (suc d) (destination_start example_setup (suc d)) l) (sym (other_is d)) tt

pub all_right : (n : ℕ) (a : Served) → slice_get (fetched ∷ []) n ≡ Some a → IsRight example_setup a.request
all_right zero a e =
    let q : fetched ≡ a = cc (e) in
    subst (λ (v : Served). IsRight example_setup v.request) q (subst (λ (r : RequestData). IsRight example_setup r) (sym request_is) (record { core = omega arith; strand = omega arith; asked = may_ask }))
all_right (suc n) a e = let clash : ◌≡◌ {A = Option Served} None (Some a) = e in cc

pub old_zero_is : fetched.old ≡ 0
unfolding number_at
old_zero_is =
    let l : op_dest T1 fetched.request.op < banks T1 = omega (arith, dest_is) in
    let read = old_is example_setup setup_is (fetched ∷ []) all_served all_right 0 fetched refl l in
    let at : number_at zeros (op_addr fetched.request.op) (op_size fetched.request.op) ≡ number_at zeros 0 4 = ap (λ (r : RequestData). number_at zeros (op_addr r.op) (op_size r.op)) request_is in
    let none : number_at zeros 0 4 ≡ 0 = omega (arith, zero_byte 0, zero_byte 1, zero_byte 2, zero_byte 3) in
    read ∙ (at ∙ none)

-- ---- its packet

pub own_among : IsIn (own_packet 0 fetched) (posts_from 0 0 (fetched ∷ []))
own_among = in_posts 0 0 0 (fetched ∷ []) fetched (own_packet 0 fetched) refl (subst (λ (c : ℕ). packet_to c 0 fetched ≡ Some (own_packet 0 fetched)) core_is (packet_own 0 fetched))

pub record IsTheReply (q : Packet) (r : ReplyData) : Type 0 where
  pub index : q.index ≡ 0
  pub reply : reply_to fetched ≡ r

pub the_reply : (q : Packet) (r : ReplyData) → IsIn q (posts_from 0 0 (fetched ∷ [])) → q.reply ≡ Some r → IsTheReply q r
the_reply q r h e = by (from_posts 0 0 (fetched ∷ []) q h)
  where
    by : ((n : ℕ) × (a : Served) × (slice_get (fetched ∷ []) n ≡ Some a) × (packet_to 0 (0 + n) a ≡ Some q)) → IsTheReply q r
    by g = go g.0 g.1 g.2 g.3
      where
        go : (n : ℕ) (a : Served) → slice_get (fetched ∷ []) n ≡ Some a → packet_to 0 (0 + n) a ≡ Some q → IsTheReply q r
        go zero a i f =
            let p = packet_is 0 (0 + 0) a q f in
            let same : fetched ≡ a = cc (i) in
            record { index = p.index; reply = ap reply_to same ∙ p.reply r e }
        go (suc n) a i f = let clash : ◌≡◌ {A = Option Served} None (Some a) = i in cc

pub answered_is : answered T1 0 0 (posts_from 0 0 (fetched ∷ [])) ≡ asked ∷ []
answered_is =
    answered_posts T1 0 0 0 (fetched ∷ [])
    ∙ (ap (λ (l : List Served). requests_of (asked_by 0 l)) own_is
    ∙ ((let t : (fetched.request.core == 0) ≡ true = eq-eqb fetched.request.core 0 core_is in ap (λ (b : Bool). requests_of (cond b (fetched ∷ []) [])) t)
    ∙ ap (λ (r : RequestData). r ∷ []) request_is))

pub none_out : (d : ℕ) → unanswered T1 0 asking_core.sent asking_core.received d ≡ []
none_out zero = ap (λ (l : List RequestData). drop (length l) (asked ∷ [])) answered_is
none_out (suc d) = drop_nil (length (answered T1 0 (suc d) asking_core.received))
  where
    drop_nil : (n : ℕ) → ◌≡◌ {A = List RequestData} (drop n []) []
    drop_nil zero = refl
    drop_nil (suc n) = refl

-- ---- caches at the start

pub before_zero : (ps : List Packet) → packets_before 0 ps ≡ []
before_zero [] = refl
before_zero (p ∷ ps) =
    let f : nat_lt p.index 0 ≡ false = le-ltb p.index 0 (omega arith) in
    rw f (before_zero ps)

pub blank : List (Option Line)
blank = replicate 512 None

pub none_line : (line : ℕ) → line_in (layout T1 Icache) (no_lines T1 Icache) line ≡ None
unfolding no_lines blank
none_line line = go (slot_of (layout T1 Icache) (tags_of blank) line) refl
  where
    go : (o : Option ℕ) → slot_of (layout T1 Icache) (tags_of blank) line ≡ o → at_slot blank o ≡ None
    go None e = refl
    go (Some j) e =
        let found = slot_some (layout T1 Icache) (tags_of blank) line j e in
        let tag_is : tag (get_or blank j None) ≡ Some line = sym (tag_at blank j) ∙ found.is in
        by (get_or blank j None) refl tag_is
      where
        by : (o : Option Line) → get_or blank j None ≡ o → tag o ≡ Some line → get_or blank j None ≡ None
        by None e t = e
        by (Some l) e t = absurd (none_at 512 j l e)

pub first_way : (line : ℕ) → victim_of (layout T1 Icache) (no_lines T1 Icache) (no_pointers T1 Icache) line ≡ 0
unfolding no_lines victim_of blank
first_way line =
    let empty : get_or blank (first_slot (layout T1 Icache) line + 0) None ≡ None = none_there (first_slot (layout T1 Icache) line + 0) in
    ap (λ (o : Option Line). way_or (cond (is_none o) (Some 0) (empty_way blank (first_slot (layout T1 Icache) line) 1 3)) (get_or (no_pointers T1 Icache) (set_of (layout T1 Icache) line) 0)) empty
  where
    none_there : (i : ℕ) → get_or blank i None ≡ None
    none_there i = by (get_or blank i None) refl
      where
        by : (o : Option Line) → get_or blank i None ≡ o → get_or blank i None ≡ None
        by None e = e
        by (Some l) e = absurd (none_at 512 i l e)
