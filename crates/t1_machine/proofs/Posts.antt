-- Posts into rings that have room, the last first.
use Rattle.std.proofs.Common.{◌≡◌, ◌∙◌, ◌+◌, ◌*◌, ◌%◌, ◌^◌, ◌==◌, ◌<◌, ◌≤◌, ℕ, zero, suc, Bool, true, false, List, [], ◌∷◌, ◌++◌, length, get_or, set, Option, Some, None, refl, ap, sym, arith, subst, nat_lt, if◌then◌else◌}
use Rattle.std.proofs.Math.ListN.{length-set}
use Rattle.std.specs.Prelude.{bit_or}
use Rattle.std.specs.Int.{bit_at, w8}
use Rattle.std.proofs.lemmas.Bool.{eqb-true, eqb-false}
use Rattle.std.proofs.lemmas.List.{get_or-set_other}
use Rattle.std.proofs.lemmas.Nat.Bits.{bit_at_set_same, bit_at_set_other}
use Rattle.t1_packet.specs.declared.packet.Packet.{Packet}
use Rattle.t1_packet.specs.declared.served.Served.{Served}
use Rattle.t1_packet.specs.Packets.{packet_to}
use Rattle.t1_core.specs.Steps.{has_room}
use Rattle.t1_xbar.specs.declared.admitted.Post.{Post}
use Rattle.t1_xbar.specs.declared.admitted.Admitted.{Admitted}
use Rattle.t1_xbar.specs.declared.admitted.Admitted.TheVariants as admitted
use Rattle.t1_xbar.specs.Admission.{XbarState, Admission, posts_from, post_before, full_from, full_before, admission, admitted_unless}
use Rattle.t1_machine.specs.Machine.{most_replies, posts_pushed, post_pushed, reply_rooms}
use Rattle.t1_machine.specs.Pushes.{CanPush}
use Rattle.t1_machine.proofs.Bits.{reply_has_room}

pub last_pushed : (posts : List Post) (post : Post) (replies : List (List Packet)) → posts_pushed (posts ++ post ∷ []) replies ≡ posts_pushed posts (post_pushed replies post)
unfolding posts_pushed
last_pushed [] post replies = refl
last_pushed (q ∷ qs) post replies = ap (λ (rs : List (List Packet)). post_pushed rs q) (last_pushed qs post replies)

last_above : (low : ℕ) (posts : List Post) (post : Post) (replies : List (List Packet)) → CanPush low (posts ++ post ∷ []) replies → low ≤ post.core
last_above low [] post replies h = h.0
last_above low (q ∷ qs) post replies h = let above : q.core + 1 ≤ post.core = last_above (q.core + 1) qs post replies h.3 in omega (arith, h.0)

pub last_fits : (low : ℕ) (posts : List Post) (post : Post) (replies : List (List Packet)) → CanPush low (posts ++ post ∷ []) replies
    → (post.core < length replies) × (length (get_or replies post.core []) < most_replies)
last_fits low [] post replies h = (h.1, h.2)
last_fits low (q ∷ qs) post replies h = last_fits (q.core + 1) qs post replies h.3

-- a read before the write
read_before : (rings : List (List Packet)) (i k : ℕ) (v : List Packet) → k < i → get_or (set rings i v) k [] ≡ get_or rings k []
read_before [] i k v h = refl
read_before (r ∷ rs) zero k v h = absurd (omega arith)
read_before (r ∷ rs) (suc i) zero v h = refl
read_before (r ∷ rs) (suc i) (suc k) v h = read_before rs i k v (omega arith)

pub rest_fits : (low : ℕ) (posts : List Post) (post : Post) (replies : List (List Packet)) → CanPush low (posts ++ post ∷ []) replies → CanPush low posts (post_pushed replies post)
rest_fits low [] post replies h = tt
rest_fits low (q ∷ qs) post replies h =
    let above : q.core + 1 ≤ post.core = last_above (q.core + 1) qs post replies h.3 in
    let v : List Packet = get_or replies post.core [] ++ post.packet ∷ [] in
    let same : get_or (set replies post.core v) q.core [] ≡ get_or replies q.core [] = read_before replies post.core q.core v (omega arith) in
    let long : length (set replies post.core v) ≡ length replies = length-set replies post.core v in
    (h.0, omega (arith, long, h.1), rw same h.2, rest_fits (q.core + 1) qs post replies h.3)

-- a core that has no bit was not posted to
pub other_ring : (cores k core : ℕ) (rings first : List (List Packet)) (v : List Packet) → k < 8 → bit_at (bit_or cores (1 * 2 ^ k % 2 ^ 8)) core ≡ 0
    → (bit_at cores core ≡ 0 → get_or rings core [] ≡ get_or first core []) → get_or (set rings k v) core [] ≡ get_or first core []
other_ring cores k core rings first v h bit same = at (core == k) refl where
  at : (b : Bool) → (core == k) ≡ b → get_or (set rings k v) core [] ≡ get_or first core []
  at true e =
      let here : bit_at (bit_or cores (1 * 2 ^ k % 2 ^ 8)) k ≡ 1 = bit_at_set_same w8 cores k h in
      let there : bit_at (bit_or cores (1 * 2 ^ k % 2 ^ 8)) k ≡ 0 = subst (λ (j : ℕ). bit_at (bit_or cores (1 * 2 ^ k % 2 ^ 8)) j ≡ 0) (eqb-true core k e) bit in
      let clash : ◌≡◌ {A = ℕ} 1 0 = sym here ∙ there in absurd (omega (arith, clash))
  at false e =
      let other = eqb-false core k e in
      get_or-set_other rings k core v [] other ∙ same (sym (bit_at_set_other w8 cores k h core other) ∙ bit)

-- ---- the posts of an access that was admitted

lower : (low core : ℕ) (posts : List Post) (replies : List (List Packet)) → low ≤ core → CanPush core posts replies → CanPush low posts replies
lower low core [] replies h f = tt
lower low core (post ∷ posts) replies h f = (omega (arith, f.0), f.1, f.2, f.3)

room_cases : (b : Bool) (core : ℕ) (full : Option ℕ) → (if b then full else Some core) ≡ None → (b ≡ true) × (full ≡ None)
room_cases true core full e = (refl, e)
room_cases false core full e = let clash : ◌≡◌ {A = Option ℕ} (Some core) None = e in cc

post_fits : (rooms core : ℕ) (packet : Option Packet) (posts : List Post) (full : Option ℕ) (replies : List (List Packet)) → core < length replies
    → (has_room rooms core ≡ true → length (get_or replies core []) < most_replies)
    → (full ≡ None → CanPush (core + 1) posts replies) → full_before rooms core packet full ≡ None → CanPush core (post_before core packet posts) replies
post_fits rooms core None posts full replies h room rest none = lower core (core + 1) posts replies (omega arith) (rest none)
post_fits rooms core (Some packet) posts full replies h room rest none =
    let both = room_cases (has_room rooms core) core full none in
    (omega arith, h, room both.0, rest both.1)

can_push : (rooms index : ℕ) (access : Served) (core n : ℕ) (replies : List (List Packet)) → core + n ≡ length replies
    → ((i : ℕ) → i < length replies → has_room rooms i ≡ true → length (get_or replies i []) < most_replies)
    → full_from rooms index access core n ≡ None → CanPush core (posts_from index access core n) replies
unfolding posts_from full_from
can_push rooms index access core zero replies e room none = tt
can_push rooms index access core (suc n) replies e room none =
    post_fits rooms core (packet_to core index access) (posts_from index access (core + 1) n) (full_from rooms index access (core + 1) n) replies (omega arith)
    (room core (omega arith)) (λ h. can_push rooms index access (core + 1) n replies (omega arith) room h) none

done_fits : (x : XbarState) (dest : ℕ) (access : Served) (replies : List (List Packet)) (full : Option ℕ) (index : ℕ) (posts : List Post) → x.cores ≡ length replies
    → full_from (reply_rooms replies) (length x.log) access 0 x.cores ≡ full → (admitted_unless x dest access full).answer ≡ admitted.Done index posts → CanPush 0 posts replies
done_fits x dest access replies None index posts e h f =
    let same : posts_from (length x.log) access 0 x.cores ≡ posts = cc in
    subst (λ (ps : List Post). CanPush 0 ps replies) same (can_push (reply_rooms replies) (length x.log) access 0 x.cores replies (omega (arith, e)) (reply_has_room replies) h)
done_fits x dest access replies (Some core) index posts e h f = let clash : ◌≡◌ {A = Admitted} (admitted.NoRoom core) (admitted.Done index posts) = f in cc

seen_cases : (b : Bool) (x y : Admission) (index : ℕ) (posts : List Post) (P : Type 0) → (x.answer ≡ admitted.Done index posts → P)
    → (y.answer ≡ admitted.Done index posts → P) → (if b then x else y).answer ≡ admitted.Done index posts → P
seen_cases true x y index posts P f g e = f e
seen_cases false x y index posts P f g e = g e

-- an access that is admitted has posts that have room
pub admitted_fits : (x : XbarState) (dest : ℕ) (access : Served) (replies : List (List Packet)) (index : ℕ) (posts : List Post) → x.cores ≡ length replies
    → (admission x dest access (reply_rooms replies)).answer ≡ admitted.Done index posts → CanPush 0 posts replies
unfolding admission
admitted_fits x dest access replies index posts e =
    seen_cases (nat_lt (length x.log) access.request.seen) _ _ index posts (CanPush 0 posts replies)
    (λ f. let clash : ◌≡◌ {A = Admitted} (admitted.NotSeen access.request.seen (length x.log)) (admitted.Done index posts) = f in cc)
    (λ f. done_fits x dest access replies _ index posts e refl f)

-- ---- an admission leaves the cores as they are

cores_unless : (x : XbarState) (dest : ℕ) (access : Served) (full : Option ℕ) → (admitted_unless x dest access full).xbar.cores ≡ x.cores
cores_unless x dest access None = refl
cores_unless x dest access (Some core) = refl

seen_cores : (b : Bool) (x : XbarState) (y z : Admission) → y.xbar.cores ≡ x.cores → z.xbar.cores ≡ x.cores → (if b then y else z).xbar.cores ≡ x.cores
seen_cores true x y z e f = e
seen_cores false x y z e f = f

pub admission_cores : (x : XbarState) (dest : ℕ) (access : Served) (rooms : ℕ) (after : XbarState) → after ≡ (admission x dest access rooms).xbar → after.cores ≡ x.cores
unfolding admission
admission_cores x dest access rooms after e =
    ap (λ (y : XbarState). y.cores) e ∙ seen_cores (nat_lt (length x.log) access.request.seen) x _ _ refl (cores_unless x dest access _)
