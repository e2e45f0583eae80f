-- What an admission posts, and that there is room for it.
use Rattle.std.proofs.Common.{◌≡◌, ◌≢◌, ◌+◌, ◌<◌, ◌≤◌, ℕ, zero, suc, Bool, true, false, List, [], ◌∷◌, ◌++◌, length, get_or, Option, Some, None, refl, arith, subst, nat_lt, if◌then◌else◌}
use Rattle.std.proofs.lemmas.Bool.{ltb-false}
use Rattle.t1_packet.specs.declared.packet.Packet.{Packet}
use Rattle.t1_packet.specs.declared.served.Served.{Served}
use Rattle.t1_packet.specs.Packets.{packet_to}
use Rattle.t1_xbar.specs.declared.admitted.Post.{Post}
use Rattle.t1_xbar.specs.declared.admitted.Admitted.{Admitted}
use Rattle.t1_xbar.specs.declared.admitted.Admitted.TheVariants as admitted
use Rattle.t1_xbar.specs.Admission.{XbarState, Admission, posts_from, post_before, full_from, full_before, with_record, admission, admitted_unless}
use Rattle.t1_ring.specs.Row.{has_bit}
use Rattle.t1_live.specs.Posts.{CanPost}

-- ---- the last of some posts

last_above : (low : ℕ) (posts : List Post) (post : Post) (rooms : List ℕ) → CanPost low (posts ++ post ∷ []) rooms → low ≤ post.core
last_above low [] post rooms h = h.0
last_above low (q ∷ qs) post rooms h = let above : q.core + 1 ≤ post.core = last_above (q.core + 1) qs post rooms h.2 in omega (arith, h.0, above)

pub last_can : (low : ℕ) (posts : List Post) (post : Post) (rooms : List ℕ) → CanPost low (posts ++ post ∷ []) rooms → 0 < get_or rooms post.core 0
last_can low [] post rooms h = h.1
last_can low (q ∷ qs) post rooms h = last_can (q.core + 1) qs post rooms h.2

pub rest_can : (low : ℕ) (posts : List Post) (post : Post) (rooms now : List ℕ) → CanPost low (posts ++ post ∷ []) rooms
    → ((j : ℕ) → j ≢ post.core → get_or now j 0 ≡ get_or rooms j 0) → CanPost low posts now
rest_can low [] post rooms now h same = tt
rest_can low (q ∷ qs) post rooms now h same =
    let above : q.core + 1 ≤ post.core = last_above (q.core + 1) qs post rooms h.2 in
    let e : get_or now q.core 0 ≡ get_or rooms q.core 0 = same q.core (λ z. omega (arith, z, above)) in
    (h.0, omega (arith, e, h.1), rest_can (q.core + 1) qs post rooms now h.2 same)

-- ---- an admission that is done

pub record IsDone (x after : XbarState) (dest : ℕ) (access : Served) (index : ℕ) (posts : List Post) (full : Option ℕ) : Type 0 where
  pub seen : access.request.seen ≤ length x.log
  pub posts_are : posts_from (length x.log) access 0 x.cores ≡ posts
  pub after_is : after ≡ with_record x dest access
  pub none_full : full ≡ None

by_full : (x : XbarState) (dest : ℕ) (access : Served) (index : ℕ) (posts : List Post) (full : Option ℕ) → access.request.seen ≤ length x.log
    → (admitted_unless x dest access full).answer ≡ admitted.Done index posts → IsDone x (admitted_unless x dest access full).xbar dest access index posts full
by_full x dest access index posts None seen e = record { seen = seen; posts_are = (let q : posts_from (length x.log) access 0 x.cores ≡ posts = cc (e) in q); after_is = refl; none_full = refl }
by_full x dest access index posts (Some core) seen e = let clash : ◌≡◌ {A = Admitted} (admitted.NoRoom core) (admitted.Done index posts) = e in cc

by_seen : (t : Bool) (x : XbarState) (dest : ℕ) (access : Served) (index : ℕ) (posts : List Post) (full : Option ℕ) → nat_lt (length x.log) access.request.seen ≡ t
    → let y : Admission = if t then record { xbar = x; answer = admitted.NotSeen access.request.seen (length x.log) } else admitted_unless x dest access full in
    y.answer ≡ admitted.Done index posts → IsDone x y.xbar dest access index posts full
by_seen true x dest access index posts full t e = let clash : ◌≡◌ {A = Admitted} (admitted.NotSeen access.request.seen (length x.log)) (admitted.Done index posts) = e in cc
by_seen false x dest access index posts full t e = by_full x dest access index posts full (let l = ltb-false (length x.log) access.request.seen t in omega (arith, l)) e

pub is_done : (x : XbarState) (dest : ℕ) (access : Served) (rooms index : ℕ) (posts : List Post) → (admission x dest access rooms).answer ≡ admitted.Done index posts
    → IsDone x (admission x dest access rooms).xbar dest access index posts (full_from rooms (length x.log) access 0 x.cores)
unfolding admission
is_done x dest access rooms index posts e = by_seen (nat_lt (length x.log) access.request.seen) x dest access index posts (full_from rooms (length x.log) access 0 x.cores) refl e

-- ---- its posts

lower : (low core : ℕ) (posts : List Post) (rooms : List ℕ) → low ≤ core → CanPost core posts rooms → CanPost low posts rooms
lower low core [] rooms h f = tt
lower low core (post ∷ posts) rooms h f = (omega (arith, f.0, h), f.1, f.2)

room_cases : (b : Bool) (core : ℕ) (full : Option ℕ) → (if b then full else Some core) ≡ None → (b ≡ true) × (full ≡ None)
room_cases true core full e = (refl, e)
room_cases false core full e = let clash : ◌≡◌ {A = Option ℕ} (Some core) None = e in cc

one_can : (word core : ℕ) (packet : Option Packet) (posts : List Post) (full : Option ℕ) (rooms : List ℕ) → (has_bit word core ≡ true → 0 < get_or rooms core 0)
    → (full ≡ None → CanPost (core + 1) posts rooms) → full_before word core packet full ≡ None → CanPost core (post_before core packet posts) rooms
one_can word core None posts full rooms room rest none = lower core (core + 1) posts rooms (omega arith) (rest none)
one_can word core (Some packet) posts full rooms room rest none = let both = room_cases (has_bit word core) core full none in (omega arith, room both.0, rest both.1)

all_can : (word index : ℕ) (access : Served) (core n : ℕ) (rooms : List ℕ) → ((j : ℕ) → has_bit word j ≡ true → 0 < get_or rooms j 0)
    → full_from word index access core n ≡ None → CanPost core (posts_from index access core n) rooms
unfolding posts_from full_from
all_can word index access core zero rooms room none = tt
all_can word index access core (suc n) rooms room none =
    one_can word core (packet_to core index access) (posts_from index access (core + 1) n) (full_from word index access (core + 1) n) rooms (room core) (λ h. all_can word index access (core + 1) n rooms room h) none

pub done_can : (x : XbarState) (dest : ℕ) (access : Served) (word index : ℕ) (posts : List Post) (rooms : List ℕ) → ((j : ℕ) → has_bit word j ≡ true → 0 < get_or rooms j 0)
    → (admission x dest access word).answer ≡ admitted.Done index posts → CanPost 0 posts rooms
done_can x dest access word index posts rooms room e =
    let d = is_done x dest access word index posts e in
    subst (λ (ps : List Post). CanPost 0 ps rooms) d.posts_are (all_can word (length x.log) access 0 x.cores rooms room d.none_full)
