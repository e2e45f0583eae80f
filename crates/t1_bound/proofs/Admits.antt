-- What an admission does to the log, and how many packets it posts.
use Rattle.std.proofs.Common.{◌≡◌, ◌≤◌, ◌+◌, ℕ, zero, suc, Bool, true, false, nat_lt, List, [], ◌∷◌, length, Option, Some, None, refl, arith, length-append, if◌then◌else◌}
use Rattle.t1_packet.specs.declared.packet.Packet.{Packet}
use Rattle.t1_packet.specs.declared.served.Served.{Served}
use Rattle.t1_packet.specs.Packets.{packet_to}
use Rattle.t1_event.specs.Log.{commit_of}
use Rattle.t1_xbar.specs.declared.admitted.Post.{Post}
use Rattle.t1_xbar.specs.declared.admitted.Admitted.{Admitted}
use Rattle.t1_xbar.specs.declared.admitted.Admitted.TheVariants as admitted
use Rattle.t1_xbar.specs.Admission.{XbarState, Admission, post_before, posts_from, full_from, admitted_unless, admission}
use Rattle.t1_machine.specs.Machine.{posts_pushed}
use Rattle.t1_bound.specs.Weights.{lengths}
use Rattle.t1_bound.proofs.Lists.{push_length}

-- an access that was admitted is one record, and at most one packet for each core
pub record IsOneMore (x y : XbarState) (posts : List Post) : Type 0 where
  pub few : length posts ≤ x.cores
  pub log : length y.log ≡ length x.log + 1
  pub cores : y.cores ≡ x.cores
  pub room : y.room ≡ x.room

abbrev pub IsAdmitted : XbarState → XbarState → Admitted → Type 0
IsAdmitted x y (admitted.Done index posts) = IsOneMore x y posts
IsAdmitted x y (admitted.NotSeen seen len) = Unit {0}
IsAdmitted x y (admitted.NoRoom core) = Unit {0}

pub posts_length : (posts : List Post) (replies : List (List Packet)) → lengths (posts_pushed posts replies) ≤ lengths replies + length posts
unfolding posts_pushed
posts_length [] replies = omega arith
posts_length (post ∷ posts) replies =
    let k = posts_length posts replies in
    let j = push_length (posts_pushed posts replies) post.core post.packet in
    omega (arith, k, j)

before_few : (core : ℕ) (o : Option Packet) (posts : List Post) (n : ℕ) → length posts ≤ n → length (post_before core o posts) ≤ suc n
before_few core None posts n h = omega arith
before_few core (Some packet) posts n h = omega arith

from_few : (index : ℕ) (access : Served) (core n : ℕ) → length (posts_from index access core n) ≤ n
unfolding posts_from
from_few index access core zero = omega arith
from_few index access core (suc n) = before_few core (packet_to core index access) (posts_from index access (core + 1) n) n (from_few index access (core + 1) n)

unless_full : (x : XbarState) (dest : ℕ) (access : Served) (full : Option ℕ) → IsAdmitted x (admitted_unless x dest access full).xbar (admitted_unless x dest access full).answer
unless_full x dest access None = record {
  few = from_few (length x.log) access 0 x.cores;
  log = length-append x.log (commit_of x.strands dest access ∷ []);
  cores = refl;
  room = refl;
}
unless_full x dest access (Some core) = tt

admitted_if : (b : Bool) (x : XbarState) (y z : Admission) → IsAdmitted x y.xbar y.answer → IsAdmitted x z.xbar z.answer
    → IsAdmitted x (if b then y else z).xbar (if b then y else z).answer
admitted_if true x y z p q = p
admitted_if false x y z p q = q

pub is_admitted : (x : XbarState) (dest : ℕ) (access : Served) (rooms : ℕ) → IsAdmitted x (admission x dest access rooms).xbar (admission x dest access rooms).answer
unfolding admission
is_admitted x dest access rooms =
    admitted_if (nat_lt (length x.log) access.request.seen) x _ _ tt (unless_full x dest access (full_from rooms (length x.log) access 0 x.cores))
