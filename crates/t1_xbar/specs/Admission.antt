-- Admission: an access gets the next index of the log, and its packets are posted; or nothing changes
-- (OpenSPARC T1 Microarchitecture Specification, chapter 3).
use Rattle.std.specs.Prelude.{ℕ, zero, suc, ◌≡◌, ◌+◌, ◌/◌, ◌%◌, ◌^◌, ◌==◌, nat_lt, Bool, true, false, if◌then◌else◌, List, [], ◌∷◌, ◌++◌, length, Option, Some, None, Result, Ok, Err}
use Rattle.t1_packet.specs.declared.packet.Packet.{Packet}
use Rattle.t1_packet.specs.declared.served.Served.{Served}
use Rattle.t1_packet.specs.Packets.{packet_to}
use Rattle.t1_event.specs.declared.commit.Commit.{Commit}
use Rattle.t1_event.specs.Log.{commit_of}
use Rattle.t1_xbar.specs.declared.admitted.Post.{Post}
use Rattle.t1_xbar.specs.declared.admitted.Admitted.{Admitted}
use Rattle.t1_xbar.specs.declared.admitted.Admitted.TheVariants.{Done, NotSeen, NoRoom}

-- the log, the records that it has room for, and the cores and strands of each that get packets
pub record XbarState : Type 0 where
  pub log : List Commit
  pub room : ℕ
  pub cores : ℕ
  pub strands : ℕ

-- core c has room: its bit of the word is set
abbrev pub has_room : ℕ → ℕ → Bool
has_room rooms core = rooms / 2 ^ core % 2 == 1

-- ---- posts

abbrev pub post_before : ℕ → Option Packet → List Post → List Post
post_before core None posts = posts
post_before core (Some packet) posts = record { core = core; packet = packet } ∷ posts

-- what n cores get of an access with this index, from a core on, ascending
unfoldable pub posts_from : ℕ → Served → ℕ → ℕ → List Post
posts_from index served core zero = []
posts_from index served core (suc n) = post_before core (packet_to core index served) (posts_from index served (core + 1) n)

-- the core, where it gets a packet and has no room, else one after it
abbrev pub full_before : ℕ → ℕ → Option Packet → Option ℕ → Option ℕ
full_before rooms core None full = full
full_before rooms core (Some packet) full = if has_room rooms core then full else Some core

-- the least of n cores, from a core on, that gets a packet and has no room for it
unfoldable pub full_from : ℕ → ℕ → Served → ℕ → ℕ → Option ℕ
full_from rooms index served core zero = None
full_from rooms index served core (suc n) = full_before rooms core (packet_to core index served) (full_from rooms index served (core + 1) n)

-- ---- the crossbar after, and its answer

pub record Admission : Type 0 where
  pub xbar : XbarState
  pub answer : Admitted

abbrev pub with_record : XbarState → ℕ → Served → XbarState
with_record x dest served = record x { log = x.log ++ commit_of x.strands dest served ∷ [] }

abbrev pub admitted_unless : XbarState → ℕ → Served → Option ℕ → Admission
admitted_unless x dest served (Some core) = record { xbar = x; answer = NoRoom core }
admitted_unless x dest served None = record { xbar = with_record x dest served; answer = Done (length x.log) (posts_from (length x.log) served 0 x.cores) }

-- an access that was sent at a time that the log has not come to is not seen yet; else it is admitted,
-- unless a core that gets a packet has no room
unfoldable pub admission : XbarState → ℕ → Served → ℕ → Admission
admission x dest served rooms =
    if nat_lt (length x.log) served.request.seen then record { xbar = x; answer = NotSeen served.request.seen (length x.log) }
    else admitted_unless x dest served (full_from rooms (length x.log) served 0 x.cores)

abbrev pub is_done : Admitted → Bool
is_done (Done index posts) = true
is_done (NotSeen seen len) = false
is_done (NoRoom core) = false

-- what is not done changes nothing
abbrev pub StaysUnlessDone : {A : Type 0} → A → A → Admitted → Type 0
StaysUnlessDone before after (Done index posts) = Unit {0}
StaysUnlessDone before after (NotSeen seen len) = after ≡ before
StaysUnlessDone before after (NoRoom core) = after ≡ before

-- the posts to all cores, or the first core that has no room
abbrev pub posts_unless : ℕ → Served → ℕ → Option ℕ → Result (List Post) ℕ
posts_unless index served cores None = Ok (posts_from index served 0 cores)
posts_unless index served cores (Some core) = Err core

abbrev pub posts_or_full : ℕ → ℕ → Served → ℕ → Result (List Post) ℕ
posts_or_full rooms index served cores = posts_unless index served cores (full_from rooms index served 0 cores)
