-- One core more, of those that packets are made for.
use Rattle.std.proofs.Common.{◌≡◌, ◌+◌, ◌-◌, ◌<◌, ℕ, suc, true, false, List, [], ◌∷◌, ◌++◌, Some, None, refl, arith, append_assoc}
use Rattle.t1_packet.specs.declared.packet.Packet.{Packet}
use Rattle.t1_packet.specs.declared.served.Served.{Served}
use Rattle.t1_packet.specs.Packets.{packet_to}
use Rattle.t1_xbar.specs.declared.admitted.Post.{Post}
use Rattle.t1_xbar.specs.Admission.{posts_from, full_from, has_room}

one_left : (core cores : ℕ) → core < cores → cores - core ≡ suc (cores - (core + 1))
one_left core cores below = omega arith

-- a core that gets nothing
pub posts_other : (index : ℕ) (served : Served) (core cores : ℕ) (posts : List Post) → core < cores → packet_to core index served ≡ None
    → posts ++ posts_from index served (core + 1) (cores - (core + 1)) ≡ posts ++ posts_from index served core (cores - core)
unfolding posts_from
posts_other index served core cores posts below none = rw (one_left core cores below, none) refl

pub full_other : (rooms index : ℕ) (served : Served) (core cores : ℕ) → core < cores → packet_to core index served ≡ None
    → full_from rooms index served (core + 1) (cores - (core + 1)) ≡ full_from rooms index served core (cores - core)
unfolding full_from
full_other rooms index served core cores below none = rw (one_left core cores below, none) refl

-- a core that gets a packet and has room
pub posts_more : (index : ℕ) (served : Served) (core cores : ℕ) (posts : List Post) (packet : Packet) → core < cores → packet_to core index served ≡ Some packet
    → (posts ++ record { core = core; packet = packet } ∷ []) ++ posts_from index served (core + 1) (cores - (core + 1)) ≡ posts ++ posts_from index served core (cores - core)
unfolding posts_from
posts_more index served core cores posts packet below some =
    let post : Post = record { core = core; packet = packet } in
    rw (one_left core cores below, some) (append_assoc posts (post ∷ []) (posts_from index served (core + 1) (cores - (core + 1))))

pub full_more : (rooms index : ℕ) (served : Served) (core cores : ℕ) (packet : Packet) → core < cores → packet_to core index served ≡ Some packet
    → has_room rooms core ≡ true
    → full_from rooms index served (core + 1) (cores - (core + 1)) ≡ full_from rooms index served core (cores - core)
unfolding full_from
full_more rooms index served core cores packet below some room = rw (one_left core cores below, some, room) refl

-- a core that gets a packet and has none
pub full_here : (rooms index : ℕ) (served : Served) (core cores : ℕ) (packet : Packet) → core < cores → packet_to core index served ≡ Some packet
    → has_room rooms core ≡ false → full_from rooms index served core (cores - core) ≡ Some core
unfolding full_from
full_here rooms index served core cores packet below some full = rw (one_left core cores below, some, full) refl
