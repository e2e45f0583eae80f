-- Packets that have room.
use Rattle.std.specs.Prelude.{ℕ, ◌+◌, ◌<◌, ◌≤◌, List, [], ◌∷◌, length, get_or}
use Rattle.t1_packet.specs.declared.packet.Packet.{Packet}
use Rattle.t1_xbar.specs.declared.admitted.Post.{Post}
use Rattle.t1_machine.specs.Machine.{most_replies}

-- each packet is for a core of its own, ascending from one on, whose ring has room
abbrev pub CanPush : ℕ → List Post → List (List Packet) → Type 0
CanPush low [] replies = Unit {0}
CanPush low (post ∷ posts) replies =
    (low ≤ post.core) × (post.core < length replies) × (length (get_or replies post.core []) < most_replies) × CanPush (post.core + 1) posts replies
