use Rattle.std.proofs.Common.{◌≡◌, ◌≤◌, length, drop}
use Rattle.t1_packet.specs.Packets.{kills_to}
use Rattle.t1_packet.proofs.FirstKills.{first_after}
use Rattle.t1_packet.proofs.post.kills_to.Given as goal

abbrev pub invariant-loop-kill : goal.invariant-loop-kill
invariant-loop-kill l = (first_after l.core l.kills (drop l.kill-index l.kill-items) ≡ kills_to l.core l.served.kills) × (length l.kills ≤ 8)
