use Rattle.std.proofs.Common.{◌≡◌, ◌≤◌, length, take}
use Rattle.t1_packet.proofs.kills.Kills.copied.Given as goal

abbrev pub invariant-loop-kill : goal.invariant-loop-kill
invariant-loop-kill g l = (l.kills-inside.items.items ≡ take l.kill-index l.kill-items) × (length l.kill-items ≤ g.row.MOST)
