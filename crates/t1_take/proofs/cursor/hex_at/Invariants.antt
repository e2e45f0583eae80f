use Rattle.std.proofs.Common.{◌≤◌}
use Rattle.t1_take.proofs.HexDigits.{IsHexAt}
use Rattle.t1_take.proofs.cursor.hex_at.Given as goal

abbrev pub invariant-loop-place : goal.invariant-loop-place
invariant-loop-place l = l.place ≤ 16 → IsHexAt l.text l.at l.place l.value
