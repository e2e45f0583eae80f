use Rattle.std.proofs.Common.{◌≡◌, ◌≤◌, ◌+◌, ◌++◌, length}
use Rattle.t1_dis.specs.Hex.{hex_of}
use Rattle.t1_dis.proofs.text.Text.hex.Given as goal

abbrev pub invariant-loop-place : goal.invariant-loop-place
invariant-loop-place l = record {
  all : l.self ++ hex_of l.place l.number ≡ l.initial.self ++ hex_of l.digits l.number;
  room : length l.self + l.place ≤ length l.initial.self + l.digits;
}
