use Rattle.std.proofs.Common.{◌≡◌, ◌+◌, ◌*◌, ◌++◌, length, drop}
use Rattle.t1_log.specs.Hex.{hex_of_bytes}
use Rattle.t1_log.proofs.line.Line.hex_bytes.Given as goal

abbrev pub invariant-loop-byte : goal.invariant-loop-byte
invariant-loop-byte g l = record {
  all : l.self ++ hex_of_bytes (drop l.byte-index l.bytes) ≡ l.initial.self ++ hex_of_bytes l.bytes;
  room : length l.self ≡ length l.initial.self + 2 * l.byte-index;
}
