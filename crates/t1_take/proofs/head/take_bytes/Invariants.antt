use Rattle.std.proofs.Common.{◌≡◌, ◌++◌, ℕ, List, take, drop, length}
use Rattle.t1_num.specs.MemoryLaws.{AreBytes}
use Rattle.t1_log.specs.Hex.{hex_of_bytes}
use Rattle.t1_take.specs.Taken.{Takes}
use Rattle.t1_take.proofs.Leaving.{PiecesLeft}
use Rattle.t1_take.proofs.head.take_bytes.Given as goal

abbrev pub invariant-loop-byte : goal.invariant-loop-byte
invariant-loop-byte l = record {
  len : length l.block ≡ 32;
  takes : Takes l.text l.initial.cursor l.cursor (hex_of_bytes (take l.byte l.block));
  finds : (all rest : List ℕ) → length all ≡ 32 → AreBytes all → drop l.initial.cursor.at l.text ≡ hex_of_bytes all ++ rest → PiecesLeft hex_of_bytes l.text l.initial.cursor l.cursor (take l.byte l.block) all rest;
}
