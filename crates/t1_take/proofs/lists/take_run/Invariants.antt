use Rattle.std.proofs.Common.{◌≡◌, ◌≤◌, ◌++◌, ℕ, List, codes, drop, length}
use Rattle.t1_num.specs.MemoryLaws.{AreBytes}
use Rattle.t1_log.specs.Hex.{hex_of_bytes}
use Rattle.t1_take.specs.Taken.{Takes}
use Rattle.t1_take.proofs.Leaving.{PiecesLeft}
use Rattle.t1_take.proofs.lists.take_run.Given as goal

abbrev pub invariant-loop-count : goal.invariant-loop-count
invariant-loop-count l = record {
  count : length l.bytes.items ≡ l.count;
  takes : Takes l.text l.initial.cursor l.cursor (hex_of_bytes l.bytes.items);
  finds : (all rest : List ℕ) → 1 ≤ length all → length all ≤ 32 → AreBytes all → drop l.initial.cursor.at l.text ≡ hex_of_bytes all ++ (codes "\n" ++ rest)
      → PiecesLeft hex_of_bytes l.text l.initial.cursor l.cursor l.bytes.items all (codes "\n" ++ rest);
}
