use Rattle.std.proofs.Common.{◌≡◌, ◌≤◌, ◌++◌, ℕ, List, codes, drop, length, All}
use Rattle.t1_packet.specs.Data.{KillData}
use Rattle.t1_log.specs.Log.{kill_fields_of}
use Rattle.t1_take.specs.Taken.{Takes}
use Rattle.t1_take.specs.WellFormed.{IsGoodKill}
use Rattle.t1_take.proofs.Leaving.{PiecesLeft}
use Rattle.t1_take.proofs.commit.take_kills.Given as goal

abbrev pub invariant-loop-count : goal.invariant-loop-count
invariant-loop-count l = record {
  good : All (IsGoodKill l.cores) l.kills;
  few : length l.kills ≤ l.count;
  takes : Takes l.text l.initial.cursor l.cursor (kill_fields_of l.kills);
  finds : (all : List KillData) (rest : List ℕ) → All (IsGoodKill l.cores) all → length all ≤ 64 → drop l.initial.cursor.at l.text ≡ kill_fields_of all ++ (codes "\n" ++ rest)
      → PiecesLeft kill_fields_of l.text l.initial.cursor l.cursor l.kills all (codes "\n" ++ rest) × (length l.kills ≡ l.count);
}
