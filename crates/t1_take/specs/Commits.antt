-- Pieces of the lines of commits.
use Rattle.std.specs.Prelude.{ℕ, List, ◌++◌, codes, decimal}
use Rattle.t1_packet.specs.Data.{KillData}
use Rattle.t1_log.specs.Log.{cache_letter}
use Rattle.t1_take.specs.declared.commit.Named.{Named}

-- a kill behind its space
unfoldable pub kill_tail_of : KillData → List ℕ
kill_tail_of kill = decimal kill.core ++ (codes "." ++ (cache_letter kill.cache ++ (codes "." ++ (decimal kill.set ++ (codes "." ++ decimal kill.way)))))

-- what the line of a commit names, at its index
unfoldable pub head_of : ℕ → Named → List ℕ
head_of index named =
    codes "c " ++ (decimal index ++ (codes " " ++ (decimal named.dest ++ (codes " " ++ (decimal named.strand ++ (codes " " ++ (decimal named.number ++ codes " ")))))))
