-- When an access was performed, counted in commits.
use Rattle.std.specs.Prelude.{ℕ, ◌+◌}
use Rattle.t1_event.specs.declared.item.How.{How}
use Rattle.t1_event.specs.declared.item.How.TheVariants.{Unplaced, Forward, Hit, Commit}

-- the time of a load that was forwarded or of a hit; of a commit, the core's time when it was sent
abbrev pub at_of : How → ℕ
at_of Unplaced = 0
at_of (Forward time) = time
at_of (Hit time) = time
at_of (Commit index seen) = seen

-- from when on it is done: a commit once its core has seen it
abbrev pub done_of : How → ℕ
done_of Unplaced = 0
done_of (Forward time) = time
done_of (Hit time) = time
done_of (Commit index seen) = index + 1

-- of a commit its index, else the time
abbrev pub index_of : How → ℕ
index_of Unplaced = 0
index_of (Forward time) = time
index_of (Hit time) = time
index_of (Commit index seen) = index

abbrev pub IsPlaced : How → Type 0
IsPlaced Unplaced = ⊥
IsPlaced (Forward time) = Unit {0}
IsPlaced (Hit time) = Unit {0}
IsPlaced (Commit index seen) = Unit {0}

abbrev pub IsCommit : How → Type 0
IsCommit Unplaced = ⊥
IsCommit (Forward time) = ⊥
IsCommit (Hit time) = ⊥
IsCommit (Commit index seen) = Unit {0}
