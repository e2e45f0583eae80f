-- Nothing found so far: none of the ways before has the mark.
use Rattle.std.proofs.Common.{◌≡◌, ℕ, ◌<◌, false, get_or}
use Rattle.t1_dir.proofs.marks.has_mark.Given as goal

abbrev pub invariant-loop-one : goal.invariant-loop-one
invariant-loop-one l = l.found ≡ false → (i : ℕ) → i < l.one-index → get_or l.row i 0 ≡ l.mark → ⊥
