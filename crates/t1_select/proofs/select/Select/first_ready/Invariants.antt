-- No strand before this place is ready.
use Rattle.std.proofs.Common.{◌≡◌, ◌<◌, ℕ, false, get_or}
use Rattle.t1_select.specs.Queue.{is_ready}
use Rattle.t1_select.proofs.select.Select.first_ready.Given as goal

abbrev pub invariant-loop-place : goal.invariant-loop-place
invariant-loop-place l = (k : ℕ) → k < l.place → is_ready l.ready (get_or l.strand-items k 0) ≡ false
