-- Each strand before this place waits.
use Rattle.std.proofs.Common.{◌≡◌, ◌<◌, ℕ, false, get_or}
use Rattle.t1_core.specs.Turns.{is_ready}
use Rattle.t1_core.proofs.sparc_core.Core.would_act.Given as goal

abbrev pub invariant-loop-place : goal.invariant-loop-place
invariant-loop-place l = (k : ℕ) → k < l.place → is_ready l.self l.room (get_or l.self.turns k 0) ≡ false
