-- Each strand before this place waits, and so nothing changed.
use Rattle.std.proofs.Common.{◌≡◌, ◌<◌, ℕ, false, length, get_or}
use Rattle.t1_core.specs.Turns.{is_ready}
use Rattle.t1_core.proofs.sparc_core.Core.act_first.Given as goal

abbrev pub invariant-loop-place : goal.invariant-loop-place
invariant-loop-place l = record {
  same : l.self ≡ l.initial.self;
  count : l.count ≡ length l.self.turns;
  none : (k : ℕ) → k < l.place → is_ready l.self l.room (get_or l.self.turns k 0) ≡ false;
}
