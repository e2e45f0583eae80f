-- Each strand before this place waits, whatever rings have room, and so nothing changed.
use Rattle.std.proofs.Common.{◌≡◌, ◌<◌, ℕ, false, length, get_or}
use Rattle.t1_core.specs.Turns.{is_ready}
use Rattle.t1_core.proofs.sparc_core.Core.quick_first.Given as goal

abbrev pub invariant-loop-place : goal.invariant-loop-place
invariant-loop-place l = record {
  same : l.self ≡ l.initial.self;
  count : l.count ≡ length l.self.turns;
  none : (room k : ℕ) → k < l.place → is_ready l.self room (get_or l.self.turns k 0) ≡ false;
}
