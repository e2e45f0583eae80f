use Rattle.std.proofs.Common.{◌≡◌, ℕ, None, length, get_or}
use Rattle.t1_live.proofs.crossbar_agent.CrossbarAgent.new.Given as goal

abbrev pub invariant-loop : goal.invariant-loop
invariant-loop l = record {
  len : length l.held.items ≡ l.counter;
  none : (d : ℕ) → get_or l.held.items d None ≡ None;
}
