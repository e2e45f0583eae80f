-- The kills that are left do what all do.
use Rattle.std.proofs.Common.{◌≡◌, drop}
use Rattle.t1_core.specs.Takes.{killed}
use Rattle.t1_core.proofs.sparc_core.Core.kill_all.Given as goal

abbrev pub invariant-loop-kill : goal.invariant-loop-kill
invariant-loop-kill l = killed l.self (drop l.kill-index l.kills) ≡ killed l.initial.self l.kills
