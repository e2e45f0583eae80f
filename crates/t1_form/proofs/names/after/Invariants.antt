use Rattle.std.proofs.Common.{◌≡◌, length}
use Rattle.t1_form.specs.Names.{behind}
use Rattle.t1_form.proofs.names.after.Given as goal

abbrev pub invariant-loop-first : goal.invariant-loop-first
invariant-loop-first l = behind l.wanted l.rest ≡ behind l.prefix l.name

abbrev pub decreases-loop-first : goal.decreases-loop-first
decreases-loop-first l = length l.wanted
