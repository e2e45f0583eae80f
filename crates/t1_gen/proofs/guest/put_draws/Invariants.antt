use Rattle.std.proofs.Common.{◌≡◌, ◌++◌, ◌-◌}
use Rattle.t1_gen.specs.Guests.{code_of, insns_from}
use Rattle.t1_gen.proofs.guest.put_draws.Given as goal

abbrev pub invariant-loop : goal.invariant-loop
invariant-loop l = l.code.items ++ code_of (insns_from l.draws (l.size - l.counter)) ≡ l.initial.code.items ++ code_of (insns_from l.seed l.size)
