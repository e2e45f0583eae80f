use Rattle.std.proofs.Common.{◌≡◌, ◌++◌, ◌-◌}
use Rattle.t1_machine.specs.Start.{setup_of, banks_from}
use Rattle.t1_machine.proofs.start.banks.Given as goal

abbrev pub invariant-loop-bank : goal.invariant-loop-bank
invariant-loop-bank l = l.all.items ++ banks_from (setup_of l.config l.image) l.bank (l.count - l.bank) ≡ banks_from (setup_of l.config l.image) 0 l.count
