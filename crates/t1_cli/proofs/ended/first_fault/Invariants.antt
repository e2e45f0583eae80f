use Rattle.std.proofs.Common.{◌≡◌, drop}
use Rattle.t1_cli.specs.Runs.{fault_from}
use Rattle.t1_cli.proofs.ended.first_fault.Given as goal

abbrev pub invariant-loop-strand : goal.invariant-loop-strand
invariant-loop-strand l = fault_from l.strand (drop l.strand l.traces) ≡ fault_from 0 l.traces
