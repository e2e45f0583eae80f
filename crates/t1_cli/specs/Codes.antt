-- The numbers of the statuses.
use Rattle.std.specs.Prelude.{ℕ}
use Rattle.t1_cli.specs.declared.status.Status.{Status}
use Rattle.t1_cli.specs.declared.status.Status.TheVariants.{Good, Usage, Refused, Fault, Spent, ReadFault, WriteFault, OutOfMemory, NotInOrder}

-- the status of the process
abbrev pub code_of : Status → ℕ
code_of Good = 0
code_of Usage = 1
code_of Refused = 2
code_of Fault = 3
code_of Spent = 4
code_of ReadFault = 5
code_of WriteFault = 6
code_of OutOfMemory = 7
code_of NotInOrder = 8
