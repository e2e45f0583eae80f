-- The status that a verdict has.
use Rattle.t1_cli.specs.declared.status.Status.{Status}
use Rattle.t1_cli.specs.declared.status.Status.TheVariants as status
use Rattle.t1_cli.specs.declared.verdict.Verdict.{Verdict}
use Rattle.t1_cli.specs.declared.verdict.Verdict.TheVariants as verdict

abbrev pub status_of_verdict : Verdict → Status
status_of_verdict verdict.Good = status.Good
status_of_verdict verdict.Usage = status.Usage
status_of_verdict (verdict.Refused why) = status.Refused
status_of_verdict (verdict.Fault strand number pc) = status.Fault
status_of_verdict (verdict.Spent strand) = status.Spent
status_of_verdict verdict.ReadFault = status.ReadFault
status_of_verdict verdict.WriteFault = status.WriteFault
status_of_verdict verdict.OutOfMemory = status.OutOfMemory
status_of_verdict verdict.NotInOrder = status.NotInOrder
