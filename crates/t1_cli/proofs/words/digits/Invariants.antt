use Rattle.std.proofs.Common.{◌≡◌, drop}
use Rattle.t1_cli.specs.Words.{digits_from}
use Rattle.t1_cli.proofs.words.digits.Given as goal

abbrev pub invariant-loop-digit : goal.invariant-loop-digit
invariant-loop-digit l = digits_from l.value (drop l.digit-index l.bytes) ≡ digits_from 0 l.bytes
