use Rattle.std.proofs.Common.{Err, ap, ◌∙◌}
use Rattle.t1_cli.proofs.Inputs.{long_input}
use Rattle.t1_cli.proofs.input.read_input.Goals as goal

pub returns-in-Err-TooLong-clause-unread : goal.returns-in-Err-TooLong-clause-unread
returns-in-Err-TooLong-clause-unread g c = long_input _ _ (c.read_all.ensures.long (c.in-Err-TooLong.is ∙ ap Err c.in-Err-TooLong.field-0-is))
