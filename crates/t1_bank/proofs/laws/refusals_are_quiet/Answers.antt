use Rattle.t1_bank.proofs.Lawful.{refuses_quietly}
use Rattle.t1_bank.proofs.laws.refusals_are_quiet.Goals as goal

pub returns : goal.returns
returns c = refuses_quietly
