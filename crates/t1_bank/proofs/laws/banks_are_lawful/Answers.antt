use Rattle.t1_bank.proofs.Lawful.{always_lawful, sound_is_lawful, stays_sound}
use Rattle.t1_bank.proofs.laws.banks_are_lawful.Goals as goal

pub returns-clause-always : goal.returns-clause-always
returns-clause-always c = always_lawful

pub returns-clause-state : goal.returns-clause-state
returns-clause-state c = sound_is_lawful

pub returns-clause-step : goal.returns-clause-step
returns-clause-step c = stays_sound
