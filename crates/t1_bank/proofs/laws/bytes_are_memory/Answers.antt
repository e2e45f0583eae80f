use Rattle.t1_bank.proofs.Lawful.{bytes_are_memory, mirrors_the_image}
use Rattle.t1_bank.proofs.laws.bytes_are_memory.Goals as goal

pub returns-clause-state : goal.returns-clause-state
returns-clause-state c = bytes_are_memory

pub returns-clause-start : goal.returns-clause-start
returns-clause-start c = mirrors_the_image
