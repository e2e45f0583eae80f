use Rattle.t1_elf.proofs.SavedFiles.{saved_is_read}
use Rattle.t1_elf.proofs.laws.saved_is_read.Goals as goal

pub returns : goal.returns
returns c = saved_is_read
