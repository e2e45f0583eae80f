use Rattle.t1_elf.specs.Gaps.{gaps_of}
use Rattle.t1_elf.proofs.Covering.{laid_whole}
use Rattle.t1_elf.proofs.coverage.Coverage.into_memory.Goals as goal

pub returns : goal.returns
returns c = λ image was. laid_whole (gaps_of c.args.self) c.args.self.memory.items image was
