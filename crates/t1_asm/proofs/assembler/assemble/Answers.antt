use Rattle.t1_asm.proofs.Counting.{answer_few}
use Rattle.t1_asm.proofs.Savable.{answer_savable}
use Rattle.t1_asm.proofs.Totals.{answer_small}
use Rattle.t1_asm.proofs.assembler.assemble.Goals as goal

pub returns-clause-chunks : goal.returns-clause-chunks
returns-clause-chunks c = answer_few c.read.result c.args.text.now c.read.ensures

pub returns-clause-bytes : goal.returns-clause-bytes
returns-clause-bytes c = answer_small c.read.result c.args.text.now c.read.ensures

pub returns-clause-savable : goal.returns-clause-savable
returns-clause-savable c = answer_savable c.read.result c.args.text.now c.read.ensures
