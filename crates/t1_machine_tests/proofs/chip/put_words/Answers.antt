use Rattle.std.proofs.Common.{◌∙◌, ap, length}
use Rattle.t1_num.proofs.MemoryLaws.{length-with_number_at}
use Rattle.t1_machine_tests.proofs.chip.put_words.Goals as goal

pub loop-word-preserved : goal.loop-word-preserved
loop-word-preserved c = ap (λ bytes. length bytes) c.put_be.ensures ∙ length-with_number_at c.loop-word.ram _ _ _ ∙ c.loop-word.invariant
