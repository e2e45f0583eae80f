use Rattle.t1_encode.proofs.Encoding.{word_small}
use Rattle.t1_encode.proofs.laws.word_has_32_bits.Goals as goal

pub returns : goal.returns
returns c = word_small
