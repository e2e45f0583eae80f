use Rattle.t1_encode.proofs.Encoding.{again}
use Rattle.t1_encode.proofs.laws.word_is_decoded_again.Goals as goal

pub returns : goal.returns
returns c = again
