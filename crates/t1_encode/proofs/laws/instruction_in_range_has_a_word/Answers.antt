use Rattle.t1_encode.proofs.Encoding.{encoded_in_range}
use Rattle.t1_encode.proofs.laws.instruction_in_range_has_a_word.Goals as goal

pub returns : goal.returns
returns c = encoded_in_range
