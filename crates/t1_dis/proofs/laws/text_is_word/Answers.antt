use Rattle.t1_dis.proofs.Words as proved
use Rattle.t1_dis.proofs.laws.text_is_word.Goals as goal

pub returns : goal.returns
returns c = proved.text_is_word
