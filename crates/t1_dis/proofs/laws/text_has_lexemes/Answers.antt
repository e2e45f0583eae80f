use Rattle.t1_dis.proofs.Lines as proved
use Rattle.t1_dis.proofs.laws.text_has_lexemes.Goals as goal

pub returns : goal.returns
returns c = proved.text_has_lexemes
