use Rattle.t1_lex.proofs.Parts as parts
use Rattle.t1_lex.proofs.laws.parts_are_lexemes.Goals as goal

pub returns : goal.returns
returns c = parts.parts_are_lexemes
