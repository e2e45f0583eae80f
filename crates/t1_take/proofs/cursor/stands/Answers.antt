use Rattle.std.proofs.Common.{◌∙◌, sym}
use Rattle.t1_take.proofs.Taking.{reads_on}
use Rattle.t1_take.proofs.Finding.{nothing_past}
use Rattle.t1_take.proofs.cursor.stands.Goals as goal

pub returns-in-Some-clause-stands : goal.returns-in-Some-clause-stands
returns-in-Some-clause-stands c = λ _. reads_on c.args.text.now c.args.word.now c.in-Some._rest.now c.args.at (sym c.split_at.ensures.back ∙ c.in-Some.ensures)

pub returns-then-at-text-clause-finds : goal.returns-then-at-text-clause-finds
returns-then-at-text-clause-finds c = λ rest some e. absurd (nothing_past c.args.text.now c.args.at c.args.word.now rest c.if-at-text.true some e)
