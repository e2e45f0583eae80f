use Rattle.std.proofs.Common.{refl}
use Rattle.t1_take.proofs.Finding.{rest_at}
use Rattle.t1_take.proofs.cursor.Cursor.takes.Goals as goal

pub returns-then-stands-clause-finds : goal.returns-then-stands-clause-finds
returns-then-stands-clause-finds c = λ rest some e. (refl, record { good = λ g. g; rest_is = rest_at c.args.text.now c.args.self.now.at c.args.word.now rest e })
