use Rattle.std.proofs.Common.{refl, arith}
use Rattle.t1_take.proofs.Finding.{evicted_dash}
use Rattle.t1_take.proofs.commit.take_evicted.Goals as goal

pub returns-then-takes-clause-finds : goal.returns-then-takes-clause-finds
returns-then-takes-clause-finds c = λ evicted rest good e.
    evicted_dash c.args.text.now c.args.cursor.now c.takes.new.self evicted rest (c.if-takes.ensures.stands refl) (λ more f. (c.if-takes.ensures.finds more (omega arith) f).1) e
