use Rattle.std.proofs.Common.{◌∙◌, sym}
use Rattle.t1_cli.proofs.Endings.{spent_next}
use Rattle.t1_cli.proofs.ended.first_spent.Goals as goal

pub loop-strand-preserved : goal.loop-strand-preserved
loop-strand-preserved c =
    spent_next c.args.traces.now c.loop-strand.strand c.index-traces-strand.result c.loop-strand-test.true c.index-traces-strand.is (sym c.in-None.is ∙ c.spent_of.ensures)
    ∙ c.loop-strand.invariant
