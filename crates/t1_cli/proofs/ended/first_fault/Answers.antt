use Rattle.std.proofs.Common.{◌∙◌, sym}
use Rattle.t1_cli.proofs.Endings.{fault_next}
use Rattle.t1_cli.proofs.ended.first_fault.Goals as goal

pub loop-strand-preserved : goal.loop-strand-preserved
loop-strand-preserved c =
    fault_next c.args.traces.now c.loop-strand.strand c.index-traces-strand.result c.loop-strand-test.true c.index-traces-strand.is (sym c.in-None.is ∙ c.fault_of.ensures)
    ∙ c.loop-strand.invariant
