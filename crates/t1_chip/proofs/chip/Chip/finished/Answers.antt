use Rattle.std.proofs.Common.{◌∙◌, sym}
use Rattle.t1_chip.proofs.Finished.{off_below}
use Rattle.t1_chip.proofs.chip.Chip.finished.Goals as goal

pub loop-number-preserved : goal.loop-number-preserved
loop-number-preserved c = off_below c.args.self.now.machine c.loop-number.number c.loop-number.invariant (sym c.enabled.ensures ∙ c.if-enabled.false)
