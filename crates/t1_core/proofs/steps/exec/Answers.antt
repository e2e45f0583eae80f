-- What moves was moved by the quick step.
use Rattle.t1_core.proofs.Asks.{quick_moved}
use Rattle.t1_core.proofs.steps.exec.Goals as goal

pub returns-in-Moves-clause-thread : goal.returns-in-Moves-clause-thread
returns-in-Moves-clause-thread c =
    let quick = c.quick_exec.ensures.step c.args.asker.room in
    (quick.moved (quick_moved c.quick_exec.result _ c.in-Moves.ensures quick.waits quick.asks)).0
