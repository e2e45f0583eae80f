-- A load that misses, a load from I/O and an atomic need a ring.
use Rattle.std.proofs.Common.{sym}
use Rattle.t1_core.specs.Quick.{in_room}
use Rattle.t1_core.proofs.Asks.{send_held, look_held, asks_only}
use Rattle.t1_core.proofs.quick.quick_plan.Goals as goal

pub returns-in-Send-clause-step : goal.returns-in-Send-clause-step
returns-in-Send-clause-step c = λ room.
    asks_only c.args.thread.now _ _ (send_held (in_room c.args.asker room) c.args.dcache.now c.args.thread.now c.args.plan c.in-Send.addr c.in-Send.is)

pub returns-in_default-clause-step : goal.returns-in_default-clause-step
returns-in_default-clause-step c = λ room.
    asks_only c.args.thread.now _ _
    (look_held (in_room c.args.asker room) c.args.dcache.now c.args.thread.now c.args.plan c.in-Look.addr c.in-Look.size c.in-Look.is (sym c.in_default.ensures.value))
