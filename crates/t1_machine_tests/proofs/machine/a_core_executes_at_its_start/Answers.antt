use Rattle.t1_machine.proofs.Starts.{start_spares}
use Rattle.t1_machine_tests.proofs.machine.a_core_executes_at_its_start.Goals as goal

pub step-requires-clause-spare : goal.step-requires-clause-spare
step-requires-clause-spare g c = start_spares _ _ c.in_ok-machine.ensures
