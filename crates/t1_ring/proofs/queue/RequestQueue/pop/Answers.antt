use Rattle.t1_ring.proofs.Queues.{pops}
use Rattle.t1_ring.proofs.queue.RequestQueue.pop.Goals as goal

pub pop_as-requires-clause-rule : goal.pop_as-requires-clause-rule
pop_as-requires-clause-rule g c = (pops _ _ c.seat.invariant.1, λ _ _ _ _. tt)
