use Rattle.std.proofs.Common.{◌∙◌, ap, sym}
use Rattle.t1_ring.specs.Queue.{CoreSeatState}
use Rattle.t1_ring.proofs.Queues.{pushes}
use Rattle.t1_ring.proofs.queue.RequestQueue.push.Goals as goal

pub push_as-requires-clause-rule : goal.push_as-requires-clause-rule
push_as-requires-clause-rule g c = (pushes _ _ _ _ c.seat.invariant.1 (c.requires.core ∙ ap (λ (s : CoreSeatState). s.core) (sym c.seat.view_is)), λ _ _ _ _. tt)
