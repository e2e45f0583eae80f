use Rattle.t1_order.specs.Next.{NoneBetween}
use Rattle.t1_order.proofs.next.next_from.Given as goal

abbrev pub invariant-loop-number : goal.invariant-loop-number
invariant-loop-number l = NoneBetween l.items l.from l.number
