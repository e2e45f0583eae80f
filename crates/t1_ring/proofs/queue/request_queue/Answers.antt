use Rattle.std.proofs.Common.{◌∙◌, ◌+◌, ◌++◌, ◌∷◌, List, [], ap, sym, refl, add-one, arith}
use Rattle.std.proofs.lemmas.Grind.{common_steps}
use Rattle.t1_ring.specs.declared.rule.Account.{Account}
use Rattle.t1_ring.specs.Ends.{QueueName}
use Rattle.t1_ring.specs.Queue.{CoreSeatState, seats_from}
use Rattle.t1_ring.specs.QueueRule.{taking, pushing}
use Rattle.t1_ring.proofs.Queues.{begins, forks, is_taking, seats_more, one_seat, seat_of, dest_of}
use Rattle.t1_ring.proofs.queue.request_queue.Goals as goal

pub ruled-requires-clause-rule : goal.ruled-requires-clause-rule
ruled-requires-clause-rule c = begins

pub loop-init : goal.loop-init
loop-init c = record {
  pass = c.in_ok-line.ensures.1;
  knows = c.in_ok-line.ensures.3;
  seats = c.in_ok-seats.ensures.items;
  len = grind (arith, common_steps);
  room = grind (arith, common_steps);
}

pub another-core-requires-clause-queue : goal.another-core-requires-clause-queue
another-core-requires-clause-queue c = c.loop.invariant.pass

pub another-core-requires-clause-rule : goal.another-core-requires-clause-rule
another-core-requires-clause-rule c = forks _ _ (is_taking _ _ _ _ c.loop.invariant.knows)

pub push_reserved-requires : goal.push_reserved-requires
push_reserved-requires c = let i = c.loop.invariant in grind (arith, common_steps)

pub loop-preserved : goal.loop-preserved
loop-preserved c =
    let i = c.loop.invariant in
    let same = c.another-core.ensures.queue.0 in
    let rule = c.another-core.ensures.rule in
    let q : QueueName = c.in_ok-line.line.table.shared.table_id in
    record {
      pass = (same.0 ∙ i.pass.0, same.2 ∙ i.pass.1);
      knows = rule.0 ∙ ap (λ (v : Account). taking v.taken (v.cores + 1) v.back) i.knows;
      seats = c.push_reserved.ensures.items
          ∙ (ap (λ (s : CoreSeatState). c.loop.seats.items ++ s ∷ [])
          (seat_of _ q _ _ c.loop.counter c.another-core.ensures.queue.1.0 (rule.1 ∙ ap (λ (v : Account). pushing v.cores []) i.knows) refl)
          ∙ (ap (λ (l : List CoreSeatState). l ++ record { queue = q; core = c.loop.counter; pushed = [] } ∷ []) i.seats ∙ (ap (λ n. seats_from q 0 c.loop.counter ++ one_seat q n) (omega arith) ∙ (sym (seats_more q 0 c.loop.counter) ∙ ap (λ n. seats_from q 0 n) (sym (add-one c.loop.counter))))));
      len = grind (arith, common_steps);
      room = grind (arith, common_steps);
    }

pub invariant_of-result : goal.invariant_of-result
invariant_of-result c = (c.loop.invariant.pass.1, is_taking _ _ _ _ c.loop.invariant.knows)

pub returns-clause-seats : goal.returns-clause-seats
returns-clause-seats c = c.loop.invariant.seats ∙ ap (λ n. seats_from c.in_ok-line.line.table.shared.table_id 0 n) (grind (arith, common_steps))

pub returns-clause-dest : goal.returns-clause-dest
returns-clause-dest c = dest_of _ _ _ _ c.args.cores c.loop.invariant.pass.0 c.loop.invariant.knows (grind (arith, common_steps))
