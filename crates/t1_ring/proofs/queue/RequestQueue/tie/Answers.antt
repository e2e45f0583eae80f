use Rattle.std.proofs.Common.{◌≡◌, ◌∷◌, ◌∙◌, sym, ap}
use Rattle.t1_ring.specs.declared.rule.Account.{Account}
use Rattle.t1_ring.specs.QueueRule.{known, taking, pushing, returned}
use Rattle.t1_ring.proofs.Queues.{merges, learns, is_taking, spares, again_rule}
use Rattle.t1_ring.proofs.queue.RequestQueue.tie.Goals as goal

pub another-spare-requires-clause-rule : goal.another-spare-requires-clause-rule
another-spare-requires-clause-rule c = spares _ _

pub absorb-requires-clause-rule : goal.absorb-requires-clause-rule
absorb-requires-clause-rule c =
    let v = c.another-spare.ensures.rule.0 in
    let u = c.replace-pass.ensures.value in
    merges _ _ _ _
    (v ∙ (c.dest.invariant.1 ∙ ap (λ (y : Account). taking y.taken y.cores y.back) (sym v)))
    (ap known u ∙ (c.core.invariant.1 ∙ ap (λ (y : Account). pushing y.core y.pushed) (ap known (sym u))))

pub learn_as-requires-clause-rule : goal.learn_as-requires-clause-rule
learn_as-requires-clause-rule c = learns _ _ (is_taking _ _ _ _ c.absorb.ensures.rule)

pub another-requires-clause-rule : goal.another-requires-clause-rule
another-requires-clause-rule c =
    let w : Account = known c.another-spare.new.pass in
    let z : Account = known c.replace-pass.result in
    let v : Account = known c.learn_as.new.pass in
    let is : v ≡ taking w.taken w.cores (returned z.core z.pushed ∷ w.back) = c.learn_as.ensures.queue.1 ∙ c.absorb.ensures.rule in
    again_rule _ v (returned z.core z.pushed) w.back (is ∙ ap (λ (y : Account). taking y.taken y.cores (returned z.core z.pushed ∷ w.back)) (sym is))
