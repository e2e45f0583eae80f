use Rattle.std.proofs.Common.{◌∷◌, ◌∙◌, sym, subst}
use mathlib.Core.List.{IsPrefix}
use Rattle.t1_ring.specs.declared.rule.Account.{Account}
use Rattle.t1_ring.specs.Queue.{CoreSeatState, of_core, AreFirst}
use Rattle.t1_ring.specs.QueueRule.{known, returned}
use Rattle.t1_ring.proofs.Queues.{merges, learns, is_taking}
use Rattle.t1_ring.proofs.queue.RequestQueue.give_back.Goals as goal

pub absorb-requires-clause-rule : goal.absorb-requires-clause-rule
absorb-requires-clause-rule c = merges _ _ _ _ c.dest.invariant.1 c.core.invariant.1

pub learn_as-requires-clause-rule : goal.learn_as-requires-clause-rule
learn_as-requires-clause-rule c = learns _ _ (is_taking _ _ _ _ c.absorb.ensures.rule)

pub returns-clause-first : goal.returns-clause-first
returns-clause-first c =
    let v : Account = known c.dest.inside.pass in
    let u : Account = known c.core.inside.pass in
    let all : AreFirst v.taken (returned u.core u.pushed ∷ v.back) = subst (λ (y : Account). AreFirst y.taken y.back) c.absorb.ensures.rule c.learn_as.ensures.rule.1 in
    let last : IsPrefix (of_core u.core v.taken) u.pushed = all.0 in
    subst (λ (s : CoreSeatState). IsPrefix (of_core s.core (known c.learn_as.new.pass).taken) s.pushed) c.core.view_is
    (subst (λ (y : Account). IsPrefix (of_core u.core y.taken) u.pushed) (sym (c.learn_as.ensures.queue.1 ∙ c.absorb.ensures.rule)) last)
