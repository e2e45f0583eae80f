use Rattle.std.proofs.Common.{◌≡◌, ◌∙◌, ◌∷◌, ap, rules}
use Rattle.std.specs.Vec.Iter.{into_iter_items}
use Rattle.t1_live.specs.Lanes.{HubState}
use Rattle.t1_live.proofs.Lanes.{seat_next, hub_next}
use Rattle.t1_live.proofs.hubs.Hub.lane.Goals as goal

pub returns-in_err-queue-clause-hub : goal.returns-in_err-queue-clause-hub
returns-in_err-queue-clause-hub c =
    let has : into_iter_items c.self.inside.seats ≡ c.in-Some.seat ∷ into_iter_items c.next.new.self = search rules in
    let is = ap (λ (h : HubState). h.seats) (c.self.view_is ∙ c.requires.next) in
    hub_next _ c.args.self.now.queue _ c.args.core c.args.cores (ap (λ (h : HubState). h.queue) c.self.view_is)
    (seat_next c.args.self.now.queue c.args.core c.args.cores _ _ c.in-Some.seat c.requires.within is has).1

pub returns-clause-hub : goal.returns-clause-hub
returns-clause-hub c =
    let has : into_iter_items c.self.inside.seats ≡ c.in-Some.seat ∷ into_iter_items c.next.new.self = search rules in
    let is = ap (λ (h : HubState). h.seats) (c.self.view_is ∙ c.requires.next) in
    hub_next _ c.args.self.now.queue _ c.args.core c.args.cores (ap (λ (h : HubState). h.queue) c.self.view_is)
    (seat_next c.args.self.now.queue c.args.core c.args.cores _ _ c.in-Some.seat c.requires.within is has).1
