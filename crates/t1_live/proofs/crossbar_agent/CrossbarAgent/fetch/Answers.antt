use Rattle.std.proofs.Common.{◌≡◌, ◌<◌, ◌∙◌, length, get_or, None, sym, subst, arith}
use Rattle.std.proofs.lemmas.List.{get_or_read}
use Rattle.t1_shape.specs.Numbers.{destinations}
use Rattle.t1_machine.specs.Start.{setup_of}
use Rattle.t1_ring.specs.Row.{received_by, sent_by}
use Rattle.t1_ring.proofs.Sets.{gots_length}
use Rattle.t1_live.specs.Sides.{CrossbarSide}
use Rattle.t1_live.proofs.Crossings.{crossbar_fetches, none_is}
use Rattle.t1_live.proofs.crossbar_agent.CrossbarAgent.fetch.Goals as goal

pub pop_at-requires : goal.pop_at-requires
pop_at-requires c =
    let here = subst (λ (v : CrossbarSide). c.args.dest < destinations v.setup.config.chip) (sym c.self.view_is) c.requires in
    let all = c.self.invariant.all_received in
    let e = gots_length c.self.inside.served.items in
    omega (arith, all, e, here)

pub invariant_of-self : goal.invariant_of-self
invariant_of-self c =
    let here = subst (λ (v : CrossbarSide). c.args.dest < destinations v.setup.config.chip) (sym c.self.view_is) c.requires in
    let within : c.args.dest < length c.self.inside.held.items = (let l = c.self.invariant.all_held in omega (arith, l, here)) in
    let none : get_or c.self.inside.held.items c.args.dest None ≡ None =
    sym (get_or_read c.self.inside.held.items _ _ within c.index.ensures None) ∙ none_is c.index.result.now (sym c.if-is_some.ensures) in
    crossbar_fetches (setup_of c.self.inside.config c.self.inside.image.value) c.self.inside.xbar c.self.inside.held.items (received_by c.self.inside.served.items) _ (sent_by c.self.inside.packets.items) c.args.dest _
    here none c.in-Some.ensures.some c.self.invariant
