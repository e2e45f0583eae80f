use Rattle.std.proofs.Common.{◌≡◌, ◌∙◌, ◌++◌, ◌∷◌, [], ◌<◌, List, length, ap, arith}
use Rattle.t1_packet.specs.declared.served.Served.{Served}
use Rattle.t1_ring.specs.Row.{with_more}
use Rattle.t1_live.specs.Lanes.{by_core}
use Rattle.t1_live.specs.Rules.{served_with}
use Rattle.t1_live.proofs.Destinations.{destination_serves}
use Rattle.t1_live.proofs.Lanes.{by_core_length, by_core_more}
use Rattle.t1_live.proofs.destination_agent.DestinationAgent.serve.Goals as goal

pub invariant_of-self-2 : goal.invariant_of-self-2
invariant_of-self-2 g c =
    let old = c.self.inside.seat in
    let new = c.pop.new.seat in
    let r = c.in-Some.request in
    let some = c.in-Some.ensures.some in
    let before = by_core old.taken 0 old.cores in
    let long = by_core_length old.taken 0 old.cores in
    let within : r.core < length before = omega (arith, long, some.1) in
    let more : by_core new.taken 0 new.cores ≡ with_more before r.core r =
    ap (λ n. by_core new.taken 0 n) c.pop.ensures.seat.1 ∙ (ap (λ t. by_core t 0 old.cores) some.0 ∙ by_core_more old.taken r 0 old.cores r.core (omega arith)) in
    let sent : c.push.new.self.sent ≡ c.self.inside.served.sent ++ served_with c.self.inside.bank r ∷ [] =
    c.in-Ok.ensures.ok ∙ (ap (λ (l : List Served). l ++ c.serve_at-served.result ∷ []) c.room.ensures.sent ∙ ap (λ (a : Served). c.self.inside.served.sent ++ a ∷ []) c.serve_at-served.ensures.served) in (
      destination_serves c.self.inside.config c.self.inside.image.value c.self.inside.dest c.self.inside.bank c.serve_at-served.new.bank before _ c.self.inside.served.sent _ r.core r
          within more sent c.serve_at-served.ensures.after c.self.invariant.0,
      c.pop.ensures.seat.0 ∙ c.self.invariant.1,
    )
