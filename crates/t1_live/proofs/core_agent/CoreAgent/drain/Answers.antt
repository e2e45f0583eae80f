use Rattle.std.proofs.Common.{List, sym, subst, arith}
use Rattle.t1_shape.proofs.Numbers.{banks_are}
use Rattle.t1_ring.specs.Ends.{Mark}
use Rattle.t1_ring.specs.Row.{sent_by, rooms_of, tx_marks}
use Rattle.t1_ring.proofs.Sets.{sents_length, rooms_length, within_room}
use Rattle.t1_live.specs.Lanes.{AreOf}
use Rattle.t1_live.proofs.Cores.{drain_sends, drain_core}
use Rattle.t1_live.proofs.core_agent.CoreAgent.drain.Goals as goal

pub rooms-room-requires : goal.rooms-room-requires
rooms-room-requires g c = let e = sents_length c.self.inside.lanes.items in let all = c.self.invariant.0.ends in let few = (banks_are c.self.inside.config.chip).1 in omega (arith, e, all, few)

pub send_at-requires-clause-within : goal.send_at-requires-clause-within
send_at-requires-clause-within g c =
    let lanes = c.self.inside.lanes.items in
    let l = rooms_length lanes in
    let w = within_room (rooms_of lanes) c.in-Sent.dest (c.rooms-room.ensures.room c.in-Sent.dest c.in-Sent.ensures.ring.0) in
    omega (arith, l, w)

pub send_at-requires-clause-core : goal.send_at-requires-clause-core
send_at-requires-clause-core g c =
    subst (λ n. AreOf n (tx_marks c.self.inside.lanes.items))
    (sym (drain_core c.self.inside.config c.self.inside.image.value c.self.inside.number c.self.inside.core (sent_by c.self.inside.lanes.items) c.self.inside.packets.received
    c.args.strand c.rooms-room.result c.in-Sent.dest c.in-Sent.request c.self.invariant.0 (sym c.in-Sent.ensures.did)))
    c.self.invariant.1

pub invariant_of-self : goal.invariant_of-self
invariant_of-self g c = (
  drain_sends c.self.inside.config c.self.inside.image.value c.self.inside.number c.self.inside.core c.drain.new.self (sent_by c.self.inside.lanes.items) _ c.self.inside.packets.received
      c.args.strand c.rooms-room.result c.in-Sent.dest c.in-Sent.request c.drain.ensures.core (sym c.in-Sent.ensures.did) c.send_at.ensures.sent c.self.invariant.0,
  subst (λ (l : List Mark). AreOf c.self.inside.number l) (sym c.send_at.ensures.marks) c.self.invariant.1,
)
