use Rattle.std.proofs.Common.{◌∙◌, List, Some, ap, sym, subst, arith}
use Rattle.t1_core.specs.declared.answers.Did.{Did}
use Rattle.t1_shape.proofs.Numbers.{banks_are}
use Rattle.t1_ring.specs.Ends.{Mark}
use Rattle.t1_ring.specs.Row.{sent_by, tx_marks}
use Rattle.t1_ring.proofs.Sets.{sents_length}
use Rattle.t1_live.specs.Lanes.{AreOf}
use Rattle.t1_live.proofs.Cores.{turn_does, turn_core, slot_of}
use Rattle.t1_live.proofs.Lanes.{of_sender}
use Rattle.t1_live.proofs.core_agent.CoreAgent.exec.Goals as goal

pub rooms-room-requires : goal.rooms-room-requires
rooms-room-requires g c = let e = sents_length c.self.inside.lanes.items in let all = c.self.invariant.0.ends in let few = (banks_are c.self.inside.config.chip).1 in omega (arith, e, all, few)

pub send-requires-clause-ring : goal.send-requires-clause-ring
send-requires-clause-ring g c = slot_of c.rooms-room.result _ c.in-Some.did c.rooms-room.ensures.room c.in-Some.ensures.ring

pub send-requires-clause-core : goal.send-requires-clause-core
send-requires-clause-core g c =
    of_sender c.self.inside.number (tx_marks c.self.inside.lanes.items) c.in-Some.did
    (λ d r e. turn_core c.self.inside.config c.self.inside.image.value c.self.inside.number c.self.inside.core (sent_by c.self.inside.lanes.items) c.self.inside.packets.received
    c.rooms-room.result d r c.self.invariant.0 (sym c.in-Some.ensures.did ∙ ap (λ (x : Did). Some x) e))
    c.self.invariant.1

pub invariant_of-self-2 : goal.invariant_of-self-2
invariant_of-self-2 g c = (
  turn_does c.self.inside.config c.self.inside.image.value c.self.inside.number c.self.inside.core c.turn.new.self (sent_by c.self.inside.lanes.items) _ c.self.inside.packets.received
      c.rooms-room.result c.in-Some.did c.turn.ensures.core (sym c.in-Some.ensures.did) c.send.ensures.sent c.self.invariant.0,
  subst (λ (l : List Mark). AreOf c.self.inside.number l) (sym c.send.ensures.marks) c.self.invariant.1,
)
