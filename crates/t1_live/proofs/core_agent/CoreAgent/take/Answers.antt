use Rattle.t1_machine.specs.Start.{setup_of}
use Rattle.t1_ring.specs.Row.{sent_by}
use Rattle.t1_live.proofs.Cores.{core_takes}
use Rattle.t1_live.proofs.core_agent.CoreAgent.take.Goals as goal

pub invariant_of-self-2 : goal.invariant_of-self-2
invariant_of-self-2 c = (
  core_takes (setup_of c.self.inside.config c.self.inside.image.value) c.self.inside.number c.self.inside.core c.take.new.self (sent_by c.self.inside.lanes.items) c.self.inside.packets.received
      c.pop.new.self.received c.in-Some.packet c.is_whole.ensures c.take.ensures c.in-Some.ensures.some.0 c.self.invariant.0,
  c.self.invariant.1,
)
