use Rattle.std.proofs.Common.{◌<◌, subst, arith}
use Rattle.t1_core.specs.declared.answers.Did.{Did}
use Rattle.t1_ring.specs.Row.{rooms_of}
use Rattle.t1_ring.proofs.Sets.{rooms_length}
use Rattle.t1_live.specs.Rules.{HasSlot}
use Rattle.t1_live.proofs.core_agent.send.Goals as goal

pub send_at-requires-clause-within : goal.send_at-requires-clause-within
send_at-requires-clause-within g c =
    let slot = (subst (λ (d : Did). HasSlot (rooms_of c.args.lanes.now.items) d) c.in-Sent.is c.requires.ring).0 in
    let long = rooms_length c.args.lanes.now.items in
    omega (arith, slot, long)
