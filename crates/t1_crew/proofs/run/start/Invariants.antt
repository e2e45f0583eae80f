use Rattle.std.proofs.Common.{◌≡◌, ◌+◌, ◌≤◌, ◌++◌, vec_len, vec_capacity}
use Rattle.std.specs.Vec.Iter.{into_iter_items, into_iter_len}
use Rattle.t1_crew.specs.Slots.{slot_ids, ids}
use Rattle.t1_crew.proofs.run.start.Given as goal

abbrev pub invariant-loop-agent : goal.invariant-loop-agent
invariant-loop-agent g l = record {
  len : vec_len l.slots + into_iter_len l.agent-iterator ≡ vec_len l.fn.agents;
  room : vec_len l.slots + into_iter_len l.agent-iterator ≤ vec_capacity l.slots;
  same : slot_ids l.slots.items ++ ids g.A.Agent.id (into_iter_items l.agent-iterator) ≡ ids g.A.Agent.id l.fn.agents.items;
}
