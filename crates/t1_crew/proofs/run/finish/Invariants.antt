use Rattle.std.proofs.Common.{◌≡◌, ◌+◌, ◌≤◌, ◌++◌, true, vec_len, vec_capacity}
use Rattle.std.specs.Vec.Iter.{into_iter_items, into_iter_len}
use Rattle.t1_crew.specs.Slots.{slot_ids, ids, AreOver}
use Rattle.t1_crew.proofs.run.finish.Given as goal

abbrev pub invariant-loop-slot : goal.invariant-loop-slot
invariant-loop-slot g l = record {
  room : vec_len l.agents + into_iter_len l.slot-iterator ≤ vec_capacity l.agents;
  same : ids g.A.Agent.id l.agents.items ++ slot_ids (into_iter_items l.slot-iterator) ≡ slot_ids l.fn.slots.items;
  over : l.all ≡ true → AreOver g.A.Agent.over l.agents.items;
}
