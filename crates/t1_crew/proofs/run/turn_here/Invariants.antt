use Rattle.std.proofs.Common.{◌≡◌, vec_len}
use Rattle.t1_crew.specs.Slots.{slot_ids}
use Rattle.t1_crew.proofs.run.turn_here.Given as goal

abbrev pub invariant-loop-i : goal.invariant-loop-i
invariant-loop-i g l = record {
  len : vec_len l.slots ≡ vec_len l.initial.slots;
  same : slot_ids l.slots.items ≡ slot_ids l.initial.slots.items;
}
