use Rattle.std.proofs.Common.{◌≡◌, vec_len}
use Rattle.t1_crew.specs.Slots.{slot_id, slot_ids}
use Rattle.t1_crew.proofs.run.run_in.Given as goal

abbrev pub invariant-loop : goal.invariant-loop
invariant-loop g l = record {
  first_len : vec_len l.first_slots ≡ vec_len l.initial.first_slots;
  first : slot_ids l.first_slots.items ≡ slot_ids l.initial.first_slots.items;
  second_len : vec_len l.second_slots ≡ vec_len l.initial.second_slots;
  second : slot_ids l.second_slots.items ≡ slot_ids l.initial.second_slots.items;
  last : slot_id l.slot ≡ slot_id l.initial.slot;
}
