use Rattle.std.proofs.Common.{◌≡◌, ℕ, ◌<◌, Some}
use Rattle.std.specs.List.{slice_get}
use Rattle.t1_event.specs.declared.item.Item.{Item}
use Rattle.t1_machine_tests.specs.Checked.{IsPlacedBy, AreTimesUpTo}
use Rattle.t1_machine_tests.proofs.checked.is_strand.Given as goal

abbrev pub invariant-loop-number : goal.invariant-loop-number
invariant-loop-number l = record {
  placed : (k : ℕ) (item : Item) → k < l.number → slice_get l.items k ≡ Some item → IsPlacedBy l.log l.strand k item;
  times : AreTimesUpTo l.items l.number l.last;
}
