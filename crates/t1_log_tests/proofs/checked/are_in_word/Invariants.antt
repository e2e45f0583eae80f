use Rattle.std.proofs.Common.{◌≡◌, ℕ, ◌<◌, Some}
use Rattle.std.specs.List.{slice_get}
use Rattle.t1_event.specs.declared.item.Item.{Item}
use Rattle.t1_check.specs.Checked.{LiesInWord}
use Rattle.t1_log_tests.proofs.checked.are_in_word.Given as goal

abbrev pub invariant-loop-number : goal.invariant-loop-number
invariant-loop-number l = (n : ℕ) (item : Item) → n < l.number → slice_get l.items n ≡ Some item → LiesInWord item
