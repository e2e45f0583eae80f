-- The memory order that ascends by keys is one.
use Rattle.std.specs.Prelude.{◌≡◌, List}
use Rattle.t1_event.specs.declared.item.Item.{Item}
use Rattle.t1_event.specs.declared.report.Place.{Place}
use Rattle.t1_event.specs.Keys.{IsOrderByKeys}

abbrev pub OrdersByKeysAreUnique : Type 0
OrdersByKeysAreUnique = (traces : List (List Item)) (order other : List Place) → IsOrderByKeys traces order → IsOrderByKeys traces other → order ≡ other
