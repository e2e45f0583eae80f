-- The accesses of one strand, in program order.
use Rattle.std.specs.Prelude.{ℕ, ◌+◌, List, [], ◌∷◌, ◌++◌, if◌then◌else◌}
use Rattle.t1_event.specs.declared.item.Item.{Item}
use Rattle.t1_event.specs.declared.report.Place.{Place}
use Rattle.t1_event.specs.Kinds.{is_access}

-- the places of the accesses among a strand's items, which are numbered from a number on
unfoldable pub accesses_from : ℕ → ℕ → List Item → List Place
accesses_from strand number [] = []
accesses_from strand number (item ∷ items) =
    (if is_access item.kind then (record { strand = strand; item = number }) ∷ [] else []) ++ accesses_from strand (number + 1) items

-- the places of the accesses of a strand, in program order
abbrev pub program_order : ℕ → List Item → List Place
program_order strand items = accesses_from strand 0 items
