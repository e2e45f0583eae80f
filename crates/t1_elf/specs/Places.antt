-- Where the bytes of a chunk stand.
use Rattle.std.specs.Prelude.{ℕ, ◌+◌, ◌≤◌, List, length, take, drop}
use Rattle.t1_elf.specs.declared.bytes.Place.{Place}
use Rattle.t1_elf.specs.declared.bytes.Place.TheVariants.{Own, Part}

-- the bytes: a list of their own, or so many of a file from a place on
abbrev pub bytes_at : Place → List ℕ
bytes_at (Own bytes) = bytes.items
bytes_at (Part file start count) = take count (drop start file.value.items)

-- a part of a file ends in the file
abbrev pub LiesInFile : Place → Type 0
LiesInFile (Own bytes) = Unit {0}
LiesInFile (Part file start count) = start + count ≤ length file.value.items
