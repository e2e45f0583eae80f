-- The chips that are built.
use Rattle.t1_num.specs.declared.chip.ChipKind.{ChipKind}

abbrev pub Shape : Type 0
Shape = ChipKind
