-- The file of an assembly text.
use Rattle.std.specs.Prelude.{ℕ, List, Result, Ok}
use Rattle.t1_elf.specs.Saved.{saved}
use Rattle.t1_stmt.specs.declared.fault.Fault.{Fault}
use Rattle.t1_asm.specs.Passes.{then_go, assembled}

-- the saved object of a text, or the line and kind of its first fault
abbrev pub file_of : List ℕ → Result (List ℕ) (ℕ × Fault)
file_of text = then_go (assembled text) (λ object. Ok (saved object))
