-- Laws of encoding and decoding.
use Rattle.std.specs.Prelude.{◌<◌, ◌^◌, ◌≡◌, ◌↔◌, IfSome, IsSome}
use Rattle.t1_insn.specs.declared.instruction.Insn.{Insn}
use Rattle.t1_insn.specs.Ranges.{IsInRange}
use Rattle.t1_decode.specs.Words.{insn_of}
use Rattle.t1_encode.specs.Words.{encoded}

-- the word of an instruction is decoded to it
abbrev pub IsDecodedAgain : Type 0
IsDecodedAgain = (insn : Insn) → IfSome (encoded insn) (λ word. insn_of word ≡ insn)

-- an instruction has a word exactly where its fields are in their ranges
abbrev pub HasWordInRange : Type 0
HasWordInRange = (insn : Insn) → IsSome (encoded insn) ↔ IsInRange insn

-- a word has 32 bits
abbrev pub IsOfWordSize : Type 0
IsOfWordSize = (insn : Insn) → IfSome (encoded insn) (λ word. word < 2 ^ 32)
