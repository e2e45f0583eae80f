-- What the commands asm and dis make of an input: a text, or why the input is refused.
use Rattle.std.specs.Prelude.{ℕ, ◌^◌, Bool, true, false, List, Result, Ok, Err}
use Rattle.t1_elf.specs.declared.error.ElfError.{ElfError}
use Rattle.t1_elf.specs.declared.object.Object.{Object}
use Rattle.t1_elf.specs.Parsed.{parsed}
use Rattle.t1_stmt.specs.declared.fault.Fault.{Fault}
use Rattle.t1_text.specs.Files.{file_of}
use Rattle.t1_text.specs.Words.{object_lines_of}
use Rattle.t1_cli.specs.declared.refusal.Refusal.{Refusal}
use Rattle.t1_cli.specs.declared.refusal.Refusal.TheVariants.{TooLong, Misformed, Faulty}
use Rattle.t1_cli.specs.Runs.{is_long}

-- what is made of an input, where it is not too long
abbrev pub unless_long : Bool → Result (List ℕ) Refusal → Result (List ℕ) Refusal
unless_long true made = Err TooLong
unless_long false made = made

abbrev pub file_or_fault : Result (List ℕ) (ℕ × Fault) → Result (List ℕ) Refusal
file_or_fault (Ok file) = Ok file
file_or_fault (Err (line, fault)) = Err (Faulty line fault)

-- asm makes the file of an assembly text
unfoldable pub asm_of : List ℕ → Result (List ℕ) Refusal
asm_of input = unless_long (is_long input) (file_or_fault (file_of input))

abbrev pub lines_or_error : Result Object ElfError → Result (List ℕ) Refusal
lines_or_error (Ok object) = Ok (object_lines_of object)
lines_or_error (Err error) = Err (Misformed error)

-- dis makes the lines of the words of a file, whose chunks end at 2^39 or below
unfoldable pub dis_of : List ℕ → Result (List ℕ) Refusal
dis_of input = unless_long (is_long input) (lines_or_error (parsed input (2 ^ 39)))
