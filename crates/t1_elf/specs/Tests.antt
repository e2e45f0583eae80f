-- The tests of a file, in their order. Each is true of a file that fails it. Sums are exact: they do not wrap.
use Rattle.std.specs.Prelude.{ℕ, ◌+◌, ◌*◌, ◌%◌, ◌<◌, ◌≤◌, ◌==◌, ◌&&◌, ◌||◌, nat_lt, not, Bool, IsTrue, All, List, [], ◌∷◌, ◌++◌, length, Option, Some, None, if◌then◌else◌}
use Rattle.std.specs.List.{list_any}
use Rattle.t1_num.specs.Memory.{number_at}
use Rattle.t1_elf.specs.declared.error.ElfError.{ElfError}
use Rattle.t1_elf.specs.declared.error.ElfError.TheVariants.{TooShort, NotElf, WrongClass, WrongOrder, WrongMachine, WrongType, BadHeader, Dynamic, NoSegment, SegmentOutside, EntryOutside, EntryMisaligned}
use Rattle.t1_elf.specs.declared.header.ProgramHeader.{ProgramHeader}
use Rattle.t1_elf.specs.Fields.{type_of, machine_of, entry_of, table_of, header_size_of, header_count_of, headers_of}

-- it is shorter than a file header
unfoldable pub is_too_short : List ℕ → Bool
is_too_short file = nat_lt (length file) 64

-- bytes 0 to 3 are not 7f 45 4c 46
unfoldable pub is_not_elf : List ℕ → Bool
is_not_elf file = not (number_at file 0 4 == 0x7f454c46)

-- byte 4 is not 2: numbers of 64 bits
unfoldable pub has_wrong_class : List ℕ → Bool
has_wrong_class file = not (number_at file 4 1 == 2)

-- byte 5 is not 2: big-endian
unfoldable pub has_wrong_order : List ℕ → Bool
has_wrong_order file = not (number_at file 5 1 == 2)

-- e_machine is not 43: SPARC V9
unfoldable pub has_wrong_machine : List ℕ → Bool
has_wrong_machine file = not (machine_of file == 43)

-- e_type is not 2: a file that can be executed
unfoldable pub has_wrong_type : List ℕ → Bool
has_wrong_type file = not (type_of file == 2)

-- there are program headers, and their size is not 56 or the table does not lie in the file
unfoldable pub has_bad_table : List ℕ → Bool
has_bad_table file =
    nat_lt 0 (header_count_of file)
    && (not (header_size_of file == 56) || nat_lt (length file) (table_of file + 56 * header_count_of file))

-- a program header of what only a dynamic linker can load: p_type is 2 (PT_DYNAMIC) or 3 (PT_INTERP)
abbrev pub is_dynamic : ProgramHeader → Bool
is_dynamic header = (header.kind == 2) || (header.kind == 3)

unfoldable pub has_dynamic : List ℕ → Bool
has_dynamic file = list_any is_dynamic (headers_of file)

-- the program header of a segment: p_type is 1 (PT_LOAD), and p_memsz above 0
abbrev pub is_segment : ProgramHeader → Bool
is_segment header = (header.kind == 1) && nat_lt 0 header.memory_size

unfoldable pub has_no_segment : List ℕ → Bool
has_no_segment file = not (list_any is_segment (headers_of file))

-- a segment whose p_filesz is above its p_memsz, whose bytes do not lie in the file, or which ends above the limit
abbrev pub is_outside : ℕ → ℕ → ProgramHeader → Bool
is_outside len limit header =
    is_segment header
    && (nat_lt header.memory_size header.file_size || (nat_lt len (header.offset + header.file_size)
    || nat_lt limit (header.address + header.memory_size)))

unfoldable pub has_segment_outside : List ℕ → ℕ → Bool
has_segment_outside file limit = list_any (is_outside (length file) limit) (headers_of file)

-- e_entry + 4 is above the limit
unfoldable pub has_entry_outside : List ℕ → ℕ → Bool
has_entry_outside file limit = nat_lt limit (entry_of file + 4)

-- e_entry is no multiple of 4
unfoldable pub has_entry_misaligned : List ℕ → Bool
has_entry_misaligned file = not (entry_of file % 4 == 0)

-- the table of tests: first those of the file header and its table
abbrev pub header_tests_of : List ℕ → List (Bool × ElfError)
header_tests_of file =
    (is_too_short file, TooShort)
    ∷ (is_not_elf file, NotElf)
    ∷ (has_wrong_class file, WrongClass)
    ∷ (has_wrong_order file, WrongOrder)
    ∷ (has_wrong_machine file, WrongMachine)
    ∷ (has_wrong_type file, WrongType)
    ∷ (has_bad_table file, BadHeader)
    ∷ []

-- then those of the program headers, and of the entry
abbrev pub program_tests_of : List ℕ → ℕ → List (Bool × ElfError)
program_tests_of file limit =
    (has_dynamic file, Dynamic)
    ∷ (has_no_segment file, NoSegment)
    ∷ (has_segment_outside file limit, SegmentOutside)
    ∷ (has_entry_outside file limit, EntryOutside)
    ∷ (has_entry_misaligned file, EntryMisaligned)
    ∷ []

abbrev pub tests_of : List ℕ → ℕ → List (Bool × ElfError)
tests_of file limit = header_tests_of file ++ program_tests_of file limit

-- the first test that fails
abbrev pub first_failure : List (Bool × ElfError) → Option ElfError
first_failure [] = None
first_failure ((fails, error) ∷ tests) = if fails then Some error else first_failure tests

-- the table of program headers lies in the file
abbrev pub HasTable : List ℕ → Type 0
HasTable file = 0 < header_count_of file → table_of file + 56 * header_count_of file ≤ length file

-- the bytes of a segment fit in it, and lie in a file of this length
abbrev pub HasBytes : ℕ → ProgramHeader → Type 0
HasBytes len header = IsTrue (is_segment header) → (header.file_size ≤ header.memory_size) × (header.offset + header.file_size ≤ len)

-- what the tests leave to be read
pub record CanBeRead (file : List ℕ) : Type 0 where
  pub long : 64 ≤ length file
  pub table : HasTable file
  pub segments : All (HasBytes (length file)) (headers_of file)
