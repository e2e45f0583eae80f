-- The fields of an ELF-64 file that are looked at (System V ABI, chapters 4 and 5). All numbers are big-endian.
use Rattle.std.specs.Prelude.{ℕ, zero, suc, ◌+◌, List, [], ◌∷◌}
use Rattle.t1_num.specs.Memory.{number_at}
use Rattle.t1_elf.specs.declared.header.ProgramHeader.{ProgramHeader}

-- of the file header: e_type, e_machine, e_entry
abbrev pub type_of : List ℕ → ℕ
type_of file = number_at file 16 2

abbrev pub machine_of : List ℕ → ℕ
machine_of file = number_at file 18 2

abbrev pub entry_of : List ℕ → ℕ
entry_of file = number_at file 24 8

-- the table of program headers: its place e_phoff, the size of a header e_phentsize, their number e_phnum
abbrev pub table_of : List ℕ → ℕ
table_of file = number_at file 32 8

abbrev pub header_size_of : List ℕ → ℕ
header_size_of file = number_at file 54 2

abbrev pub header_count_of : List ℕ → ℕ
header_count_of file = number_at file 56 2

-- the program header at a place: p_type, p_offset, p_vaddr, p_filesz, p_memsz
abbrev pub header_at : List ℕ → ℕ → ProgramHeader
header_at file at = record {
  kind = number_at file at 4;
  offset = number_at file (at + 8) 8;
  address = number_at file (at + 16) 8;
  file_size = number_at file (at + 32) 8;
  memory_size = number_at file (at + 40) 8;
}

-- so many program headers, one after another, from a place on
unfoldable pub headers_from : List ℕ → ℕ → ℕ → List ProgramHeader
headers_from file at zero = []
headers_from file at (suc n) = header_at file at ∷ headers_from file (at + 56) n

-- the program headers of a file
abbrev pub headers_of : List ℕ → List ProgramHeader
headers_of file = headers_from file (table_of file) (header_count_of file)
