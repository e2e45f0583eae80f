-- What a file is: an object, or the first test that it fails.
use Rattle.std.specs.Prelude.{ℕ, ◌+◌, ◌-◌, ◌≤◌, ◌%◌, ◌≡◌, List, length, take, drop, map, filter, All, Option, Some, None, Result, Ok, Err}
use Rattle.t1_elf.specs.declared.error.ElfError.{ElfError}
use Rattle.t1_elf.specs.declared.header.ProgramHeader.{ProgramHeader}
use Rattle.t1_elf.specs.declared.object.Chunk.{Chunk}
use Rattle.t1_elf.specs.declared.object.Object.{Object}
use Rattle.t1_elf.specs.Fields.{entry_of, headers_of}
use Rattle.t1_elf.specs.Tests.{is_segment, tests_of, first_failure}

-- the chunk of a segment: p_filesz bytes at p_vaddr, and zeros up to p_memsz
abbrev pub chunk_of : List ℕ → ProgramHeader → Chunk
chunk_of file header = record {
  addr = header.address;
  bytes = take header.file_size (drop header.offset file);
  zeros = header.memory_size - header.file_size;
}

-- the segments of a file, in the order of the table
abbrev pub chunks_of : List ℕ → List Chunk
chunks_of file = map (chunk_of file) (filter is_segment (headers_of file))

abbrev pub object_of : List ℕ → Object
object_of file = record { entry = entry_of file; chunks = chunks_of file }

abbrev pub answer_of : List ℕ → Option ElfError → Result Object ElfError
answer_of file None = Ok (object_of file)
answer_of file (Some error) = Err error

unfoldable pub parsed : List ℕ → ℕ → Result Object ElfError
parsed file limit = answer_of file (first_failure (tests_of file limit))

-- a chunk ends at the limit or below it
abbrev pub IsBelow : ℕ → Chunk → Type 0
IsBelow limit chunk = chunk.addr + length chunk.bytes + chunk.zeros ≤ limit

-- so do all chunks of an object, and a word can be fetched at its entry
pub record KeepsTo (limit : ℕ) (object : Object) : Type 0 where
  pub chunks : All (IsBelow limit) object.chunks
  pub entry : object.entry + 4 ≤ limit
  pub aligned : object.entry % 4 ≡ 0
