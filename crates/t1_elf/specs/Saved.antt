-- The file of an object: the file header, a program header for each chunk, the bytes of the chunks.
use Rattle.std.specs.Prelude.{ℕ, ◌+◌, ◌*◌, ◌<◌, ◌≤◌, ◌^◌, List, [], ◌∷◌, ◌++◌, length, All}
use Rattle.t1_num.specs.Memory.{with_number_at}
use Rattle.t1_elf.specs.declared.object.Chunk.{Chunk}
use Rattle.t1_elf.specs.declared.object.Object.{Object}
use Rattle.t1_elf.specs.Images.{zeros_of}

-- the bytes after fields are put in them, each by its place, its size and its number
abbrev pub with_fields : List ℕ → List (ℕ × ℕ × ℕ) → List ℕ
with_fields bytes [] = bytes
with_fields bytes ((at, size, value) ∷ fields) = with_fields (with_number_at bytes at size value) fields

-- the fields of the file header that are not 0
abbrev pub file_header_fields : ℕ → ℕ → List (ℕ × ℕ × ℕ)
file_header_fields entry count =
    (0, 4, 0x7f454c46)
    ∷ (4, 1, 2)  -- numbers of 64 bits
    ∷ (5, 1, 2)  -- big-endian
    ∷ (6, 1, 1)  -- the version of the identification
    ∷ (16, 2, 2)  -- e_type: a file that can be executed
    ∷ (18, 2, 43)  -- e_machine: SPARC V9
    ∷ (20, 4, 1)  -- e_version
    ∷ (24, 8, entry)  -- e_entry
    ∷ (32, 8, 64)  -- e_phoff
    ∷ (52, 2, 64)  -- e_ehsize
    ∷ (54, 2, 56)  -- e_phentsize
    ∷ (56, 2, count)  -- e_phnum
    ∷ []

unfoldable pub file_header_of : ℕ → ℕ → List ℕ
file_header_of entry count = with_fields (zeros_of 64) (file_header_fields entry count)

-- the fields of the program header of a chunk whose bytes stand at an offset of the file
abbrev pub program_header_fields : ℕ → Chunk → List (ℕ × ℕ × ℕ)
program_header_fields offset chunk =
    (0, 4, 1)  -- p_type: a segment that is loaded
    ∷ (4, 4, 7)  -- p_flags: read, write, execute
    ∷ (8, 8, offset)  -- p_offset
    ∷ (16, 8, chunk.addr)  -- p_vaddr
    ∷ (24, 8, chunk.addr)  -- p_paddr
    ∷ (32, 8, length chunk.bytes)  -- p_filesz
    ∷ (40, 8, length chunk.bytes + chunk.zeros)  -- p_memsz
    ∷ (48, 8, 1)  -- p_align
    ∷ []

unfoldable pub program_header_of : ℕ → Chunk → List ℕ
program_header_of offset chunk = with_fields (zeros_of 56) (program_header_fields offset chunk)

-- the program headers of chunks whose bytes stand one after another from an offset on
unfoldable pub program_headers_from : ℕ → List Chunk → List ℕ
program_headers_from offset [] = []
program_headers_from offset (chunk ∷ chunks) =
    program_header_of offset chunk ++ program_headers_from (offset + length chunk.bytes) chunks

-- the bytes of chunks, one after another
unfoldable pub contents_of : List Chunk → List ℕ
contents_of [] = []
contents_of (chunk ∷ chunks) = chunk.bytes ++ contents_of chunks

abbrev pub saved_chunks : ℕ → List Chunk → List ℕ
saved_chunks entry chunks =
    file_header_of entry (length chunks) ++ (program_headers_from (64 + 56 * length chunks) chunks ++ contents_of chunks)

abbrev pub saved : Object → List ℕ
saved object = saved_chunks object.entry object.chunks

-- the size of a chunk in memory is a number of 64 bits
abbrev pub HasSize : Chunk → Type 0
HasSize chunk = length chunk.bytes + chunk.zeros < 2 ^ 64

-- an object that can be saved
pub record IsSavable (object : Object) : Type 0 where
  pub count : length object.chunks ≤ 65535
  pub bytes : length (contents_of object.chunks) ≤ 67108864
  pub sizes : All HasSize object.chunks
