-- What an object makes of memory.
use Rattle.std.specs.Prelude.{ℕ, ◌+◌, List, [], ◌∷◌, ◌++◌, length, take, drop, replicate}
use Rattle.t1_elf.specs.declared.object.Chunk.{Chunk}
use Rattle.t1_elf.specs.declared.object.Image.{Image}
use Rattle.t1_elf.specs.declared.object.Object.{Object}

-- so many zeros
abbrev pub zeros_of : ℕ → List ℕ
zeros_of n = replicate n 0

-- the memory after bytes are laid at an address
unfoldable pub with_bytes_at : List ℕ → ℕ → List ℕ → List ℕ
with_bytes_at memory addr bytes = take addr memory ++ (bytes ++ drop (addr + length bytes) memory)

-- the memory after chunks are laid in order, each with its zeros behind its bytes
unfoldable pub laid : List ℕ → List Chunk → List ℕ
laid memory [] = memory
laid memory (chunk ∷ chunks) = laid (with_bytes_at memory chunk.addr (chunk.bytes ++ zeros_of chunk.zeros)) chunks

-- a memory of this many bytes: zeros, and then the chunks of the object
abbrev pub image_of : Object → ℕ → Image
image_of object ram = record { entry = object.entry; ram = laid (zeros_of ram) object.chunks }
