-- The law of a file that was saved.
use Rattle.std.specs.Prelude.{ℕ, ◌≡◌, ◌+◌, ◌<◌, ◌^◌, length, All, Ok}
use Rattle.t1_elf.specs.declared.object.Chunk.{Chunk}
use Rattle.t1_elf.specs.declared.object.Object.{Object}
use Rattle.t1_elf.specs.Parsed.{parsed, KeepsTo}
use Rattle.t1_elf.specs.Saved.{saved, IsSavable}

-- a chunk has bytes or zeros
abbrev pub IsFilled : Chunk → Type 0
IsFilled chunk = 0 < length chunk.bytes + chunk.zeros

-- an object whose numbers have 64 bits, with at least one chunk and none that is empty
pub record IsWhole (object : Object) : Type 0 where
  pub some : 0 < length object.chunks
  pub filled : All IsFilled object.chunks
  pub entry : object.entry < 2 ^ 64
  pub addresses : All (λ chunk. chunk.addr < 2 ^ 64) object.chunks

-- the file of an object is read back, under each limit that the object keeps to
abbrev pub SavedIsRead : Type 0
SavedIsRead = (object : Object) (limit : ℕ) → IsSavable object → IsWhole object → KeepsTo limit object
    → parsed (saved object) limit ≡ Ok object
