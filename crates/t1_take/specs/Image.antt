-- A block that is read into a memory.
use Rattle.std.specs.Prelude.{ℕ, ◌≡◌, ◌+◌, ◌-◌, ◌%◌, ◌^◌, ◌<◌, ◌≤◌, ◌&&◌, nat_le, nat_lt, if◌then◌else◌, false, List, length}
use Rattle.std.proofs.Common.{get_or}
use Rattle.t1_num.specs.MemoryLaws.{AreBytes}
use Rattle.t1_log.specs.Lines.{block_line_of}
use Rattle.t1_log.specs.Texts.{is_blank}
use Rattle.t1_take.specs.Taken.{Reads}

-- a memory has this block at an address, and else what it had
abbrev pub HasBlock : List ℕ → List ℕ → ℕ → List ℕ → Type 0
HasBlock old new addr block = (at : ℕ) → get_or new at 0 ≡ (if nat_le addr at && nat_lt at (addr + 32) then get_or block (at - addr) 0 else get_or old at 0)

-- a block of 32 bytes, not all zeros, of a memory of so many bytes, at an address that is not below the least
pub record IsBlockAt (least ram addr : ℕ) (block : List ℕ) : Type 0 where
  pub count : length block ≡ 32
  pub are_bytes : AreBytes block
  pub some : is_blank block ≡ false
  pub place : addr % 32 ≡ 0
  pub above : least ≤ addr
  pub within : addr < ram
  pub digits : addr < 2 ^ 40

-- the line of a block stands there, whose address lies above the least that is left, and the memory has
-- the block now
pub record IsWritten (text : List ℕ) (start end least : ℕ) (old new : List ℕ) (addr : ℕ) : Type 0 where
  pub block : List ℕ
  pub count : length block ≡ 32
  pub some : is_blank block ≡ false
  pub place : addr % 32 ≡ 0
  pub above : least ≤ addr
  pub within : addr + 32 ≤ length old
  pub bytes : HasBlock old new addr block
  pub reads : Reads text start end (block_line_of addr block)
