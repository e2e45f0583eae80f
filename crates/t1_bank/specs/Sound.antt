-- What every state that a bank comes to keeps.
use Rattle.std.specs.Prelude.{ℕ, ◌≡◌, ◌*◌, ◌^◌, ◌<◌, ◌≤◌, length, get_or, Some, None, List}
use Rattle.t1_shape.specs.Numbers.{banks, l2_line}
use Rattle.t1_shape.specs.Slots.{IsOnce}
use Rattle.t1_packet.specs.declared.cache.Cache.{Cache}
use Rattle.t1_packet.specs.Caches.{layout, width}
use Rattle.t1_dir.specs.Directory.{HasCore, tags_at}
use Rattle.t1_l2.specs.Array.{IsPresent, lines_of_bank}
use Rattle.t1_l2.specs.Overlay.{IsL2}
use Rattle.t1_event.specs.BankRule.{BankState}

pub record IsSound (b : BankState) : Type 0 where
  pub few : b.cores < 9
  pub shapes : b.array.shape ≡ b.directory.shape
  pub small : b.ram ≤ 2 ^ 28
  pub whole : b.ram ≡ 64 * (banks b.array.shape * length b.array.memory)
  pub core : (core : ℕ) → core < b.cores → HasCore b.directory core
  -- a line stands in at most one way of a core's cache, in its own set
  pub once : (core : ℕ) (cache : Cache) → IsOnce (layout b.directory.shape cache) (tags_at b.directory core cache)
  -- inclusion: what the directory shows lies in a line that is present
  pub inside : (core : ℕ) (cache : Cache) (slot line : ℕ) → core < b.cores → get_or (tags_at b.directory core cache) slot None ≡ Some line
      → IsPresent b.array.tags (l2_line (line * width cache))
  pub array : IsL2 b.array.shape b.array.bank b.array.sets (length b.array.memory) b.array.tags b.array.pointers

-- a flat memory whose lines of this bank are the ones that the bank reads
pub record Mirrors (b : BankState) (memory : List ℕ) : Type 0 where
  pub size : length memory ≡ b.ram
  pub lines : b.array.memory ≡ lines_of_bank b.array.shape b.array.bank memory (length b.array.memory)
