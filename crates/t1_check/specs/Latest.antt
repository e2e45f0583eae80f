-- Positions by byte of memory.
use Rattle.std.specs.Prelude.{ℕ, ◌+◌, ◌/◌, ◌%◌, ◌&&◌, nat_le, nat_lt, Bool, replicate}
use Rattle.std.proofs.Common.{get_or}
use Rattle.std.specs.Option.{unwrap_or}
use Rattle.std.specs.Ordering.{nat_cmp}
use Rattle.std.specs.BTreeMap.{get}
use Rattle.t1_check.specs.declared.latest.Latest.{Latest}

-- the position of a byte, which lies in a word
abbrev pub at : Latest → ℕ → ℕ
at latest addr = get_or (unwrap_or (get nat_cmp latest.words (addr / 8)) (replicate 8 0)) (addr % 8) 0

-- these bytes have that one among them
abbrev pub covers : ℕ → ℕ → ℕ → Bool
covers addr size byte = nat_le addr byte && nat_lt byte (addr + size)
