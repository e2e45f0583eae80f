-- Accesses as a store buffer sees them.
use Rattle.std.specs.Prelude.{ℕ, ◌≡◌, ◌%◌}

-- the address is a multiple of the size
abbrev pub IsAligned : ℕ → ℕ → Type 0
IsAligned addr size = addr % size ≡ 0
