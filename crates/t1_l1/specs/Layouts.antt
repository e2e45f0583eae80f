-- The layouts of the caches that there are.
use Rattle.std.specs.Prelude.{ℕ, ◌≡◌, ◌⊎◌}

-- a power of two from 1 to 128
abbrev pub IsSets : ℕ → Type 0
IsSets n = (n ≡ 1) ⊎ (n ≡ 2) ⊎ (n ≡ 4) ⊎ (n ≡ 8) ⊎ (n ≡ 16) ⊎ (n ≡ 32) ⊎ (n ≡ 64) ⊎ (n ≡ 128)

abbrev pub IsWays : ℕ → Type 0
IsWays n = (n ≡ 4) ⊎ (n ≡ 8)

-- the bytes of a line
abbrev pub IsWidth : ℕ → Type 0
IsWidth n = (n ≡ 16) ⊎ (n ≡ 32)
