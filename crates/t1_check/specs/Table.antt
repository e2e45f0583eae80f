-- Numbers by strand and item.
use Rattle.std.specs.Prelude.{ℕ, List, []}
use Rattle.std.proofs.Common.{get_or}

abbrev pub cell : List (List ℕ) → ℕ → ℕ → ℕ
cell table strand item = get_or (get_or table strand []) item 0
